-- The way round the faces of a cell: from the first dart of a face by links 0, 1, 0, .. through all eight (`face_walk`), and the places that
-- the darts have in it (`walk_at`, `walk_dart`).
use Rattle.std.specs.Prelude.{ℕ, zero, suc, ◌+◌, ◌*◌, ◌/◌, ◌%◌, get_or}
use Rattle.model.specs.Numbering.{cell_link}
use Rattle.model.specs.Faces.{face_darts}

-- j steps round the face of the dart k, by links 0, 1, 0, ..
unfoldable pub face_walk : ℕ → ℕ → ℕ
face_walk zero k = k
face_walk (suc j) k = cell_link 3 (j % 2) (face_walk j k)

-- the walks of a cell, round one face after the other: the dart at the place x, eight places to a face
unfoldable pub walk_at : ℕ → ℕ
walk_at x = face_walk (x % 8) (get_or face_darts (x / 8) 0)

-- and the slot of the dart at the place x of the walks of all cells, 48 places to a cell
unfoldable pub walk_dart : ℕ → ℕ
walk_dart x = 48 * (x / 48) + walk_at (x % 48)
