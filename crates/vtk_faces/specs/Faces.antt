-- A face as a value, where its vertices are listed, and the faces of the cells in a buffer.
use Rattle.std.specs.Prelude.{ℕ, ◌*◌, ◌/◌, ◌%◌, ◌<◌, ◌≡◌, List, [], ◌∷◌, get_or, take, drop}
use Rattle.model.specs.Faces.{sites, round, face_darts}
use Rattle.vtk_faces.specs.declared.Face.{Face}

-- its four vertices
abbrev pub four : Face → List ℕ
four r = r.a ∷ r.b ∷ r.c ∷ r.d ∷ []

-- where the (j % 4)-th vertex of the (j / 4)-th face of a cell is listed
unfoldable pub site_at : ℕ → ℕ
site_at j = get_or (sites (get_or face_darts (j / 4) 0)) (j % 4) 0

-- the list has this for all six faces
abbrev pub Sited : List ℕ → Type 0
Sited s = (j : ℕ) → j < 24 → get_or s j 0 ≡ site_at j

-- the row of the cell c in the buffer, eight words to a cell
unfoldable pub held_row : List ℕ → ℕ → List ℕ
held_row buffer c = take 8 (drop (8 * c) buffer)

-- the face at the position p there, six to a cell
unfoldable pub held_face : List ℕ → ℕ → List ℕ
held_face buffer p = round (held_row buffer (p / 6)) (get_or face_darts (p % 6) 0)
