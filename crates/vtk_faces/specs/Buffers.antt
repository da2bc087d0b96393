-- Rows of cells in a buffer (`Held`), and the mates of their faces (`Mated`).
use Rattle.std.specs.Prelude.{ℕ, ◌+◌, ◌*◌, ◌/◌, ◌≤◌, ◌<◌, ◌≡◌, ◌≢◌, true, false, List, [], length, get_or, take, drop}
use Rattle.model.specs.Faces.{same_four, round_at}
use Rattle.model.specs.Meaning.Vtk.{face_at}
use Rattle.vtk_faces.specs.Walks.{walk_dart}

-- the buffer has the rows, eight words to each
pub record Held (buffer : List ℕ) (rows : List (List ℕ)) : Type 0 where
  pub long : 8 * length rows ≤ length buffer
  pub row : (c : ℕ) → c < length rows → take 8 (drop (8 * c) buffer) ≡ get_or rows c []

-- the first dart of the face at the position p meets the one at the place x of the walks: that has its round, and is of another face
pub record MateAt (rows : List (List ℕ)) (p x : ℕ) : Type 0 where
  pub low : x < 48 * length rows
  pub other : x / 8 ≢ p
  pub four : same_four (face_at rows p) (face_at rows (x / 8)) ≡ true
  pub same : round_at rows (walk_dart x) ≡ face_at rows p

-- the word p + 1 is 8 more than that place, or 0 if no other face has the same four vertices
pub record Mated (rows : List (List ℕ)) (mates : List ℕ) : Type 0 where
  pub long : 6 * length rows < length mates
  pub alone : (p : ℕ) → p < 6 * length rows → get_or mates (p + 1) 0 ≡ 0
      → (q : ℕ) → q < 6 * length rows → q ≢ p → same_four (face_at rows p) (face_at rows q) ≡ false
  pub two : (p : ℕ) → p < 6 * length rows → get_or mates (p + 1) 0 ≢ 0
      → (x : ℕ) × (get_or mates (p + 1) 0 ≡ x + 8) × MateAt rows p x
