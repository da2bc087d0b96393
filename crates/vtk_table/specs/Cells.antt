-- What table and record of a read are written from: the mates of faces in a buffer (`Cells`), the way round a face from each of its darts
-- (`step_at`), and the words of a cell in the first slots (`word_at`).
use Rattle.std.specs.Prelude.{ℕ, ◌+◌, ◌*◌, ◌/◌, ◌%◌, ◌≤◌, ◌<◌, ◌≡◌, true, false, List, [], ◌∷◌, length, get_or, replicate, eqb}
use Rattle.model.specs.Table.{unused}
use Rattle.model.specs.Numbering.{cell_link}
use Rattle.model.specs.Faces.{face_darts, vtk_table}
use Rattle.model.specs.Meaning.Vtk.{Readable}
use Rattle.model.specs.Meaning.Numbers.{JournalRule}
use Rattle.vtk_faces.specs.Walks.{face_walk, walk_at}
use Rattle.vtk_faces.specs.Buffers.{Mated}
use Rattle.drafts.specs.Passes.{Room, Pass, FourLinks}

-- the dart that y % 8 steps by links 0, 1, 0, .. lead to from the one at the place y / 8 of a cell's walks
unfoldable pub step_at : ℕ → ℕ
step_at y = face_walk (y % 8) (walk_at (y / 8))

-- the first n entries of the list are these
abbrev pub Steps : ℕ → List ℕ → Type 0
Steps n steps = (y : ℕ) → y < n → get_or steps y 0 ≡ step_at y

-- link 3 of a cell's darts, before and after: g's for the first n darts round the face of k, and still g's where it was
pub record Sews (g : ℕ → ℕ) (k n : ℕ) (thirds thirds' : List ℕ) : Type 0 where
  pub face : (i : ℕ) → i < n → get_or thirds' (face_walk i k) 0 ≡ g (face_walk i k)
  pub stays : (x : ℕ) → get_or thirds x 0 ≡ g x → get_or thirds' x 0 ≡ g x

-- the slot of the first dart of the face at the position p, six to a cell
unfoldable pub first_dart : ℕ → ℕ
first_dart p = 48 * (p / 6) + get_or face_darts (p % 6) 0

-- t can be filled with the cells of these rows, and the mates of their faces stand in a buffer
pub record Cells (t : List ℕ) (rows : List (List ℕ)) (mates : List ℕ) : Type 0 where
  pub readable : Readable t rows
  pub mated : Mated rows mates

-- some table and rows, of which there is a row c
pub record SomeCells (mates : List ℕ) (c : ℕ) : Type 0 where
  pub t : List ℕ
  pub rows : List (List ℕ)
  pub cells : Cells t rows mates
  pub low : c < length rows

-- ---- table and record

-- the words of the record of a cell in the slots 0 to 47, three to an entry: the entry, the old value and the new one, with 0 for each link 3
unfoldable pub word_at : ℕ → ℕ
word_at y =
    elim (eqb (y % 3) 0) [
      | true ↦ y / 3
      | false ↦ (elim (eqb (y % 3) 1) [
        | true ↦ unused
        | false ↦ (elim (eqb (y / 3 % 4) 3) [ true ↦ 0 | false ↦ cell_link 3 (y / 3 % 4) (y / 12) ])
      ])
    ]

-- all of them in a list, and in another those that such a cell has in the table
abbrev pub RecordWords : List ℕ → Type 0
RecordWords words = (y : ℕ) → y < 576 → get_or words y 0 ≡ word_at y

abbrev pub TableWords : List ℕ → Type 0
TableWords own = (x : ℕ) → x < 192 → get_or own x 0 ≡ word_at (3 * x + 2)

-- what is added to the four new values of a dart: the first slot of its cell, and for link 3 the slot that it is sewn to
abbrev pub shifts : (cell third : ℕ) → List ℕ
shifts cell third = cell ∷ cell ∷ cell ∷ third ∷ []

-- the links of the dart k of that cell
abbrev pub dart_links : (cell third k : ℕ) → List ℕ
dart_links cell third k = (cell_link 3 0 k + cell) ∷ (cell_link 3 1 k + cell) ∷ (cell_link 3 2 k + cell) ∷ third ∷ []

-- of a table t that is to be u, the entries below e are u's
pub record Placed (t u : List ℕ) (e : ℕ) (v : List ℕ) : Type 0 where
  pub long : length v ≡ length t
  pub new : (y : ℕ) → y < e → get_or v y unused ≡ get_or u y unused
  pub stays : (y : ℕ) → e ≤ y → get_or v y unused ≡ get_or t y unused

-- the darts of the cell c are new, and sewn to these
pub record NewCell (t u thirds : List ℕ) (c : ℕ) : Type 0 where
  pub four : (k : ℕ) → k < 48 → FourLinks t u (48 * c + k) (replicate 4 unused) (dart_links (48 * c) (get_or thirds k 0) k)

-- some pass comes to such a cell
pub record ToCell (thirds : List ℕ) (c at : ℕ) (v w : List ℕ) : Type 0 where
  pub t : List ℕ
  pub u : List ℕ
  pub j : List ℕ
  pub rule : JournalRule j
  pub placed : Placed t u (4 * (48 * c)) v
  pub pass : Pass t u j (48 * c) at w
  pub new : NewCell t u thirds c

-- all of the cells, whose record has room in j
pub record NewCells (t : List ℕ) (rows : List (List ℕ)) (mates : List ℕ) (cells : ℕ) (j : List ℕ) : Type 0 where
  pub are : Cells t rows mates
  pub number : cells ≡ length rows
  pub rule : JournalRule j
  pub room : Room t (vtk_table t rows) j

pub record SomeNewCells (t mates : List ℕ) (cells : ℕ) (j : List ℕ) : Type 0 where
  pub rows : List (List ℕ)
  pub are : NewCells t rows mates cells j
