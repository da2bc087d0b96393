-- What a read knows where the checks up to 20 have passed (`Formed`), of 21 to 23 (`Judged`), and where these have passed (`Passed`, `Checked`).
use Rattle.std.specs.Prelude.{ℕ, ◌<◌, ◌≡◌, Result, Ok, Err, List, [], ◌∷◌, ◌++◌, length, get_or, take}
use Rattle.std.proofs.Math.Option.{some}
use Rattle.model.specs.Vtk.{Grid, grid_of}
use Rattle.model.specs.Checks.{Check, pass, refuse, in_order, solid_ok, table_ok, journal_ok, map_checks, empty_ok}
use Rattle.model.specs.Checks.{vertices_ok, sharing_ok, order_ok, vtk_checks}
use Rattle.model.specs.Meaning.Vtk.{RowsAt}
use Rattle.vtk_faces.specs.Buffers.{Held, Mated}
use Rattle.vtk_form.specs.Parts.{Keeps}
use Rattle.answers.specs.Answers.{Reason, number_of}

-- the checks up to 18
unfoldable pub empty_checks : ℕ → List ℕ → List ℕ → List Check
empty_checks n t j = solid_ok n ∷ table_ok t ∷ journal_ok j ∷ (map_checks n t ++ (empty_ok t ∷ []))

-- the text is of the form, and its cells, all of type 12, stand from the byte `at` on, and in the buffer as far as it goes
pub record Formed (t j text buffer : List ℕ) (at cells : ℕ) : Type 0 where
  pub grid : Grid
  pub is : grid_of text ≡ some grid
  pub passed : in_order (take 10 (vtk_checks 3 t j (some grid))) ≡ pass
  pub stand : RowsAt text at grid.rows
  pub number : cells ≡ length grid.rows
  pub kept : Keeps buffer grid.rows

-- buffers for what a table takes at most, 1,365 cells
pub record Lent (buffer heads nexts mates : List ℕ) : Type 0 where
  pub rows_long : length buffer ≡ 10920
  pub heads_long : length heads ≡ 16384
  pub nexts_long : length nexts ≡ 8191
  pub mates_long : length mates ≡ 8191

-- the buffer has the cells of these rows, eight words to each
pub record CellsHeld (buffer : List ℕ) (cells : ℕ) (rows : List (List ℕ)) : Type 0 where
  pub held : Held buffer rows
  pub eight : (c : ℕ) → c < length rows → length (get_or rows c []) ≡ 8
  pub number : cells ≡ length rows

pub record SomeCellsHeld (buffer : List ℕ) (cells : ℕ) : Type 0 where
  pub rows : List (List ℕ)
  pub is : CellsHeld buffer cells rows

-- 21 to 23
unfoldable pub cell_checks : List (List ℕ) → List Check
cell_checks rows = vertices_ok rows ∷ sharing_ok rows ∷ order_ok rows ∷ []

-- a result tells which of them refuses first, if any
abbrev pub first_refusal : Result (Unit {0}) Reason → Check
first_refusal (Ok passed) = pass
first_refusal (Err reason) = refuse (number_of reason) 0 0

pub record Judged (rows : List (List ℕ)) (found : Result (Unit {0}) Reason) : Type 0 where
  pub gives : in_order (cell_checks rows) ≡ first_refusal found

-- and where none does the buffer `mates` has the mates of the cells' faces
pub record JudgedHeld (rows : List (List ℕ)) (mates : List ℕ) (found : Result (Unit {0}) Reason) : Type 0 where
  pub judged : Judged rows found
  pub mated : found ≡ Ok tt → Mated rows mates

-- the checks before 14 have passed
pub record Passed (t j text : List ℕ) (cells : ℕ) : Type 0 where
  pub grid : Grid
  pub is : grid_of text ≡ some grid
  pub passed : in_order (take 13 (vtk_checks 3 t j (some grid))) ≡ pass
  pub number : cells ≡ length grid.rows

-- and the buffer has the mates of the cells' faces
pub record Checked (t j text mates : List ℕ) (cells : ℕ) : Type 0 where
  pub pass : Passed t j text cells
  pub mated : Mated pass.grid.rows mates

pub record SomeChecked (t j mates : List ℕ) (cells : ℕ) : Type 0 where
  pub text : List ℕ
  pub are : Checked t j text mates cells
