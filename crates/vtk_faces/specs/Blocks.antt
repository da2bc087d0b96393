-- The faces of a block of at most 1,365 cells in the buffer, and what is found of them.
-- Main definitions: `CellsIn`, `Verdict`.
use Rattle.std.specs.Prelude.{ℕ, ◌*◌, ◌≤◌, ◌<◌, ◌≡◌, ◌≢◌, List, length, get_or}
use Rattle.model.specs.Checks.{pass, refuse, sharing_ok, order_ok}
use Rattle.model.specs.Meaning.Vtk.{Hexahedra}
use Rattle.vtk_faces.specs.Buffers.{Held, Mated}
use Rattle.vtk_faces.specs.Faces.{Sited, held_face}
use Rattle.vtk_faces.specs.Turns.{Turned}
use Rattle.vtk_faces.specs.Chains.{Chains}
use Rattle.vtk_faces.specs.Judged.{Ran, Number}

-- the buffer has the cells of these rows
pub record CellsIn (buffer : List ℕ) (cells : ℕ) (rows : List (List ℕ)) : Type 0 where
  pub held : Held buffer rows
  pub number : cells ≡ length rows
  pub hexahedra : Hexahedra rows

pub record SomeCells (buffer : List ℕ) (cells : ℕ) : Type 0 where
  pub rows : List (List ℕ)
  pub is : CellsIn buffer cells rows

-- buffers for the faces of so many cells
pub record Lent (heads nexts mates : List ℕ) (cells : ℕ) : Type 0 where
  pub few : cells ≤ 1365
  pub heads_long : length heads ≡ 16384
  pub nexts_room : 6 * cells < length nexts
  pub mates_room : 6 * cells < length mates

-- what 22 and 23 say of the rows: 0 where both pass, else the number of the first that does not
pub record Verdict (rows : List (List ℕ)) (number : ℕ) : Type 0 where
  pub is : Number number
  pub passes : number ≡ 0 → (sharing_ok rows ≡ pass) × (order_ok rows ≡ pass)
  pub three : number ≡ 22 → sharing_ok rows ≡ refuse 22 0 0
  pub other : number ≡ 23 → (sharing_ok rows ≡ pass) × (order_ok rows ≡ refuse 23 0 0)

-- and the mates of the faces, where both pass
pub record JudgedCells (rows : List (List ℕ)) (mates : List ℕ) (number : ℕ) : Type 0 where
  pub verdict : Verdict rows number
  pub mated : number ≡ 0 → Mated rows mates

-- ---- the block's own faces

-- before the first
pub record Own (buffer sites heads nexts mates : List ℕ) (cells : ℕ) : Type 0 where
  pub sited : Sited sites
  pub long : 8 * cells ≤ length buffer
  pub lent : Lent heads nexts mates cells
  pub clear : (h : ℕ) → h < 16384 → get_or heads h 0 ≡ 0

-- after the last of n faces, or the third with the same four vertices
pub record Block (buffer : List ℕ) (n : ℕ) (heads nexts mates : List ℕ) (number : ℕ) : Type 0 where
  pub ran : Ran (held_face buffer) n n mates number
  pub chains : number ≢ 22 → Chains (held_face buffer) n heads nexts
  pub turned : number ≡ 0 → Turned buffer n mates
