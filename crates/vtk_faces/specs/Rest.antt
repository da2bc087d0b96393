-- The faces behind those of a block: each is looked up in the block's chains. F p is the face at the position p, from the block's first.
-- Main definitions: `InChains`, `Later`, `Chunk`.
use Rattle.std.specs.Prelude.{ℕ, ◌+◌, ◌*◌, ◌/◌, ◌≤◌, ◌<◌, ◌≡◌, List, length}
use Rattle.vtk_faces.specs.Faces.{held_face}
use Rattle.vtk_faces.specs.Chains.{Chains}
use Rattle.vtk_faces.specs.Judged.{Judged, State}

-- the first m faces are those of the buffer, and are in chains
pub record InChains (F : ℕ → List ℕ) (m : ℕ) (buffer heads nexts : List ℕ) : Type 0 where
  pub chains : Chains (held_face buffer) m heads nexts
  pub fits : m ≤ 6 * (length buffer / 8)
  pub held : (p : ℕ) → p < m → F p ≡ held_face buffer p

-- ---- one face

pub record Later (F : ℕ → List ℕ) (m i : ℕ) (buffer heads nexts mates r : List ℕ) : Type 0 where
  pub chained : InChains F m buffer heads nexts
  pub judged : Judged F m i mates
  pub this : F i ≡ r

pub record SomeLater (buffer heads nexts mates r : List ℕ) : Type 0 where
  pub F : ℕ → List ℕ
  pub m : ℕ
  pub i : ℕ
  pub is : Later F m i buffer heads nexts mates r

-- ---- the faces of so many cells in another buffer

pub record Chunk (F : ℕ → List ℕ) (m i : ℕ) (buffer heads nexts mates : List ℕ) (other : ℕ) (chunk : List ℕ) (cells : ℕ) : Type 0 where
  pub chained : InChains F m buffer heads nexts
  pub state : State F m i mates other
  pub these : (j : ℕ) → j < 6 * cells → F (i + j) ≡ held_face chunk j

pub record SomeChunk (buffer heads nexts mates : List ℕ) (other : ℕ) (chunk : List ℕ) (cells : ℕ) : Type 0 where
  pub F : ℕ → List ℕ
  pub m : ℕ
  pub i : ℕ
  pub is : Chunk F m i buffer heads nexts mates other chunk cells
