-- The cells of a text, block by block.
-- Main definitions: `CellsAt`, `Judgeable`; `Rest`, `BlockAt`.
use Rattle.std.specs.Prelude.{ℕ, ◌+◌, ◌*◌, ◌≤◌, ◌<◌, ◌≡◌, List, [], length, get_or, drop}
use Rattle.model.specs.Meaning.Vtk.{RowsAt, Hexahedra, face_at}
use Rattle.vtk_faces.specs.Faces.{held_face}
use Rattle.vtk_faces.specs.Judged.{State}
use Rattle.vtk_faces.specs.Rest.{InChains}

-- the cells of these rows stand in the text from the byte `at` on
pub record CellsAt (text : List ℕ) (at cells : ℕ) (rows : List (List ℕ)) : Type 0 where
  pub stand : RowsAt text at rows
  pub eight : (c : ℕ) → c < length rows → length (get_or rows c []) ≡ 8
  pub number : cells ≡ length rows

pub record SomeCellsAt (text : List ℕ) (at cells : ℕ) : Type 0 where
  pub rows : List (List ℕ)
  pub is : CellsAt text at cells rows

-- and no vertex stands twice in a cell
pub record Judgeable (text : List ℕ) (at cells : ℕ) (rows : List (List ℕ)) : Type 0 where
  pub stand : RowsAt text at rows
  pub hexahedra : Hexahedra rows
  pub number : cells ≡ length rows

pub record SomeJudgeable (text : List ℕ) (at cells : ℕ) : Type 0 where
  pub rows : List (List ℕ)
  pub is : Judgeable text at cells rows

-- the face at the position p, from the cell d on
unfoldable pub face_from : List (List ℕ) → ℕ → ℕ → List ℕ
face_from rows d p = face_at rows (6 * d + p)

-- the cells d, .., d + k - 1 are the block's; the others behind them, `cells` of them, stand in the text from `at` on
pub record Rest (rows : List (List ℕ)) (d k : ℕ) (buffer heads nexts mates : List ℕ) (other : ℕ) (text : List ℕ) (at cells : ℕ)
    : Type 0 where
  pub chained : InChains (face_from rows d) (6 * k) buffer heads nexts
  pub state : State (face_from rows d) (6 * k) (6 * k) mates other
  pub stand : RowsAt text at (drop (d + k) rows)
  pub eight : (c : ℕ) → c < length rows → length (get_or rows c []) ≡ 8
  pub number : d + k + cells ≡ length rows

pub record SomeRest (buffer heads nexts mates : List ℕ) (other : ℕ) (text : List ℕ) (at cells : ℕ) : Type 0 where
  pub rows : List (List ℕ)
  pub d : ℕ
  pub k : ℕ
  pub is : Rest rows d k buffer heads nexts mates other text at cells

-- the cells d, .., d + k - 1 are in the buffer; the others behind them stand in the text from `at` on
pub record BlockAt (rows : List (List ℕ)) (d k : ℕ) (buffer text : List ℕ) (at cells : ℕ) : Type 0 where
  pub hexahedra : Hexahedra rows
  pub held : (p : ℕ) → p < 6 * k → held_face buffer p ≡ face_from rows d p
  pub long : 8 * k ≤ length buffer
  pub stand : RowsAt text at (drop (d + k) rows)
  pub number : d + k + cells ≡ length rows

pub record SomeBlockAt (k : ℕ) (buffer text : List ℕ) (at cells : ℕ) : Type 0 where
  pub rows : List (List ℕ)
  pub d : ℕ
  pub is : BlockAt rows d k buffer text at cells
