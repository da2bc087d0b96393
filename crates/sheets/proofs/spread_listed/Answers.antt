-- `sheets::spread_listed` meets its contract.
use Prim.Native.Nat.{◌≤◌}
use native.Mathlib.Omega.{arith}
use Rattle.numbering.proofs.Orders.{size_few}
use Rattle.sheets.proofs.Spreading.{cell_dart_lem, ready_of}
use Rattle.sheets.proofs.spread_listed.Given.{Over}
use Rattle.sheets.proofs.spread_listed.Goals as goal
use Rattle.sheets.proofs.spread_listed.Goals.{Start}

-- a cell has few darts
few : (g : Over) (c : Start g) → g.row.SIZE ≤ 48
few g c = let size = size_few g.row.N c.requires.0.dart.table.dim in let same = c.requires.1 in omega arith

pub cell-cell-requires : goal.cell-cell-requires
cell-cell-requires g c =
    let few = few g (goal.at.cell-cell-requires g c).Start in
    (omega arith, (cell_dart_lem c.requires.0, c.requires.1))

pub shared_whole_as_slice-spread_cell : goal.shared_whole_as_slice-spread_cell
shared_whole_as_slice-spread_cell g c = let few = few g (goal.at.shared_whole_as_slice-spread_cell g c).Start in omega arith

pub spread_cell-requires : goal.spread_cell-requires
spread_cell-requires g c =
    ready_of _ c.requires.0 c.cell-cell.ensures

pub returns : goal.returns
returns g c =
    rw c.cell-cell.ensures at c.spread_cell.ensures
