-- `call_add::cell_slot` meets its contract.
use Prim.Native.Nat.{◌<◌}
use native.Mathlib.Omega.{arith}
use lib.ListN.{length}
use Rattle.model.specs.Numbering.{cell_link}
use Rattle.theorems.proofs.Cells.Rows.{row_goes}
use Rattle.call_add.proofs.cell_slot.Goals as goal
use Rattle.call_add.proofs.cell_slot.Goals.{Start}

goes : (s : Start) → let a = s.args in cell_link a.n a.i a.k < length a.fresh.now
goes s =
    let a = s.args in
    let (dim, index, low, long) = s.requires in
    let goes = row_goes a.n a.k dim low a.i index in
    omega arith

pub bounds-fresh-cell_link : goal.bounds-fresh-cell_link
bounds-fresh-cell_link c =
    rw c.cell_link.ensures (goes (goal.at.bounds-fresh-cell_link c).Start)

pub overflow_cast-result-2 : goal.overflow_cast-result-2
overflow_cast-result-2 c = omega (arith, c.shared_slice_known-2-1.given c.cell_link.result)

pub returns : goal.returns
returns c = rw c.cell_link.ensures
