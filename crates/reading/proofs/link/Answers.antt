-- `reading::link` meets its contract.
use Prim.Native.Nat.{◌+◌, ◌*◌}
use mathlib.Core.Path.{sym}
use native.Mathlib.Omega.{arith}
use lib.ListN.{get_or-eq_default}
use Rattle.model.specs.Table.{link, unused}
use Rattle.theorems.proofs.Sets.Closure.{get_or_any}
use Rattle.reading.proofs.link.Goals as goal

pub returns-then-entry-table : goal.returns-then-entry-table
unfolding link
returns-then-entry-table c =
    let a = c.args in
    get_or_any a.table.now (4 * a.d + a.i) 0 unused (omega arith)

pub returns-else-entry-table : goal.returns-else-entry-table
unfolding link
returns-else-entry-table c =
    let a = c.args in
    sym (get_or-eq_default a.table.now unused (omega arith))
