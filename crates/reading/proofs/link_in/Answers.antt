-- `reading::link_in` meets its contract.
use Prim.Native.Nat.{◌+◌, ◌*◌}
use native.Mathlib.Omega.{arith}
use Rattle.model.specs.Table.{link, unused}
use Rattle.theorems.proofs.Sets.Closure.{get_or_any}
use Rattle.reading.proofs.link_in.Goals as goal

pub returns : goal.returns
unfolding link
returns c =
    let a = c.args in
    get_or_any a.table.now (4 * a.d + a.i) 0 unused (omega arith)
