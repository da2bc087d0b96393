-- `reading::crossed` meets its contract.
use mathlib.Core.Path.{sym}
use native.Mathlib.Omega.{arith}
use Rattle.theorems.proofs.Maps.Rules.{crossed_far}
use Rattle.reading.proofs.crossed.Goals as goal

pub returns : goal.returns
returns c =
    let a = c.args in
    rw (c.link-4.ensures, c.link-3.ensures, c.link-2.ensures, c.link.ensures)
    (sym (crossed_far 3 a.table.now a.d a.i a.j (omega arith)))
