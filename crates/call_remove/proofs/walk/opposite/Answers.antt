-- `call_remove::walk::opposite` meets its contract.
use mathlib.Core.Path.{sym, ◌∙◌}
use Rattle.call_remove.proofs.Hops.{opposite_solid, opposite_flat}
use Rattle.call_remove.proofs.walk.opposite.Goals as goal

pub returns-then-n-eq3 : goal.returns-then-n-eq3
returns-then-n-eq3 c =
    let a = c.args in
    rw (c.link-then-n-eq3.ensures, c.opposite_edge.ensures, c.link.ensures)
    (sym (opposite_solid a.n a.table.now a.y c.if-n-eq3.true))

pub returns-else-n-eq3 : goal.returns-else-n-eq3
returns-else-n-eq3 c =
    let a = c.args in
    c.opposite_edge-else-n-eq3.ensures ∙ sym (opposite_flat a.n a.table.now a.y c.if-n-eq3.false)
