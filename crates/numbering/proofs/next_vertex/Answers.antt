-- `numbering::next_vertex` meets its contract.
use mathlib.Core.Path.{◌∙◌}
use Rattle.numbering.proofs.Orders.{axis_few, flip_axis, vertex_zero, vertex_rest}
use Rattle.numbering.proofs.next_vertex.Goals as goal

pub overflow_shl-result : goal.overflow_shl-result
overflow_shl-result c =
    rw c.first_axis.ensures (axis_few c.args.n c.requires.0 c.args.order c.requires.1)

pub returns-then-i-eq0 : goal.returns-then-i-eq0
returns-then-i-eq0 c =
    let a = c.args in
    rw c.first_axis.ensures (flip_axis a.n c.requires.0 a.order c.requires.1 a.vertex c.requires.2)
    ∙ vertex_zero a.n a.i a.order a.vertex c.if-i-eq0.true

pub returns-else-i-eq0 : goal.returns-else-i-eq0
returns-else-i-eq0 c = let a = c.args in vertex_rest a.n a.i a.order a.vertex c.if-i-eq0.false
