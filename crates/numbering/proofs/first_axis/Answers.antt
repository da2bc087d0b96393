-- `numbering::first_axis` meets its contract.
use Rattle.numbering.proofs.Orders.{axis_solid, axis_flat}
use Rattle.numbering.proofs.first_axis.Goals as goal

pub returns-then-n-eq3 : goal.returns-then-n-eq3
returns-then-n-eq3 c = let a = c.args in axis_solid a.n a.order c.if-n-eq3.true

pub returns-else-n-eq3 : goal.returns-else-n-eq3
returns-else-n-eq3 c = let a = c.args in axis_flat a.n a.order c.if-n-eq3.false
