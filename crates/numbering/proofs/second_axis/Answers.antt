-- `numbering::second_axis` meets its contract.
use Rattle.numbering.proofs.Orders.{second_lower, second_higher}
use Rattle.numbering.proofs.second_axis.Goals as goal

pub returns-then-left-first : goal.returns-then-left-first
returns-then-left-first c = second_lower c.args.order c.if-left-first.true

pub returns-else-left-first : goal.returns-else-left-first
returns-else-left-first c = second_higher c.args.order c.if-left-first.false
