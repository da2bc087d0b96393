-- `numbering::order_of` meets its contract.
use Rattle.numbering.proofs.Orders.{order_lower, order_higher}
use Rattle.numbering.proofs.order_of.Goals as goal

pub returns-then-second-first : goal.returns-then-second-first
returns-then-second-first c = order_lower _ _ c.if-second-first.true

pub returns-else-second-first : goal.returns-else-second-first
returns-else-second-first c = order_higher _ _ c.if-second-first.false
