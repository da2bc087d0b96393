-- `numbering::swap_last` meets its contract.
use Rattle.numbering.proofs.Orders.{swap_last_three}
use Rattle.numbering.proofs.swap_last.Goals as goal

pub returns : goal.returns
returns c = swap_last_three c.args.order c.requires
