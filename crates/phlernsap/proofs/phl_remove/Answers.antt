-- `phlernsap::phl_remove` meets its contract, by that of `kernel::remove`.
use Rattle.phlernsap.proofs.Gives.{gives}
use Rattle.phlernsap.proofs.phl_remove.Goals as goal

pub returns : goal.returns
returns c = gives _ c.give.ensures (search)
