-- `phlernsap::phl_split` meets its contract, by that of `kernel::split`.
use Rattle.phlernsap.proofs.Gives.{gives}
use Rattle.phlernsap.proofs.phl_split.Goals as goal

pub returns : goal.returns
returns c = gives _ c.give.ensures (search)
