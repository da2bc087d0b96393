-- `phlernsap::phl_check` meets its contract, by that of `kernel::check`.
use Rattle.phlernsap.proofs.Gives.{gives}
use Rattle.phlernsap.proofs.phl_check.Goals as goal

pub returns : goal.returns
returns c = gives _ c.give.ensures (search)
