-- `phlernsap::phl_unsew` meets its contract, by that of `kernel::unsew`.
use Rattle.phlernsap.proofs.Gives.{gives}
use Rattle.phlernsap.proofs.phl_unsew.Goals as goal

pub returns : goal.returns
returns c = gives _ c.give.ensures (search)
