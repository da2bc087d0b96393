-- `phlernsap::phl_orbit` meets its contract, by that of `kernel::orbit`.
use Rattle.phlernsap.proofs.Gives.{gives}
use Rattle.phlernsap.proofs.phl_orbit.Goals as goal

pub returns : goal.returns
returns c = gives _ c.give.ensures (search)
