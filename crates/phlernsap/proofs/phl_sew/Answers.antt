-- `phlernsap::phl_sew` meets its contract, by that of `kernel::sew`.
use Rattle.phlernsap.proofs.Gives.{gives}
use Rattle.phlernsap.proofs.phl_sew.Goals as goal

pub returns : goal.returns
returns c = gives _ c.give.ensures (search)
