-- `phlernsap::phl_add` meets its contract, by that of `kernel::add`.
use Rattle.phlernsap.proofs.Gives.{gives}
use Rattle.phlernsap.proofs.phl_add.Goals as goal

pub returns : goal.returns
returns c = gives _ c.give.ensures (search)
