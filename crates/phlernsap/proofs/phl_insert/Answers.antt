-- `phlernsap::phl_insert` meets its contract, by that of `kernel::insert`.
use Rattle.phlernsap.proofs.Gives.{gives}
use Rattle.phlernsap.proofs.phl_insert.Goals as goal

pub returns : goal.returns
returns c = gives _ c.give.ensures (search)
