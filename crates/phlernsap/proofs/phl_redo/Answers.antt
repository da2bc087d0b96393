-- `phlernsap::phl_redo` meets its contract, by that of `kernel::redo`.
use Rattle.phlernsap.proofs.Gives.{gives}
use Rattle.phlernsap.proofs.phl_redo.Goals as goal

pub returns : goal.returns
returns c = gives _ c.give.ensures (search)
