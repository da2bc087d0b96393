-- `phlernsap::phl_undo` meets its contract, by that of `kernel::undo`.
use Rattle.phlernsap.proofs.Gives.{gives}
use Rattle.phlernsap.proofs.phl_undo.Goals as goal

pub returns : goal.returns
returns c = gives _ c.give.ensures (search)
