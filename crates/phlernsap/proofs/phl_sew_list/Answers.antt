-- `phlernsap::phl_sew_list` meets its contract, by that of `kernel::sew_list`.
use Rattle.phlernsap.proofs.Gives.{gives}
use Rattle.phlernsap.proofs.phl_sew_list.Goals as goal

pub returns : goal.returns
returns c = gives _ c.give.ensures (search)
