-- `phlernsap::phl_sheet` meets its contract, by that of `kernel::sheet`.
use Rattle.phlernsap.proofs.Gives.{gives}
use Rattle.phlernsap.proofs.phl_sheet.Goals as goal

pub returns : goal.returns
returns c = gives _ c.give.ensures (search)
