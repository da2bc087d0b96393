-- `picks::enter` meets its contract.
use Rattle.picks.proofs.Entering.{entered_one}
use Rattle.picks.proofs.enter.Goals as goal

pub returns : goal.returns
returns c = entered_one _ _ _ _ c.requires.0 c.requires.1
