-- `texts::put_byte` meets its contract.
use Rattle.texts.proofs.Writing.{appended_byte}
use Rattle.texts.proofs.put_byte.Goals as goal

pub returns : goal.returns
returns c = appended_byte _ _ _ c.requires
