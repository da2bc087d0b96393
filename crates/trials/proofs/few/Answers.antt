-- `trials::few` meets its contract.
use Rattle.std.proofs.Common.{sym, length-take-le}
use Rattle.trials.proofs.few.Goals as goal

pub returns-then-most-words : goal.returns-then-most-words
returns-then-most-words _ c = (c.if-most-words.true, sym (length-take-le _ _ c.if-most-words.true))
