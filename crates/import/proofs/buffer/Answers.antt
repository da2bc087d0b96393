-- `import::buffer` meets its contract: by the law of a repeat's length, and not by counting.
use mathlib.Core.Path.{sym}
use lib.ListN.{length-replicate}
use Rattle.import.proofs.buffer.Goals as goal

pub returns : goal.returns
returns _ c = sym (length-replicate _ _)
