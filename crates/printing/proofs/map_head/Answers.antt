-- `printing::map_head` meets its contract: two lines.
use native.Mathlib.Omega.{arith}
use Rattle.texts.proofs.Writing.{appended_then}
use Rattle.printing.proofs.map_head.Goals as goal

pub returns : goal.returns
returns c =
    (appended_then c.say-size.ensures.0 c.say.ensures.0, omega (arith, c.say.ensures.1, c.say-size.ensures.1))
