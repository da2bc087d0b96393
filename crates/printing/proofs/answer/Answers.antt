-- `printing::answer` meets its contract: three lines.
use native.Mathlib.Omega.{arith}
use Rattle.model.specs.Session.{answered}
use Rattle.texts.proofs.Writing.{appended_then}
use Rattle.printing.proofs.answer.Goals as goal

pub returns : goal.returns
unfolding answered
returns c = (
  rw c.from-told.ensures at (appended_then (appended_then c.say-place.ensures.0 c.say-count.ensures.0) c.say.ensures.0),
  omega (arith, c.say.ensures.1, c.say-count.ensures.1, c.say-place.ensures.1),
)
