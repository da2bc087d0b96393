-- `printing::dart_lines` meets its contract: its parts, one behind the other.
use native.Mathlib.Omega.{arith}
use Rattle.model.specs.Session.{dart_lines}
use Rattle.texts.proofs.Writing.{appended_then}
use Rattle.printing.proofs.dart_lines.Goals as goal

pub returns : goal.returns
unfolding dart_lines
returns c =
    (appended_then c.say-to.ensures.0 c.to_line.ensures.0, omega (arith, c.to_line.ensures.1, c.say-to.ensures.1))
