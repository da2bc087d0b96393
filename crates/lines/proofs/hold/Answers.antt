-- `lines::hold` meets its contract.
use native.Mathlib.Omega.{arith}
use Rattle.lines.proofs.Steps.{hold_more, hold_full}
use Rattle.lines.proofs.hold.Goals as goal

pub returns-then-held-lt15 : goal.returns-then-held-lt15
returns-then-held-lt15 c = (hold_more _ _ _ c.if-held-lt15.true c.requires.1, omega arith)

pub returns : goal.returns
returns c = (hold_full _ _ _ c.if-held-lt15.false (omega arith), c.requires.0)
