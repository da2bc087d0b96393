-- `sheets::mark_other` meets its contract.
use mathlib.Core.Path.{refl}
use mathlib.Core.Logic.{inl, inr}
use Rattle.sheets.proofs.mark_other.Goals as goal

pub returns-then-unmet : goal.returns-then-unmet
returns-then-unmet c = inr (c.if-unmet.true, c.touch.ensures)

pub returns-else-unmet : goal.returns-else-unmet
returns-else-unmet c = inl (c.if-unmet.false, refl)
