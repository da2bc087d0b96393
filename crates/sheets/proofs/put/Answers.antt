-- `sheets::put` meets its contract.
use mathlib.Core.Path.{refl}
use mathlib.Core.Logic.{inl, inr}
use Rattle.sheets.proofs.put.Goals as goal

pub returns-then-marks-y-eq1 : goal.returns-then-marks-y-eq1
returns-then-marks-y-eq1 c = inl (c.if-marks-y-eq1.true, refl, refl)

pub returns-else-marks-y-eq1 : goal.returns-else-marks-y-eq1
returns-else-marks-y-eq1 c = inr (c.if-marks-y-eq1.false, refl, refl)
