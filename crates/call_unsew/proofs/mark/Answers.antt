-- `call_unsew::mark` meets its contract.
use Rattle.call_unsew.proofs.Marks.{marking_old, marking_new}
use Rattle.call_unsew.proofs.mark.Goals as goal

pub returns-then-marks-x-eq1 : goal.returns-then-marks-x-eq1
returns-then-marks-x-eq1 c = marking_old _ _ c.if-marks-x-eq1.true

pub returns : goal.returns
returns c = marking_new _ _ c.requires c.if-marks-x-eq1.false
