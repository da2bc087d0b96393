-- `call_pick::wrong_queue` meets its contract: the ladder of the checks 1 to 3, and 37.
use mathlib.Core.Path.{ap, refl}
use mathlib.Core.Bool.{not, false}
use mathlib.Core.List.{List, [], ◌∷◌}
use Rattle.model.specs.Checks.{Check, must, dim_ok, table_ok, marks_ok}
use Rattle.answers.proofs.Ladder.{Rung, ground, up, out}
use Rattle.answers.proofs.Verdicts.{passes, refuses}
use Rattle.call_pick.proofs.wrong_queue.Goals as goal
use Rattle.call_pick.proofs.wrong_queue.Goals.{Else-not-dim_fits, Else-not-marks_fit, Else-not-table_fits, Start}

abbrev checks : Start → List Check
checks p = dim_ok p.args.n ∷ table_ok p.args.table.now ∷ marks_ok p.args.table.now p.args.marks.now ∷ must false 37 ∷ []

abbrev dim : Else-not-dim_fits → Rung checks 1
dim c = up (ground (goal.at.Else-not-dim_fits c).Start) (passes _ 1 c.dim_fits.ensures (ap not c.if-not-dim_fits.false))

abbrev table : Else-not-table_fits → Rung checks 2
table c = up (dim (goal.at.Else-not-table_fits c).Else-not-dim_fits) (passes _ 2 c.table_fits.ensures (ap not c.if-not-table_fits.false))

abbrev marks : Else-not-marks_fit → Rung checks 3
marks c = up (table (goal.at.Else-not-marks_fit c).Else-not-table_fits) (passes _ 3 c.marks_fit.ensures (ap not c.if-not-marks_fit.false))

pub returns-then-not-dim_fits : goal.returns-then-not-dim_fits
returns-then-not-dim_fits c =
    out (ground {checks = checks} (goal.at.returns-then-not-dim_fits c).Start) (refuses _ 1 c.dim_fits.ensures (ap not c.if-not-dim_fits.true))

pub returns-then-not-table_fits : goal.returns-then-not-table_fits
returns-then-not-table_fits c = out (dim (goal.at.returns-then-not-table_fits c).Else-not-dim_fits) (refuses _ 2 c.table_fits.ensures (ap not c.if-not-table_fits.true))

pub returns-then-not-marks_fit : goal.returns-then-not-marks_fit
returns-then-not-marks_fit c = out (table (goal.at.returns-then-not-marks_fit c).Else-not-table_fits) (refuses _ 3 c.marks_fit.ensures (ap not c.if-not-marks_fit.true))

pub returns : goal.returns
unfolding must
returns c = out (marks c) refl
