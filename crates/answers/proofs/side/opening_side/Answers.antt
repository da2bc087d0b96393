-- `answers::opening_side` meets its contract: `opening`, and above it the checks 6 and 7.
use mathlib.Core.Bool.{not}
use mathlib.Core.Path.{ap}
use mathlib.Core.List.{List}
use Rattle.model.specs.Checks.{Check, map_checks}
use Rattle.answers.specs.Openings.{opening_checks, side_checks}
use Rattle.answers.proofs.Ladder.{Rung, rise, up, out, all_passed}
use Rattle.answers.proofs.Verdicts.{passes, refuses, index_passes, index_refuses, dart_test}
use Rattle.answers.proofs.Settled.{settles_refusal, settles_front, handed}
use Rattle.answers.proofs.side.opening_side.Goals as goal
use Rattle.answers.proofs.side.opening_side.Goals.{Else-i-n, Else-not-live, In_ok-opening, Start}

abbrev checks : Start → List Check
checks p = side_checks p.args.journal p.args.n p.args.table.now p.args.i p.args.d

abbrev opened : In_ok-opening → Rung checks 8
unfolding side_checks opening_checks map_checks
opened c = rise 8 (goal.at.In_ok-opening c).Start c.in_ok-opening.ensures.gives

abbrev index : Else-i-n → Rung checks 9
unfolding side_checks opening_checks map_checks
index c = up (opened (goal.at.Else-i-n c).In_ok-opening) (index_passes _ _ c.if-i-n.false)

abbrev dart : Else-not-live → Rung checks 10
unfolding side_checks opening_checks map_checks
dart c = up (index (goal.at.Else-not-live c).Else-i-n) (passes _ 7 (dart_test _ _ c.live.ensures) (ap not c.if-not-live.false))

pub returns-in_err-opening : goal.returns-in_err-opening
unfolding side_checks opening_checks map_checks
returns-in_err-opening c = rw (handed c.from_residual.ensures.1) (settles_front _ 8 c.in_err-opening.ensures)

pub returns-then-i-n : goal.returns-then-i-n
unfolding side_checks opening_checks map_checks
returns-then-i-n c = settles_refusal c.into.ensures (out (opened (goal.at.returns-then-i-n c).In_ok-opening) (index_refuses _ _ c.if-i-n.true))

pub returns-then-not-live : goal.returns-then-not-live
unfolding side_checks opening_checks map_checks
returns-then-not-live c =
    settles_refusal c.into-then-not-live.ensures
    (out (index (goal.at.returns-then-not-live c).Else-i-n) (refuses _ 7 (dart_test _ _ c.live.ensures) (ap not c.if-not-live.true)))

pub returns : goal.returns
unfolding side_checks opening_checks map_checks
returns c = record { gives = all_passed _ (dart c).passed }
