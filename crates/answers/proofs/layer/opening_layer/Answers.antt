-- `answers::opening_layer` meets its contract: `opening`, and above it the checks 7 and 8.
use mathlib.Core.Bool.{not}
use mathlib.Core.Path.{ap, refl}
use mathlib.Core.List.{List}
use Rattle.model.specs.Checks.{Check, map_checks}
use Rattle.answers.specs.Openings.{opening_checks, layer_checks}
use Rattle.answers.proofs.Ladder.{Rung, rise, up, out}
use Rattle.answers.proofs.Verdicts.{passes, refuses, dart_test}
use Rattle.answers.proofs.Settled.{settles_refusal, settles_front, settles_last, handed}
use Rattle.answers.proofs.Given.{rules_given, map_given}
use Rattle.answers.proofs.layer.opening_layer.Goals as goal
use Rattle.answers.proofs.layer.opening_layer.Goals.{Else-not-live, In_ok-opening, Start}

abbrev checks : Start → List Check
checks p = layer_checks p.args.marks p.args.journal p.args.n p.args.table.now p.args.d

abbrev opened : In_ok-opening → Rung checks 8
unfolding layer_checks opening_checks map_checks
opened c = rise 8 (goal.at.In_ok-opening c).Start c.in_ok-opening.ensures.gives

abbrev dart : Else-not-live → Rung checks 9
unfolding layer_checks opening_checks map_checks
dart c = up (opened (goal.at.Else-not-live c).In_ok-opening) (passes _ 7 (dart_test _ _ c.live.ensures) (ap not c.if-not-live.false))

pub returns-in_err-opening : goal.returns-in_err-opening
unfolding layer_checks opening_checks map_checks
returns-in_err-opening c = rw (handed c.from_residual.ensures.1) (settles_front _ 8 c.in_err-opening.ensures)

pub returns-then-not-live : goal.returns-then-not-live
unfolding layer_checks opening_checks map_checks
returns-then-not-live c =
    settles_refusal c.into.ensures
    (out (opened (goal.at.returns-then-not-live c).In_ok-opening) (refuses _ 7 (dart_test _ _ c.live.ensures) (ap not c.if-not-live.true)))

pub blocks-requires : goal.blocks-requires
unfolding layer_checks opening_checks map_checks
blocks-requires c =
    let p = (dart c).passed in
    (search, search, map_given _ _ (search) (rules_given _ _ p.1.1.1.1))

pub returns : goal.returns
unfolding layer_checks opening_checks map_checks
returns c = settles_last (dart (goal.at.returns c).Else-not-live) refl c.blocks-2.ensures
