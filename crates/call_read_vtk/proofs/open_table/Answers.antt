-- `call_read_vtk::open_table` meets its contract: the ladder of the checks up to 18.
use mathlib.Core.Bool.{not}
use mathlib.Core.Path.{ap, ◌∙◌}
use mathlib.Core.List.{List}
use lib.ListN.{take}
use Rattle.model.specs.Checks.{Check, in_order, map_checks}
use Rattle.answers.proofs.Ladder.{Rung, ground, rise, up, out, all_passed}
use Rattle.answers.proofs.Verdicts.{passes, refuses, equal_refuses}
use Rattle.answers.specs.Openings.{Settles, verdict}
use Rattle.answers.proofs.Settled.{settles_refusal, settles_front, handed}
use Rattle.answers.proofs.Opened.{opened_solid}
use Rattle.call_read_vtk.specs.Formed.{empty_checks}
use Rattle.call_read_vtk.proofs.Empty.{solid_test, empty_test}
use Rattle.call_read_vtk.proofs.open_table.Goals as goal
use Rattle.call_read_vtk.proofs.open_table.Goals.{After-opening, In_ok-opening, Start}

abbrev checks : Start → List Check
checks p = empty_checks p.args.n p.args.table.now p.args.journal.now

-- with n = 2 refused too
opening : (c : After-opening) → let a = c.args in
    Settles c.opening.result (in_order (take 7 (empty_checks a.n a.table.now a.journal.now)))
unfolding empty_checks map_checks
opening c = opened_solid _ _ _ _ c.journal_fits.ensures c.if-n-ne3.false c.opening.ensures

abbrev map : In_ok-opening → Rung checks 7
map c = rise 7 (goal.at.In_ok-opening c).Start ((opening (goal.at.In_ok-opening c).After-opening).gives ∙ ap verdict c.in_ok-opening.was)

pub returns-then-n-ne3 : goal.returns-then-n-ne3
unfolding empty_checks map_checks
returns-then-n-ne3 c = settles_refusal c.into.ensures (out {checks = checks} (ground (goal.at.returns-then-n-ne3 c).Start) (equal_refuses _ 3 1 (solid_test _) c.if-n-ne3.true))

pub returns-in_err-opening : goal.returns-in_err-opening
returns-in_err-opening c =
    rw (handed c.from_residual.ensures.1)
    (settles_front _ 7 (rw c.in_err-opening.was at (opening (goal.at.returns-in_err-opening c).After-opening)))

pub is_empty-requires : goal.is_empty-requires
unfolding empty_checks map_checks
is_empty-requires c = let p = (map c).passed in p.1.0

pub returns-then-not-is_empty : goal.returns-then-not-is_empty
unfolding empty_checks map_checks
returns-then-not-is_empty c =
    settles_refusal c.into-then-not-is_empty.ensures (out (map (goal.at.returns-then-not-is_empty c).In_ok-opening) (refuses _ 18 (empty_test _ c.is_empty.ensures) (ap not c.if-not-is_empty.true)))

pub returns : goal.returns
unfolding empty_checks map_checks
returns c = record {
  gives = all_passed _ (up (map (goal.at.returns c).In_ok-opening) (passes _ 18 (empty_test _ c.is_empty.ensures) (ap not c.if-not-is_empty.false))).passed;
}
