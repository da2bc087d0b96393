-- `call_undo_redo::undo` meets its contract: its opening, check 16, and behind them `step`.
use mathlib.Core.List.{List}
use native.Mathlib.Omega.{arith}
use Rattle.model.specs.Checks.{Check, step_checks, undo_ok, map_checks}
use Rattle.model.specs.Meaning.Numbers.{JournalRule}
use Rattle.theorems.proofs.Calls.Pass.{journal_pass}
use Rattle.answers.proofs.Ladder.{Rung, up, out, all_passed}
use Rattle.answers.proofs.Verdicts.{differ_passes, differ_refuses, undo_test}
use Rattle.answers.proofs.Settled.{Opening, opened, handed, handed_on, by_reason}
use Rattle.answers.proofs.Opened.{opened_journal}
use Rattle.call_undo_redo.proofs.Ends.{undo_refused, undo_accepted}
use Rattle.call_undo_redo.proofs.undo.Goals as goal
use Rattle.call_undo_redo.proofs.undo.Goals.{After-opening, Else-none_stands, In_ok-opening, Start}

-- ---- the rungs
abbrev checks : Start → List Check
checks p = step_checks p.args.n p.args.table.now p.args.journal.now (undo_ok p.args.journal.now)

abbrev opening : After-opening → Opening checks 7
unfolding step_checks map_checks
opening c = record {
  entry = (goal.at.After-opening c).Start;
  result = _;
  settles = opened_journal _ _ _ _ c.journal_fits.ensures c.opening.ensures;
}

abbrev map : In_ok-opening → Rung checks 7
unfolding step_checks map_checks
map c = opened (opening (goal.at.In_ok-opening c).After-opening) c.in_ok-opening.was

abbrev there : Else-none_stands → Rung checks 8
unfolding step_checks map_checks
there c = up (map (goal.at.Else-none_stands c).In_ok-opening) (differ_passes _ _ 16 (undo_test _) c.if-none_stands.false)

-- what check 4 says
rule : (r : In_ok-opening) → JournalRule (map r).entry.args.journal.now
unfolding step_checks map_checks
rule r = let p = (map r).passed in journal_pass _ (search)

pub returns-in_err-opening : goal.returns-in_err-opening
unfolding step_checks map_checks
returns-in_err-opening c = handed_on (opening (goal.at.returns-in_err-opening c).After-opening) c.in_err-opening.was (handed c.from_residual.ensures.1) (undo_refused _ _ _ _)

pub bounds-journal-0 : goal.bounds-journal-0
unfolding step_checks map_checks
bounds-journal-0 c = let long = (rule (goal.at.bounds-journal-0 c).In_ok-opening).long in omega arith

pub returns-then-none_stands : goal.returns-then-none_stands
unfolding step_checks map_checks
returns-then-none_stands c = undo_refused _ _ _ _ (by_reason c.into.ensures (out (map (goal.at.returns-then-none_stands c).In_ok-opening) (differ_refuses _ _ 16 (undo_test _) c.if-none_stands.true)))

-- ---- the record before the cursor
pub undo_start-found-requires : goal.undo_start-found-requires
unfolding step_checks map_checks
undo_start-found-requires c =
    let j = rule (goal.at.undo_start-found-requires c).In_ok-opening in
    let ends = j.ends in
    let within = j.within in
    (j.low, omega arith)

pub step-requires : goal.step-requires
unfolding step_checks map_checks
step-requires c =
    let p = (there (goal.at.step-requires c).Else-none_stands).passed in record { n_value = (search, search, search); to_bound = omega arith }

pub returns : goal.returns
unfolding step_checks map_checks
returns c =
    let p = (there (goal.at.returns c).Else-none_stands).passed in
    undo_accepted _ _ _ _ _ (all_passed _ p) c.undo_start-found.ensures.count c.undo_start-found.ensures.start
    c.step.ensures
