-- `call_undo_redo::redo` meets its contract: its opening, check 16, and behind them `step`.
use Prim.Native.Nat.{ℕ, ◌<◌}
use mathlib.Core.List.{List}
use native.Mathlib.Omega.{arith}
use lib.ListN.{get_or}
use Rattle.model.specs.Journal.{cursor, end}
use Rattle.model.specs.Checks.{Check, step_checks, redo_ok, map_checks}
use Rattle.model.specs.Meaning.Numbers.{JournalRule}
use Rattle.theorems.proofs.Calls.Pass.{journal_pass}
use Rattle.answers.proofs.Ladder.{Rung, up, out, all_passed}
use Rattle.answers.proofs.Verdicts.{differ_passes, differ_refuses, redo_test}
use Rattle.answers.proofs.Settled.{Opening, opened, handed, handed_on, by_reason}
use Rattle.answers.proofs.Opened.{opened_journal}
use Rattle.call_undo_redo.proofs.Ends.{redo_refused, redo_accepted}
use Rattle.call_undo_redo.proofs.redo.Goals as goal
use Rattle.call_undo_redo.proofs.redo.Goals.{After-step-arg-2-1, After-opening, Else-journal, In_ok-opening, Start}

-- ---- the rungs
abbrev checks : Start → List Check
checks p = step_checks p.args.n p.args.table.now p.args.journal.now (redo_ok p.args.journal.now)

abbrev opening : After-opening → Opening checks 7
unfolding step_checks map_checks
opening c = record {
  entry = (goal.at.After-opening c).Start;
  result = _;
  settles = opened_journal _ _ _ _ c.journal_fits.ensures c.opening.ensures;
}

abbrev map : In_ok-opening → Rung checks 7
unfolding step_checks map_checks
map c = opened (opening (goal.at.In_ok-opening c).After-opening) c.in_ok-opening.was

abbrev there : Else-journal → Rung checks 8
unfolding step_checks map_checks
there c = up (map (goal.at.Else-journal c).In_ok-opening) (differ_passes _ _ 16 (redo_test _) c.if-journal.false)

-- what check 4 says
rule : (r : In_ok-opening) → JournalRule (map r).entry.args.journal.now
unfolding step_checks map_checks
rule r = let p = (map r).passed in journal_pass _ (search)

pub returns-in_err-opening : goal.returns-in_err-opening
unfolding step_checks map_checks
returns-in_err-opening c = handed_on (opening (goal.at.returns-in_err-opening c).After-opening) c.in_err-opening.was (handed c.from_residual.ensures.1) (redo_refused _ _ _ _)

pub bounds-journal-0 : goal.bounds-journal-0
unfolding step_checks map_checks
bounds-journal-0 c = let long = (rule (goal.at.bounds-journal-0 c).In_ok-opening).long in omega arith

pub bounds-journal-1 : goal.bounds-journal-1
unfolding step_checks map_checks
bounds-journal-1 c = let long = (rule (goal.at.bounds-journal-1 c).In_ok-opening).long in omega arith

pub returns-then-journal : goal.returns-then-journal
unfolding step_checks map_checks
returns-then-journal c = redo_refused _ _ _ _ (by_reason c.into.ensures (out (map (goal.at.returns-then-journal c).In_ok-opening) (differ_refuses _ _ 16 (redo_test _) c.if-journal.true)))

-- ---- the record at the cursor
pub bounds-journal-0-2 : goal.bounds-journal-0-2
unfolding step_checks map_checks
bounds-journal-0-2 c = let long = (rule (goal.at.bounds-journal-0-2 c).In_ok-opening).long in omega arith

pub overflow_cast-a : goal.overflow_cast-a
overflow_cast-a c = omega (arith, c.slice_known-5-1.given 0)

pub offset_bounds-journal-a : goal.offset_bounds-journal-a
offset_bounds-journal-a c = omega (arith, c.slice_known-5-1.given 0)

pub bounds-journal-a : goal.bounds-journal-a
unfolding step_checks map_checks cursor end
bounds-journal-a c =
    let j = rule (goal.at.bounds-journal-a c).In_ok-opening in
    let ends = j.ends in
    let within = j.within in
    let some = c.if-journal.false in
    omega arith

abbrev words : After-step-arg-2-1 → List ℕ
unfolding step_checks map_checks
words c = (there (goal.at.After-step-arg-2-1 c).Else-journal).entry.args.journal.now

-- where the record begins and how many changes it has are words of the journal
word_fits : (c : After-step-arg-2-1)
    → (get_or (words c) 0 0 < 4294967296) × (get_or (words c) (get_or (words c) 0 0) 0 < 4294967296)
unfolding step_checks map_checks
word_fits c =
    let each = c.slice_known-6-1.given in
    (omega (arith, each 0), omega (arith, each (get_or (words c) 0 0)))

pub overflow_add-a : goal.overflow_add-a
unfolding step_checks map_checks
overflow_add-a c = let small = word_fits (goal.at.overflow_add-a c).After-step-arg-2-1 in omega arith

pub step-requires : goal.step-requires
unfolding step_checks map_checks
step-requires c =
    let p = (there (goal.at.step-requires c).Else-journal).passed in record { n_value = (search, search, search); to_bound = omega arith }

pub returns : goal.returns
unfolding step_checks map_checks cursor
returns c =
    let p = (there (goal.at.returns c).Else-journal).passed in
    redo_accepted _ _ _ _ (all_passed _ p) (omega arith) c.step.ensures
