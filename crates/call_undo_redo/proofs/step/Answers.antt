-- `call_undo_redo::step` meets its contract, by the three ends of `step_outcome`.
use Prim.Native.Nat.{◌+◌, ◌≤◌}
use mathlib.Core.Path.{refl, sym, ◌∙◌}
use native.Mathlib.Omega.{arith}
use lib.ListN.{length}
use Rattle.model.specs.Journal.{record_length, tag_at}
use Rattle.model.specs.Meaning.Numbers.{JournalRule}
use Rattle.theorems.proofs.Calls.Pass.{journal_pass}
use Rattle.journal.proofs.Steps.{unbroken_fits, unbroken_again, unbroken_back, step_broken, step_no_map, step_taken}
use Rattle.call_undo_redo.proofs.Given.{put_given}
use Rattle.call_undo_redo.proofs.Ends.{step_refused}
use Rattle.call_undo_redo.proofs.step.Goals as goal
use Rattle.call_undo_redo.proofs.step.Goals.{Else-not-is_map, Start}

rule : (p : Start) → JournalRule p.args.journal.now
rule p = journal_pass p.args.journal.now p.requires.n_value.2

pub unbroken-requires : goal.unbroken-requires
unbroken-requires c = let j = rule (goal.at.unbroken-requires c).Start in (j.long, j.within)

pub returns-then-not-unbroken : goal.returns-then-not-unbroken
returns-then-not-unbroken c =
    step_refused _ _ _ _ _ _ _ c.into.ensures refl (step_broken _ _ _ _ _ _ c.unbroken.ensures (c.if-not-unbroken.true) _ _)

pub put_record-requires : goal.put_record-requires
put_record-requires c =
    unbroken_fits _ _ _ _ _ _ c.unbroken.ensures (c.if-not-unbroken.false) (rule (goal.at.put_record-requires c).Start).within

pub is_map-requires : goal.is_map-requires
is_map-requires c =
    (c.requires.n_value.0, put_given _ _ _ _ c.put_record.ensures c.requires.n_value.1)

pub put_record-requires-then-not-is_map : goal.put_record-requires-then-not-is_map
put_record-requires-then-not-is_map c =
    unbroken_again _ _ _ _ _ _ c.unbroken.ensures (c.if-not-unbroken.false) _ c.put_record.ensures
    (rule (goal.at.put_record-requires-then-not-is_map c).Start).within

pub returns-then-not-is_map : goal.returns-then-not-is_map
returns-then-not-is_map c =
    let whole = c.if-not-unbroken.false in
    step_refused _ _ _ _ _ _ _ c.into-then-not-is_map.ensures
    (unbroken_back _ _ _ _ _ _ c.unbroken.ensures whole _ c.put_record.ensures _ c.put_record-then-not-is_map.ensures)
    (step_no_map _ _ _ _ _ _ c.unbroken.ensures whole _ c.put_record.ensures _ _
    (sym c.is_map.ensures ∙ c.if-not-is_map.true))

-- it ends within the journal, which is not too long
fits : (c : Else-not-is_map)
    → let p = c.args in
    (p.a + record_length p.k ≤ length p.journal.now) × (length p.journal.now ≤ 1048576)
fits c =
    let j = rule (goal.at.Else-not-is_map c).Start in
    ((unbroken_fits _ _ _ _ _ _ c.unbroken.ensures (c.if-not-unbroken.false) j.within).0, j.few)

pub overflow_add-tag : goal.overflow_add-tag
overflow_add-tag c = let (ends, few) = fits c in omega arith

pub offset_bounds-journal-a : goal.offset_bounds-journal-a
offset_bounds-journal-a c = let (ends, few) = fits c in omega arith

pub bounds-journal-a : goal.bounds-journal-a
bounds-journal-a c = let (ends, few) = fits (goal.at.bounds-journal-a c).Else-not-is_map in omega arith

pub overflow_cast-journal : goal.overflow_cast-journal
overflow_cast-journal c =
    let (ends, few) = fits (goal.at.overflow_cast-journal c).Else-not-is_map in
    let low = c.requires.to_bound in
    omega arith

pub bounds-journal-0 : goal.bounds-journal-0
bounds-journal-0 c = let (ends, few) = fits (goal.at.bounds-journal-0 c).Else-not-is_map in omega arith

pub returns : goal.returns
unfolding tag_at
returns c =
    sym (step_taken _ _ _ _ _ _ c.unbroken.ensures (c.if-not-unbroken.false) _ c.put_record.ensures _ _
    (sym c.is_map.ensures ∙ c.if-not-is_map.false))
