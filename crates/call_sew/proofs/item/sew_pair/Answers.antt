-- `call_sew::item::sew_pair` meets its contract: both sides listed in step, or refused by 12; 15 by the number of changes; the sides joined and
-- the record drafted and closed; the marks taken back.
use native.Mathlib.Omega.{arith}
use Prim.Native.Nat.{ℕ, ◌*◌}
use mathlib.Core.Path.{◌≡◌, refl, sym, ap, subst, ◌∙◌}
use mathlib.Core.Bool.{true, false}
use Rattle.model.specs.Sew.{is_paired, sew_table}
use Rattle.model.specs.Meaning.Numbers.{JournalRule}
use Rattle.theorems.proofs.Calls.Pass.{SidesPassed, sides_passed}
use Rattle.drafts.specs.Passes.{Room, Drafted}
use Rattle.drafts.proofs.Commits.{fits_room}
use Rattle.drafts.proofs.Carrying.{draft_closes}
use Rattle.answers.proofs.Commits.{commit_full, commit_done}
use Rattle.marked_links.specs.Marked.{MarkedRecord}
use Rattle.call_sew.specs.Joins.{Joining, Joined}
use Rattle.call_sew.proofs.Ends.{sew_unpaired, sew_goes, journal_rule, sides_apart, size_few, step_paired, changes_number}
use Rattle.call_sew.proofs.Ends.{joining, sewn_record, sewn_drafted}
use Rattle.call_sew.proofs.item.sew_pair.Goals as goal
use Rattle.call_sew.proofs.item.sew_pair.Goals.{After-join, After-write_marked, Else-not-record_fits, In_err-size, In_ok-size, Start}
use Rattle.std.specs.Prelude.{Option, None, Result, Ok, Err}
use Rattle.std.specs.Result.{result_ok}
use Rattle.std.specs.Option.{ok_or}
use Rattle.refusals.specs.declared.Reason.TheVariants.{NoPairing}
use Rattle.answers.specs.Answers.{Reason, alone}
use Rattle.std.proofs.lemmas.Result.{err_from_is_err_and}
use Rattle.sides.specs.Turns.{Listed, InStep}

-- ---- what is known there
passed : (c : Start) → let a = c.args in SidesPassed a.n a.table.now a.i a.d a.e
passed c = sides_passed _ _ _ _ _ _ c.requires.e_value

rule : (c : Start) → JournalRule c.args.journal.now
rule c = journal_rule _ _ _ _ _ _ c.requires.e_value

-- the sides are listed
step : (c : In_ok-size) → let a = c.args in Listed a.n a.table.now a.i a.d a.e c.in_ok-size.size c.in_step-pairing.new.xs c.in_step-pairing.new.ys
step c =
    let a = c.args in
    subst (λ r. InStep a.n a.table.now a.i a.d a.e r c.in_step-pairing.new.xs c.in_step-pairing.new.ys) (c.ok_or.ensures.ok_part ∙ ap result_ok c.in_ok-size.was) c.in_step-pairing.ensures

room : (c : Else-not-record_fits) →
    let a = c.args in
    Room a.table.now (sew_table a.n a.table.now a.i a.d a.e) a.journal.now
room c =
    fits_room _ _ _ _ (changes_number (passed (goal.at.Else-not-record_fits c).Start) (step (goal.at.Else-not-record_fits c).In_ok-size)) _
    c.record_fits.ensures (c.if-not-record_fits.false)

joins : (c : Else-not-record_fits) →
    let a = c.args in
    Joining a.n a.table.now a.marks.now a.groups.now a.i a.d a.e
    c.in_step-pairing.new.xs c.in_step-pairing.new.ys c.in_ok-size.size
joins c =
    let pre = c.requires.lent in
    let long = c.in_step-pairing.auto.xs in
    let wide = c.in_step-pairing.auto.ys in
    let left = pre.left in
    let right = pre.right in
    joining (passed (goal.at.Else-not-record_fits c).Start) (step (goal.at.Else-not-record_fits c).In_ok-size) pre.blank pre.wide (omega arith) (omega arith)

sewn : (c : After-join) →
    let a = c.args in
    Joined a.n a.table.now a.i a.d a.e c.in_step-pairing.new.xs c.in_step-pairing.new.ys
    c.in_ok-size.size c.join.new.table c.join.new.marks c.join.new.groups
sewn c = c.join.ensures _ _ _ (joins (goal.at.After-join c).Else-not-record_fits)

recorded : (c : After-join) →
    let a = c.args in
    MarkedRecord true c.join.new.table a.table.now c.join.new.marks a.i a.journal.now
recorded c =
    sewn_record (passed (goal.at.After-join c).Start) (step (goal.at.After-join c).In_ok-size) (sewn c) (rule (goal.at.After-join c).Start) (room (goal.at.After-join c).Else-not-record_fits)

drafts : (c : After-write_marked) →
    let a = c.args in
    Drafted a.table.now (sew_table a.n a.table.now a.i a.d a.e) a.journal.now (2 * c.in_ok-size.size)
    c.write_marked.new.journal
drafts c =
    sewn_drafted (passed (goal.at.After-write_marked c).Start) (step (goal.at.After-write_marked c).In_ok-size) (sewn (goal.at.After-write_marked c).After-join) (rule (goal.at.After-write_marked c).Start) (room (goal.at.After-write_marked c).Else-not-record_fits)
    (c.write_marked.ensures _ (recorded (goal.at.After-write_marked c).After-join))

-- ---- the needs
pub in_step-pairing-requires : goal.in_step-pairing-requires
in_step-pairing-requires c =
    sides_apart (passed (goal.at.in_step-pairing-requires c).Start) c.requires.lent.left c.requires.lent.right

-- there is no pairing
none : (c : In_err-size) → c.in_step-pairing.result ≡ None
none c = c.ok_or.ensures.ok_part ∙ ap result_ok c.in_err-size.was

unpaired : (c : In_err-size) → let a = c.args in is_paired a.n a.table.now a.i a.d a.e ≡ false
unpaired c =
    let a = c.args in
    subst (λ r. InStep a.n a.table.now a.i a.d a.e r c.in_step-pairing.new.xs c.in_step-pairing.new.ys) (none c) c.in_step-pairing.ensures

why : (c : In_err-size) → c.in_err-size.field-0.0 ≡ NoPairing
why c =
    ap (λ (r : Result ℕ Reason). elim r as (λ _. Reason) [ Ok size ↦ NoPairing | Err reason ↦ reason ])
    (sym c.in_err-size.was ∙ c.ok_or.ensures.value ∙ ap (λ (r : Option ℕ). ok_or r NoPairing) (none c))

pub returns-in_err-size : goal.returns-in_err-size
returns-in_err-size c =
    let (e, is, told) = err_from_is_err_and c.from_residual.result c.from_residual.ensures.1 in
    let at = (goal.at.returns-in_err-size c).In_err-size in
    (rw is (sew_unpaired _ _ _ _ _ _ _ c.requires.e_value (unpaired at) (told ∙ ap alone (why at))), c.requires.lent.blank)

pub overflow_mul-changes : goal.overflow_mul-changes
overflow_mul-changes c =
    let few = size_few (passed (goal.at.overflow_mul-changes c).Start) (step (goal.at.overflow_mul-changes c).In_ok-size) in
    omega arith

pub record_fits-requires : goal.record_fits-requires
record_fits-requires c =
    let r = rule (goal.at.record_fits-requires c).Start in
    let long = r.long in
    let ends = r.ends in
    let within = r.within in
    (omega arith, omega arith)

pub returns-then-not-record_fits : goal.returns-then-not-record_fits
returns-then-not-record_fits c =
    let listed = step (goal.at.returns-then-not-record_fits c).In_ok-size in
    let goes = sew_goes _ _ _ _ _ _ _ c.requires.e_value (step_paired (passed (goal.at.returns-then-not-record_fits c).Start) listed) in (
      commit_full _ _ _ _ _ _ _ goes (changes_number (passed (goal.at.returns-then-not-record_fits c).Start) listed) c.record_fits.ensures
          (c.if-not-record_fits.true) c.into.ensures,
      c.requires.lent.blank,
    )

pub join-requires : goal.join-requires
join-requires c = record { n = _; d = _; e = _; is = joins (goal.at.join-requires c).Else-not-record_fits }

pub write_marked-requires : goal.write_marked-requires
write_marked-requires c =
    record { some_marked_record = record { v = _; is = recorded (goal.at.write_marked-requires c).After-join }; grouped = (sewn (goal.at.write_marked-requires c).After-join).grouped }

pub close_record-requires : goal.close_record-requires
close_record-requires c = draft_closes (drafts (goal.at.close_record-requires c).After-write_marked)

pub unmark-requires : goal.unmark-requires
unmark-requires c = (sewn (goal.at.unmark-requires c).After-join).unmarking

pub returns : goal.returns
returns c =
    let listed = step (goal.at.returns c).In_ok-size in
    let count = changes_number (passed (goal.at.returns c).Start) listed in
    let D = drafts (goal.at.returns c).After-write_marked in
    let goes = sew_goes _ _ _ _ _ _ _ c.requires.e_value (step_paired (passed (goal.at.returns c).Start) listed) in (
      commit_done _ _ _ _ _ _ _ goes count c.record_fits.ensures (c.if-not-record_fits.false)
          ((sewn (goal.at.returns c).After-join).table, c.close_record.ensures _ _ D.draft D.count) refl count,
      c.unmark.ensures,
    )
