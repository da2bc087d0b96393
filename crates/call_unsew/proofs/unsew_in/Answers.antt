-- `call_unsew::unsew_in` meets its contract: the darts marked; 15 by the number of changes; the record drafted and carried out.
use mathlib.Core.Path.{refl}
use mathlib.Core.Bool.{false}
use native.Mathlib.Omega.{arith}
use Rattle.model.specs.Sew.{unsew_table}
use Rattle.model.specs.Meaning.Numbers.{JournalRule}
use Rattle.theorems.proofs.Calls.Pass.{UnsewPassed, unsew_passed, unsew_side}
use Rattle.drafts.specs.Passes.{Room, Drafted}
use Rattle.drafts.proofs.Commits.{fits_room}
use Rattle.answers.proofs.Commits.{commit_full, commit_done}
use Rattle.marked_links.specs.Marked.{MarkedRecord}
use Rattle.call_unsew.proofs.Marks.{full_grouped}
use Rattle.call_unsew.proofs.Ends.{unsew_goes, journal_rule, changes_number, unsewn_record, unsewn_drafted}
use Rattle.call_unsew.proofs.unsew_in.Goals as goal
use Rattle.call_unsew.proofs.unsew_in.Goals.{After-write_marked, Else-not-record_fits, Start}

-- ---- what is known there
passed : (c : Start) → let a = c.args in UnsewPassed a.n a.table.now a.i a.d
passed c = unsew_passed _ _ _ _ _ c.requires.d_value

rule : (c : Start) → JournalRule c.args.journal.now
rule c = journal_rule _ _ _ _ _ c.requires.d_value

room : (c : Else-not-record_fits) →
    let a = c.args in
    Room a.table.now (unsew_table a.n a.table.now a.i a.d) a.journal.now
room c =
    fits_room _ _ _ _ (changes_number (passed (goal.at.Else-not-record_fits c).Start) c.requires.by_index.0 c.requires.by_index.1.0 c.mark_side-changes.ensures) _
    c.record_fits.ensures (c.if-not-record_fits.false)

recorded : (c : Else-not-record_fits) →
    let a = c.args in
    MarkedRecord false a.table.now (unsew_table a.n a.table.now a.i a.d) c.mark_side-changes.new.marks a.i a.journal.now
recorded c =
    unsewn_record (passed (goal.at.Else-not-record_fits c).Start) c.requires.by_index.0 c.requires.by_index.1.0 c.mark_side-changes.ensures (rule (goal.at.Else-not-record_fits c).Start) (room c)

drafts : (c : After-write_marked) →
    let a = c.args in
    Drafted a.table.now (unsew_table a.n a.table.now a.i a.d) a.journal.now c.mark_side-changes.result
    c.write_marked.new.journal
drafts c =
    unsewn_drafted (passed (goal.at.After-write_marked c).Start) c.requires.by_index.0 c.requires.by_index.1.0 c.mark_side-changes.ensures (rule (goal.at.After-write_marked c).Start) (room (goal.at.After-write_marked c).Else-not-record_fits)
    (c.write_marked.ensures _ (recorded (goal.at.After-write_marked c).Else-not-record_fits))

-- ---- the needs
pub mark_side-changes-requires : goal.mark_side-changes-requires
mark_side-changes-requires c =
    (unsew_side (passed (goal.at.mark_side-changes-requires c).Start), c.requires.by_index.1)

pub record_fits-requires : goal.record_fits-requires
record_fits-requires c =
    let r = rule (goal.at.record_fits-requires c).Start in
    let long = r.long in
    let ends = r.ends in
    let within = r.within in
    (omega arith, omega arith)

pub returns-then-not-record_fits : goal.returns-then-not-record_fits
returns-then-not-record_fits c =
    commit_full _ _ _ _ _ _ _ (unsew_goes _ _ _ _ _ _ c.requires.d_value)
    (changes_number (passed (goal.at.returns-then-not-record_fits c).Start) c.requires.by_index.0 c.requires.by_index.1.0 c.mark_side-changes.ensures)
    c.record_fits.ensures (c.if-not-record_fits.true) c.into.ensures

pub write_marked-requires : goal.write_marked-requires
write_marked-requires c =
    record { some_marked_record = record { v = _; is = recorded (goal.at.write_marked-requires c).Else-not-record_fits }; grouped = full_grouped c.requires.by_index.2 c.mark_side-changes.ensures.long }

pub carry_out-requires : goal.carry_out-requires
carry_out-requires c = record { u = _; j = _; drafted = drafts (goal.at.carry_out-requires c).After-write_marked }

pub returns : goal.returns
returns c =
    let D = drafts (goal.at.returns c).After-write_marked in
    commit_done _ _ _ _ _ _ _ (unsew_goes _ _ _ _ _ _ c.requires.d_value) D.count c.record_fits.ensures
    (c.if-not-record_fits.false) (c.carry_out.ensures _ _ D) refl D.count
