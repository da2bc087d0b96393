-- `call_add::add` meets its contract: its opening, check 14 by the slots listed, 15 by the number of changes; the record drafted and
-- carried out.
use mathlib.Core.List.{List}
use native.Mathlib.Omega.{arith}
use Rattle.model.specs.Checks.{Check, add_checks, map_checks}
use Rattle.model.specs.Meaning.Maps.{MapTable}
use Rattle.model.specs.Meaning.Numbers.{JournalRule}
use Rattle.theorems.proofs.Calls.Pass.{journal_pass, table_of}
use Rattle.numbering.proofs.Orders.{size_few}
use Rattle.drafts.proofs.Commits.{fits_room}
use Rattle.answers.proofs.Ladder.{Rung, up, out, all_passed}
use Rattle.answers.proofs.Verdicts.{equal_passes, equal_refuses}
use Rattle.answers.proofs.Settled.{Opening, opened, handed, handed_on, by_reason}
use Rattle.answers.proofs.Opened.{opened_journal}
use Rattle.answers.proofs.Given.{rules_given, told_given}
use Rattle.answers.proofs.Commits.{commit_full, commit_done}
use Rattle.call_add.specs.NewCell.{NewCell}
use Rattle.call_add.proofs.Ends.{add_refused, add_goes, room_test, first_slot, changes_number, new_cell, cell_drafted, first_few}
use Rattle.call_add.proofs.add.Goals as goal
use Rattle.call_add.proofs.add.Goals.{After-opening, Else-too_few, Else-not-record_fits, In_ok-opening, Start}

-- ---- the rungs
abbrev checks : Start → List Check
checks p = add_checks p.args.n p.args.table.now p.args.journal.now

abbrev opening : After-opening → Opening checks 7
unfolding add_checks map_checks
opening c = record {
  entry = (goal.at.After-opening c).Start;
  result = _;
  settles = opened_journal _ _ _ _ c.journal_fits.ensures c.opening.ensures;
}

abbrev map : In_ok-opening → Rung checks 7
unfolding add_checks map_checks
map c = opened (opening (goal.at.In_ok-opening c).After-opening) c.in_ok-opening.was

abbrev room : Else-too_few → Rung checks 8
unfolding add_checks map_checks
room c =
    up (map (goal.at.Else-too_few c).In_ok-opening)
    (equal_passes _ _ 14 (room_test _ _ c.cell_size-size.ensures c.list_unused-listed.ensures) c.if-too_few.false)

table : (c : In_ok-opening) → MapTable c.args.n c.args.table.now
unfolding add_checks map_checks
table c = let p = (map c).passed in table_of _ _ (search) (search) (rules_given _ _ p.1.1.1)

rule : (c : In_ok-opening) → JournalRule c.args.journal.now
unfolding add_checks map_checks
rule c = let p = (map c).passed in journal_pass _ (search)

pub returns-in_err-opening : goal.returns-in_err-opening
unfolding add_checks map_checks
returns-in_err-opening c = handed_on (opening (goal.at.returns-in_err-opening c).After-opening) c.in_err-opening.was (handed c.from_residual.ensures.1) (add_refused _ _ _ _ _)

pub list_unused-listed-requires : goal.list_unused-listed-requires
unfolding add_checks map_checks
list_unused-listed-requires c =
    let p = (map (goal.at.list_unused-listed-requires c).In_ok-opening).passed in
    let T = table (goal.at.list_unused-listed-requires c).In_ok-opening in
    let few = size_few _ T.dim in
    let is = c.cell_size-size.ensures in
    record { table_value = (search, told_given T); table_in_bounds = omega arith }

pub returns-then-too_few : goal.returns-then-too_few
unfolding add_checks map_checks
returns-then-too_few c =
    add_refused _ _ _ _ _ (by_reason c.into.ensures (out (map (goal.at.returns-then-too_few c).In_ok-opening)
    (equal_refuses _ _ 14 (room_test _ _ c.cell_size-size.ensures c.list_unused-listed.ensures) c.if-too_few.true)))

pub overflow_mul-changes : goal.overflow_mul-changes
overflow_mul-changes c =
    let few = size_few _ (table (goal.at.overflow_mul-changes c).In_ok-opening).dim in
    let is = c.cell_size-size.ensures in
    omega arith

pub record_fits-requires : goal.record_fits-requires
record_fits-requires c =
    let r = rule (goal.at.record_fits-requires c).In_ok-opening in
    let long = r.long in
    let ends = r.ends in
    let within = r.within in
    (omega arith, omega arith)

pub returns-then-not-record_fits : goal.returns-then-not-record_fits
unfolding add_checks map_checks
returns-then-not-record_fits c =
    commit_full _ _ _ _ _ _ _ (add_goes _ _ _ _ (all_passed _ (room (goal.at.returns-then-not-record_fits c).Else-too_few).passed))
    (changes_number _ _ c.cell_size-size.ensures c.list_unused-listed.ensures (table (goal.at.returns-then-not-record_fits c).In_ok-opening) c.if-too_few.false)
    c.record_fits.ensures c.if-not-record_fits.true c.into-then-not-record_fits.ensures

-- what the record is drafted from
cell : (c : Else-not-record_fits) →
    let a = c.args in
    NewCell a.n a.table.now c.list_unused-listed.new.words c.cell_size-size.result a.journal.now
cell c =
    let T = table (goal.at.Else-not-record_fits c).In_ok-opening in
    let few = size_few _ T.dim in
    let is = c.cell_size-size.ensures in
    let slots = c.list_unused-listed.ensures in
    let long = slots.long in
    let number = changes_number _ _ is slots T c.if-too_few.false in
    new_cell _ _ is slots T c.if-too_few.false _ (omega arith) (rule (goal.at.Else-not-record_fits c).In_ok-opening)
    (fits_room _ _ _ _ number _ c.record_fits.ensures (c.if-not-record_fits.false))

pub write_cell-requires : goal.write_cell-requires
write_cell-requires c = record { t = _; is = cell (goal.at.write_cell-requires c).Else-not-record_fits }

pub carry_out-requires : goal.carry_out-requires
carry_out-requires c =
    let C = cell (goal.at.carry_out-requires c).Else-not-record_fits in
    record { u = _; j = _; drafted = cell_drafted C _ (c.write_cell.ensures _ C) }

pub overflow_cast-result : goal.overflow_cast-result
overflow_cast-result c =
    let few = first_few (cell (goal.at.overflow_cast-result c).Else-not-record_fits) in
    omega arith

pub returns : goal.returns
unfolding add_checks map_checks
returns c =
    let C = cell (goal.at.returns c).Else-not-record_fits in
    let is = c.cell_size-size.ensures in
    let slots = c.list_unused-listed.ensures in
    let T = table (goal.at.returns c).In_ok-opening in
    commit_done _ _ _ _ _ _ _ (add_goes _ _ _ _ (all_passed _ (room (goal.at.returns c).Else-too_few).passed))
    (changes_number _ _ is slots T c.if-too_few.false) c.record_fits.ensures (c.if-not-record_fits.false)
    (c.carry_out.ensures _ _ (cell_drafted C _ (c.write_cell.ensures _ C)))
    (first_slot _ _ is slots T c.if-too_few.false) is
