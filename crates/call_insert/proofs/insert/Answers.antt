-- `call_insert::insert` meets its contract: its opening, and behind it `insert_with` of a size.
use mathlib.Core.Path.{◌≡◌, ap, ◌∙◌}
use mathlib.Core.List.{List}
use native.Mathlib.Omega.{arith}
use Rattle.model.specs.Checks.{Check, pass, in_order, insert_checks, map_checks}
use Rattle.answers.proofs.Settled.{Opening, handed, handed_on}
use Rattle.answers.proofs.Given.{room_small, room_given}
use Rattle.answers.proofs.Opened.{opened_wall}
use Rattle.call_insert.specs.Opened.{opening_checks}
use Rattle.call_insert.proofs.Ends.{opened, insert_refused}
use Rattle.call_insert.proofs.insert.Goals as goal
use Rattle.call_insert.proofs.insert.Goals.{After-opening_wall, In_ok-opening_wall, Start}
use Rattle.answers.specs.Openings.{verdict}

abbrev checks : Start → List Check
checks p = insert_checks p.args.n p.args.table.now p.args.marks.now p.args.journal.now

abbrev opening : After-opening_wall → Opening checks 9
unfolding insert_checks map_checks
opening c = record {
  entry = (goal.at.After-opening_wall c).Start;
  result = _;
  settles =
      opened_wall _ _ _ _ c.marks_fit.ensures _ _ c.journal_fits.ensures c.opening_wall.ensures;
}

passed : (c : In_ok-opening_wall) →
    let a = c.args in
    in_order (opening_checks a.n a.table.now a.marks.now a.journal.now) ≡ pass
unfolding opening insert_checks opening_checks map_checks
passed c = (opening (goal.at.In_ok-opening_wall c).After-opening_wall).settles.gives ∙ ap verdict c.in_ok-opening_wall.was

pub returns-in_err-opening_wall : goal.returns-in_err-opening_wall
unfolding insert_checks map_checks
returns-in_err-opening_wall c =
    handed_on (opening (goal.at.returns-in_err-opening_wall c).After-opening_wall) c.in_err-opening_wall.was (handed c.from_residual.ensures.1) (insert_refused _ _ _ _ _ _)

pub insert_with-requires : goal.insert_with-requires
insert_with-requires c =
    let h = passed (goal.at.insert_with-requires c).In_ok-opening_wall in
    let room = room_small 2048 _ (opened h).fits c.if-table.true in
    record { journal_value = h; room = (room, omega arith) }

pub insert_with-requires-then-table-2 : goal.insert_with-requires-then-table-2
insert_with-requires-then-table-2 c =
    let h = passed (goal.at.insert_with-requires-then-table-2 c).In_ok-opening_wall in
    let room = room_small 16384 _ (opened h).fits c.if-table-2.true in
    record { journal_value = h; room = (room, omega arith) }

pub insert_with-requires-2 : goal.insert_with-requires-2
insert_with-requires-2 c =
    let h = passed (goal.at.insert_with-requires-2 c).In_ok-opening_wall in
    let room = room_given _ (opened h).fits in
    record { journal_value = h; room = (room, omega arith) }
