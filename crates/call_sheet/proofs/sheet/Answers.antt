-- `call_sheet::sheet` meets its contract: its opening, and behind it `sheet_with` of a size.
use mathlib.Core.Path.{◌≡◌, ap, ◌∙◌}
use mathlib.Core.List.{List}
use native.Mathlib.Omega.{arith}
use Rattle.model.specs.Checks.{Check, pass, in_order, sheet_checks, map_checks}
use Rattle.answers.proofs.Settled.{Opening, handed, handed_on}
use Rattle.answers.proofs.Opened.{opened_sheet}
use Rattle.answers.proofs.Given.{room_given, room_small}
use Rattle.call_sheet.proofs.Ends.{sheet_refused, sheet_table}
use Rattle.call_sheet.proofs.sheet.Goals as goal
use Rattle.call_sheet.proofs.sheet.Goals.{After-opening_layer, In_ok-opening_layer, Start}
use Rattle.answers.specs.Openings.{verdict}

abbrev checks : Start → List Check
checks p = sheet_checks p.args.n p.args.table.now p.args.marks.now p.args.d

abbrev opening : After-opening_layer → Opening checks 9
unfolding sheet_checks map_checks
opening c = record {
  entry = (goal.at.After-opening_layer c).Start;
  result = _;
  settles = opened_sheet _ _ _ _ c.marks_fit.ensures _ c.opening_layer.ensures;
}

passed : (c : In_ok-opening_layer) → in_order (checks (goal.at.In_ok-opening_layer c).Start) ≡ pass
unfolding sheet_checks map_checks
passed c = (opening (goal.at.In_ok-opening_layer c).After-opening_layer).settles.gives ∙ ap verdict c.in_ok-opening_layer.was

pub returns-in_err-opening_layer : goal.returns-in_err-opening_layer
unfolding sheet_checks map_checks
returns-in_err-opening_layer c =
    handed_on (opening (goal.at.returns-in_err-opening_layer c).After-opening_layer) c.in_err-opening_layer.was (handed c.from_residual.ensures.1) (sheet_refused _ _ _ _ _)

pub sheet_with-requires : goal.sheet_with-requires
sheet_with-requires c =
    let h = passed (goal.at.sheet_with-requires c).In_ok-opening_layer in
    let room = room_small 2048 _ (sheet_table _ _ _ _ h) c.if-table.true in
    record { d_value = h; room = (omega arith, omega arith) }

pub sheet_with-requires-then-table-2 : goal.sheet_with-requires-then-table-2
sheet_with-requires-then-table-2 c =
    let h = passed (goal.at.sheet_with-requires-then-table-2 c).In_ok-opening_layer in
    let room = room_small 16384 _ (sheet_table _ _ _ _ h) c.if-table-2.true in
    record { d_value = h; room = (omega arith, omega arith) }

pub sheet_with-requires-2 : goal.sheet_with-requires-2
sheet_with-requires-2 c =
    let h = passed (goal.at.sheet_with-requires-2 c).In_ok-opening_layer in
    let room = room_given _ (sheet_table _ _ _ _ h) in
    record { d_value = h; room = (omega arith, omega arith) }
