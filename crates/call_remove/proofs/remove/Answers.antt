-- `call_remove::remove` meets its contract: its opening, and behind it `remove_with` of a size.
use mathlib.Core.Path.{◌≡◌, ap, ◌∙◌}
use mathlib.Core.List.{List}
use native.Mathlib.Omega.{arith}
use Rattle.model.specs.Checks.{Check, pass, in_order, layer_checks, map_checks}
use Rattle.answers.proofs.Settled.{Opening, handed, handed_on}
use Rattle.answers.proofs.Given.{room_given, room_small}
use Rattle.answers.proofs.Opened.{opened_layer}
use Rattle.answers.proofs.Layered.{layered}
use Rattle.call_remove.proofs.Ends.{remove_refused}
use Rattle.call_remove.proofs.remove.Goals as goal
use Rattle.call_remove.proofs.remove.Goals.{After-opening_layer, In_ok-opening_layer, Start}
use Rattle.answers.specs.Openings.{verdict}

abbrev checks : Start → List Check
checks p = layer_checks p.args.n p.args.table.now p.args.marks.now p.args.journal.now p.args.d

abbrev opening : After-opening_layer → Opening checks 10
unfolding layer_checks map_checks
opening c = record {
  entry = (goal.at.After-opening_layer c).Start;
  result = _;
  settles =
      opened_layer _ _ _ _ c.marks_fit.ensures _ _ c.journal_fits.ensures _ c.opening_layer.ensures;
}

passed : (c : In_ok-opening_layer) → in_order (checks (goal.at.In_ok-opening_layer c).Start) ≡ pass
unfolding layer_checks map_checks
passed c = (opening (goal.at.In_ok-opening_layer c).After-opening_layer).settles.gives ∙ ap verdict c.in_ok-opening_layer.was

pub returns-in_err-opening_layer : goal.returns-in_err-opening_layer
unfolding layer_checks map_checks
returns-in_err-opening_layer c =
    handed_on (opening (goal.at.returns-in_err-opening_layer c).After-opening_layer) c.in_err-opening_layer.was (handed c.from_residual.ensures.1) (remove_refused _ _ _ _ _ _ _)

pub remove_with-requires : goal.remove_with-requires
remove_with-requires c =
    let h = passed (goal.at.remove_with-requires c).In_ok-opening_layer in
    let room = room_small 2048 _ (layered h).table c.if-table.true in
    record { d_value = h; room = (omega arith, omega arith) }

pub remove_with-requires-then-table-2 : goal.remove_with-requires-then-table-2
remove_with-requires-then-table-2 c =
    let h = passed (goal.at.remove_with-requires-then-table-2 c).In_ok-opening_layer in
    let room = room_small 16384 _ (layered h).table c.if-table-2.true in
    record { d_value = h; room = (omega arith, omega arith) }

pub remove_with-requires-2 : goal.remove_with-requires-2
remove_with-requires-2 c =
    let h = passed (goal.at.remove_with-requires-2 c).In_ok-opening_layer in
    let room = room_given _ (layered h).table in
    record { d_value = h; room = (omega arith, omega arith) }
