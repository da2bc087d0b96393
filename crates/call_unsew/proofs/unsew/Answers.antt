-- `call_unsew::unsew` meets its contract: its opening, check 11, and behind it `unsew_with` of a size.
use Prim.Native.Nat.{◌<◌}
use mathlib.Core.Path.{◌≡◌}
use mathlib.Core.List.{List}
use native.Mathlib.Omega.{arith}
use Rattle.model.specs.Checks.{Check, pass, in_order, unsew_checks, map_checks}
use Rattle.theorems.proofs.Calls.Pass.{dim_pass, index_pass}
use Rattle.answers.proofs.Ladder.{Rung, up, out, all_passed}
use Rattle.answers.proofs.Verdicts.{clear_passes, clear_refuses}
use Rattle.answers.proofs.Settled.{Opening, opened, by_reason, handed, handed_on}
use Rattle.answers.proofs.Opened.{opened_side}
use Rattle.answers.proofs.Given.{room_given, room_small}
use Rattle.call_unsew.proofs.Ends.{unsew_refused, sewn_test, table_rule}
use Rattle.call_unsew.proofs.unsew.Goals as goal
use Rattle.call_unsew.proofs.unsew.Goals.{After-opening_side, Else-is_free, In_ok-opening_side, Start}

-- ---- the rungs
abbrev checks : Start → List Check
checks p = unsew_checks p.args.n p.args.table.now p.args.journal.now p.args.i p.args.d

abbrev opening : After-opening_side → Opening checks 9
unfolding unsew_checks map_checks
opening c = record {
  entry = (goal.at.After-opening_side c).Start;
  result = _;
  settles = opened_side _ _ _ _ c.journal_fits.ensures _ _ c.opening_side.ensures;
}

abbrev dart : In_ok-opening_side → Rung checks 9
unfolding unsew_checks map_checks
dart c = opened (opening (goal.at.In_ok-opening_side c).After-opening_side) c.in_ok-opening_side.was

abbrev sewn : Else-is_free → Rung checks 10
unfolding unsew_checks map_checks
sewn c =
    up (dart (goal.at.Else-is_free c).In_ok-opening_side) (clear_passes _ 11 (sewn_test _ _ _ c.is_free.ensures) c.if-is_free.false)

all_pass : (c : Else-is_free) → in_order (checks (goal.at.Else-is_free c).Start) ≡ pass
unfolding unsew_checks map_checks
all_pass c = all_passed _ (sewn c).passed

index_low : (c : In_ok-opening_side) → c.args.i < 4
unfolding unsew_checks map_checks
index_low c =
    let p = (dart c).passed in
    let top = (dim_pass c.args.n (search)).1 in
    let low = index_pass c.args.n c.args.i (search) in
    omega arith

pub returns-in_err-opening_side : goal.returns-in_err-opening_side
unfolding unsew_checks map_checks
returns-in_err-opening_side c =
    handed_on (opening (goal.at.returns-in_err-opening_side c).After-opening_side) c.in_err-opening_side.was (handed c.from_residual.ensures.1) (unsew_refused _ _ _ _ _ _ _)

pub is_free-requires : goal.is_free-requires
is_free-requires c = index_low c

pub returns-then-is_free : goal.returns-then-is_free
unfolding unsew_checks map_checks
returns-then-is_free c =
    unsew_refused _ _ _ _ _ _ _ (by_reason c.into.ensures (out (dart (goal.at.returns-then-is_free c).In_ok-opening_side)
    (clear_refuses _ 11 (sewn_test _ _ _ c.is_free.ensures) c.if-is_free.true)))

pub unsew_with-requires : goal.unsew_with-requires
unsew_with-requires c =
    let h = all_pass (goal.at.unsew_with-requires c).Else-is_free in
    let room = room_small 2048 _ (table_rule _ _ _ _ _ h) c.if-table.true in
    record { d_value = h; room = (room, omega arith, omega arith) }

pub unsew_with-requires-then-table-2 : goal.unsew_with-requires-then-table-2
unsew_with-requires-then-table-2 c =
    let h = all_pass (goal.at.unsew_with-requires-then-table-2 c).Else-is_free in
    let room = room_small 16384 _ (table_rule _ _ _ _ _ h) c.if-table-2.true in
    record { d_value = h; room = (room, omega arith, omega arith) }

pub unsew_with-requires-2 : goal.unsew_with-requires-2
unsew_with-requires-2 c =
    let h = all_pass (goal.at.unsew_with-requires-2 c).Else-is_free in
    let room = room_given _ (table_rule _ _ _ _ _ h) in
    record { d_value = h; room = (room, omega arith, omega arith) }
