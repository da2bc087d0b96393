-- `call_orbit::orbit` meets its contract: its opening, the checks 6 and 7, and behind them `orbit_with` of a size.
use mathlib.Core.Bool.{not}
use native.Mathlib.Omega.{arith}
use mathlib.Core.Path.{ap, ◌≡◌}
use mathlib.Core.List.{List}
use Rattle.model.specs.Checks.{Check, pass, in_order, orbit_checks, map_checks}
use Rattle.answers.proofs.Ladder.{Rung, up, out, all_passed}
use Rattle.answers.proofs.Verdicts.{passes, refuses, dart_test}
use Rattle.answers.proofs.Settled.{Opening, opened, by_reason, handed, handed_on}
use Rattle.answers.proofs.Opened.{opened_marks}
use Rattle.answers.proofs.Given.{room_given, room_small}
use Rattle.call_orbit.proofs.Ends.{orbit_refused, orbit_table}
use Rattle.call_orbit.proofs.orbit.Goals as goal
use Rattle.call_orbit.proofs.orbit.Goals.{After-opening, Else-not-live, Else-not-mask_fits, In_ok-opening, Start}

-- ---- the rungs
abbrev checks : Start → List Check
checks p = orbit_checks p.args.n p.args.table.now p.args.marks.now p.args.mask p.args.d

abbrev opening : After-opening → Opening checks 7
unfolding orbit_checks map_checks
opening c = record {
  entry = (goal.at.After-opening c).Start;
  result = _;
  settles = opened_marks _ _ _ _ c.marks_fit.ensures c.opening.ensures;
}

abbrev map : In_ok-opening → Rung checks 7
unfolding orbit_checks map_checks
map c = opened (opening (goal.at.In_ok-opening c).After-opening) c.in_ok-opening.was

abbrev mask : Else-not-mask_fits → Rung checks 8
unfolding orbit_checks map_checks
mask c = up (map (goal.at.Else-not-mask_fits c).In_ok-opening) (passes _ 6 c.mask_fits.ensures (ap not c.if-not-mask_fits.false))

abbrev dart : Else-not-live → Rung checks 9
unfolding orbit_checks map_checks
dart c = up (mask (goal.at.Else-not-live c).Else-not-mask_fits) (passes _ 7 (dart_test _ _ c.live.ensures) (ap not c.if-not-live.false))

pub returns-in_err-opening : goal.returns-in_err-opening
unfolding orbit_checks map_checks
returns-in_err-opening c =
    handed_on (opening (goal.at.returns-in_err-opening c).After-opening) c.in_err-opening.was (handed c.from_residual.ensures.1) (orbit_refused _ _ _ _ _ _)

pub mask_fits-requires : goal.mask_fits-requires
unfolding orbit_checks map_checks
mask_fits-requires c = let p = (map c).passed in search

pub returns-then-not-mask_fits : goal.returns-then-not-mask_fits
unfolding orbit_checks map_checks
returns-then-not-mask_fits c =
    orbit_refused _ _ _ _ _ _ (by_reason c.into.ensures (out (map (goal.at.returns-then-not-mask_fits c).In_ok-opening) (refuses _ 6 c.mask_fits.ensures (ap not c.if-not-mask_fits.true))))

pub returns-then-not-live : goal.returns-then-not-live
unfolding orbit_checks map_checks
returns-then-not-live c =
    orbit_refused _ _ _ _ _ _
    (by_reason c.into-then-not-live.ensures (out (mask (goal.at.returns-then-not-live c).Else-not-mask_fits) (refuses _ 7 (dart_test _ _ c.live.ensures) (ap not c.if-not-live.true))))

-- ---- behind the checks
all_pass : (c : Else-not-live) → in_order (checks (dart c).entry) ≡ pass
unfolding orbit_checks map_checks
all_pass c = all_passed _ (dart c).passed

pub orbit_with-requires : goal.orbit_with-requires
unfolding orbit_checks map_checks
orbit_with-requires c =
    let h = all_pass (goal.at.orbit_with-requires c).Else-not-live in record { d_value = h; room = (room_small 2048 _ (orbit_table _ _ _ _ _ h) c.if-table.true, omega arith) }

pub orbit_with-requires-then-table-2 : goal.orbit_with-requires-then-table-2
unfolding orbit_checks map_checks
orbit_with-requires-then-table-2 c =
    let h = all_pass (goal.at.orbit_with-requires-then-table-2 c).Else-not-live in record { d_value = h; room = (room_small 16384 _ (orbit_table _ _ _ _ _ h) c.if-table-2.true, omega arith) }

pub orbit_with-requires-2 : goal.orbit_with-requires-2
unfolding orbit_checks map_checks
orbit_with-requires-2 c =
    let h = all_pass (goal.at.orbit_with-requires-2 c).Else-not-live in record { d_value = h; room = (room_given _ (orbit_table _ _ _ _ _ h), omega arith) }
