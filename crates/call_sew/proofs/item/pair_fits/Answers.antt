-- `call_sew::item::pair_fits` meets its contract: the ladder of the checks 6 to 10.
use mathlib.Core.Bool.{not}
use mathlib.Core.Path.{ap}
use Prim.Native.Nat.{◌<◌}
use mathlib.Core.List.{List}
use native.Mathlib.Omega.{arith}
use Rattle.model.specs.Checks.{Check}
use Rattle.model.specs.Meaning.Pairings.{OnSide}
use Rattle.theorems.proofs.Calls.Pass.{index_pass, dart_pass}
use Rattle.answers.proofs.Ladder.{Rung, ground, up, out, all_passed}
use Rattle.answers.proofs.Verdicts.{passes, refuses, clear_passes, clear_refuses, index_passes, index_refuses, dart_test}
use Rattle.answers.proofs.Settled.{settles_refusal}
use Rattle.call_sew.specs.Items.{pair_checks}
use Rattle.call_sew.proofs.Ends.{apart_test, free_test, map_table_lem}
use Rattle.call_sew.proofs.item.pair_fits.Goals as goal
use Rattle.call_sew.proofs.item.pair_fits.Goals.{After-shared_slice_known-1, Else-i-n, Else-meets, Else-not-is_free, Else-not-live, Else-not-live-2, Start}

-- ---- the rungs
abbrev checks : Start → List Check
checks p = pair_checks p.args.n p.args.table.now p.args.i p.args.d p.args.e

abbrev start : After-shared_slice_known-1 → Rung checks 0
start c = ground (goal.at.After-shared_slice_known-1 c).Start

abbrev index : Else-i-n → Rung checks 1
unfolding pair_checks
index c = up (start (goal.at.Else-i-n c).After-shared_slice_known-1) (index_passes _ _ c.if-i-n.false)

abbrev dart : Else-not-live → Rung checks 2
unfolding pair_checks
dart c = up (index (goal.at.Else-not-live c).Else-i-n) (passes _ 7 (dart_test _ _ c.live.ensures) (ap not c.if-not-live.false))

abbrev second : Else-not-live-2 → Rung checks 3
unfolding pair_checks
second c = up (dart (goal.at.Else-not-live-2 c).Else-not-live) (passes _ 7 (dart_test _ _ c.live-2.ensures) (ap not c.if-not-live-2.false))

abbrev apart : Else-meets → Rung checks 4
unfolding pair_checks
apart c = up (second (goal.at.Else-meets c).Else-not-live-2) (clear_passes _ 9 (apart_test _ _ _ _ _ c.meets.ensures) c.if-meets.false)

abbrev free : Else-not-is_free → Rung checks 5
unfolding pair_checks
free c =
    up (apart (goal.at.Else-not-is_free c).Else-meets) (passes _ 10 (free_test _ _ _ _ c.is_free.ensures c.is_free-2.ensures) (ap not c.if-not-is_free.false))

-- ---- what they say
on_side : (c : Else-not-live-2) → let a = c.args in OnSide a.n a.table.now a.i a.d
unfolding pair_checks
on_side c =
    let p = (dart (goal.at.Else-not-live-2 c).Else-not-live).passed in
    let pre = c.requires in
    record { table = map_table_lem _ _ pre.0 pre.1 pre.2; index = index_pass _ _ p.0; lives = dart_pass _ _ p.1.0 }

index_low : (c : Else-meets) → c.args.i < 4
index_low c =
    let on = on_side (goal.at.Else-meets c).Else-not-live-2 in
    let top = on.table.dim.1 in
    let low = on.index in
    omega arith

-- ---- the needs
pub returns-then-i-n : goal.returns-then-i-n
unfolding pair_checks
returns-then-i-n c = settles_refusal c.into.ensures (out (start (goal.at.returns-then-i-n c).After-shared_slice_known-1) (index_refuses _ _ c.if-i-n.true))

pub returns-then-not-live : goal.returns-then-not-live
unfolding pair_checks
returns-then-not-live c =
    settles_refusal c.into-then-not-live.ensures (out (index (goal.at.returns-then-not-live c).Else-i-n) (refuses _ 7 (dart_test _ _ c.live.ensures) (ap not c.if-not-live.true)))

pub returns-then-not-live-2 : goal.returns-then-not-live-2
unfolding pair_checks
returns-then-not-live-2 c =
    settles_refusal c.into-then-not-live-2.ensures (out (dart (goal.at.returns-then-not-live-2 c).Else-not-live) (refuses _ 7 (dart_test _ _ c.live-2.ensures) (ap not c.if-not-live-2.true)))

pub meets-requires : goal.meets-requires
meets-requires c = on_side c

pub returns-then-meets : goal.returns-then-meets
unfolding pair_checks
returns-then-meets c =
    settles_refusal c.into-then-meets.ensures
    (out (second (goal.at.returns-then-meets c).Else-not-live-2) (clear_refuses _ 9 (apart_test _ _ _ _ _ c.meets.ensures) c.if-meets.true))

pub is_free-requires : goal.is_free-requires
is_free-requires c = index_low c

pub is_free-requires-2 : goal.is_free-requires-2
is_free-requires-2 c = index_low (goal.at.is_free-requires-2 c).Else-meets

pub returns-then-not-is_free : goal.returns-then-not-is_free
unfolding pair_checks
returns-then-not-is_free c =
    settles_refusal c.into-then-not-is_free.ensures (out (apart (goal.at.returns-then-not-is_free c).Else-meets)
    (refuses _ 10 (free_test _ _ _ _ c.is_free.ensures c.is_free-2.ensures) (ap not c.if-not-is_free.true)))

pub returns : goal.returns
unfolding pair_checks
returns c = record { gives = all_passed _ (free c).passed }
