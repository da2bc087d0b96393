use Prim.Native.Nat.{◌<◌}
use native.Mathlib.Omega.{arith}
use lib.ListN.{length}
use Rattle.new_darts.proofs.Placing.{Placing, placing_none, placing_more, placing_over, placing_left, placing_past, placing_all}
use Rattle.new_darts.proofs.list_darts.Goals as goal
use Rattle.new_darts.proofs.list_darts.Goals.{After-skip_clear-x, then-marks-x-eq1, else-marks-x-eq1}

pub loop-r-init : goal.loop-r-init
loop-r-init c = (placing_none _ _ _ _, omega arith)

pub skip_clear-x-requires : goal.skip_clear-x-requires
skip_clear-x-requires c =
    let size = c.requires.marks_len_bound.1 in
    let low = placing_left c.loop-r.invariant.0 (omega arith) in
    omega arith

-- the darts before the next slot with a mark are listed, and it is one
here : (c : After-skip_clear-x) →
    let a = c.args in
    Placing a.n a.marks.now c.skip_clear-x.result c.loop-r.r a.darts.now c.loop-r.darts a.places.now c.loop-r.places
here c =
    let P = c.loop-r.invariant.0 in
    let more = c.loop-r-test.true in
    let long = P.lists.lists.long in
    let wide = P.wide in
    placing_over P c.skip_clear-x.ensures (omega arith) (omega arith)

left : (c : After-skip_clear-x) → c.skip_clear-x.result < length c.args.marks.now
left c =
    let size = c.requires.marks_len_bound.1 in
    let more = c.loop-r-test.true in
    placing_left (here c) (omega arith)

pub bounds-marks-x : goal.bounds-marks-x
bounds-marks-x c = left (goal.at.bounds-marks-x c).After-skip_clear-x

pub loop-r-preserved : goal.loop-r-preserved
loop-r-preserved c =
    let more = c.loop-r-test.true in
    let P = c.loop-r.invariant.0 in
    let here = here (goal.at.loop-r-preserved c).After-skip_clear-x in
    let low = left (goal.at.loop-r-preserved c).After-skip_clear-x in
    let long = P.lists.lists.long in
    let wide = P.wide in
    elim c.if-marks-x-eq1.branch [
      | then-marks-x-eq1 w ↦ rw (w.darts-is, w.places-is, w.r-is) (placing_more here low w.if-marks-x-eq1.true (omega arith) (omega arith), omega arith)
      | else-marks-x-eq1 w ↦ rw (w.darts-is, w.places-is, w.r-is) (placing_past here low w.if-marks-x-eq1.false, omega arith)
    ]

pub returns : goal.returns
returns c =
    placing_all c.loop-r.invariant.0 _ c.requires.marks_len_bound.1 (omega arith)
