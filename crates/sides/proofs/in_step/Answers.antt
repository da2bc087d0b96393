-- `sides::in_step` meets its contract.
use Prim.Native.Nat.{◌≤◌}
use native.Mathlib.Omega.{arith}
use Rattle.sides.proofs.SideLists.{step_parted, step_differs, step_few, step_ended, step_left, step_right, step_mirrored}
use Rattle.sides.proofs.in_step.Goals as goal
use Rattle.sides.proofs.in_step.Goals.{In_ok-size}

pub walk_round-requires : goal.walk_round-requires
walk_round-requires c = step_parted c.requires c.side_links-a.ensures

pub returns-in_err-size : goal.returns-in_err-size
returns-in_err-size c = rw c.from_residual.ensures (step_differs c.requires c.side_links-a.ensures c.in_err-size.ensures.differs)

few : (w : In_ok-size) → w.in_ok-size.field-0.size ≤ 65536
few w =
    let l = step_few w.requires w.side_links-a.ensures _ w.in_ok-size.ensures.walked in
    let f = w.requires.left.table.few in
    omega arith

pub overflow_cast-result : goal.overflow_cast-result
overflow_cast-result c = let f = few (goal.at.overflow_cast-result c).In_ok-size in omega arith

pub returns-then-ended : goal.returns-then-ended
returns-then-ended c = step_ended c.requires c.side_links-a.ensures _ c.in_ok-size.ensures.walked c.if-ended.true

pub mirror-requires : goal.mirror-requires
mirror-requires c = step_left c.requires c.side_links-a.ensures _ c.in_ok-size.ensures.walked c.if-ended.false c.walk_round.auto.xs

pub mirror-requires-2 : goal.mirror-requires-2
mirror-requires-2 c = step_right c.requires c.side_links-a.ensures _ c.in_ok-size.ensures.walked c.if-ended.false c.walk_round.auto.ys

pub overflow_mul-result : goal.overflow_mul-result
overflow_mul-result c = let f = few (goal.at.overflow_mul-result c).In_ok-size in omega arith

pub overflow_cast-result-2 : goal.overflow_cast-result-2
overflow_cast-result-2 c = let f = few (goal.at.overflow_cast-result-2 c).In_ok-size in omega arith

pub returns : goal.returns
returns c =
    step_mirrored c.requires c.side_links-a.ensures _ c.in_ok-size.ensures.walked c.if-ended.false
    c.mirror.ensures c.mirror-2.ensures
