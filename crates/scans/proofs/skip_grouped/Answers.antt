use native.Mathlib.Omega.{arith}
use Rattle.scans.specs.Clear.{Skips}
use Rattle.scans.proofs.Skips.{skips_none, skips_on, skips_block, skips_groups}
use Rattle.scans.proofs.skip_grouped.Goals as goal
use Rattle.scans.proofs.skip_grouped.Goals.{Joined-y-eq0, then-y-eq0, else-y-eq0}

-- from the loop's head to where the groups are passed, and from the entry
over : (c : Joined-y-eq0) → Skips c.args.marks.now c.loop-y.y c.if-y-eq0.y
over c =
    elim c.if-y-eq0.branch [
      | then-y-eq0 w ↦ rw w.y-is (skips_groups c.requires.0 w.if-y-eq0.true w.skip_groups-y.ensures)
      | else-y-eq0 w ↦ rw w.y-is (skips_none _ _ c.loop-y.invariant.within)
    ]

passed : (c : Joined-y-eq0) →
    let s = c.args in
    Skips s.marks.now s.x c.if-y-eq0.y
passed c = skips_on c.loop-y.invariant (over c)

pub loop-y-init : goal.loop-y-init
loop-y-init c = skips_none _ _ c.requires.1

pub skip_groups-y-requires : goal.skip_groups-y-requires
skip_groups-y-requires c =
    let long = c.requires.0.long in
    let low = c.loop-y.invariant.within in
    omega arith

pub overflow_mul-y : goal.overflow_mul-y
overflow_mul-y c =
    let long = c.requires.0.long in
    let low = c.skip_groups-y.ensures.within in
    omega arith

pub overflow_sub-marks : goal.overflow_sub-marks
overflow_sub-marks c = let low = (passed (goal.at.overflow_sub-marks c).Joined-y-eq0).within in omega arith

pub returns-then-marks-y-lt32 : goal.returns-then-marks-y-lt32
returns-then-marks-y-lt32 c = passed (goal.at.returns-then-marks-y-lt32 c).Joined-y-eq0

pub block_clear-requires : goal.block_clear-requires
block_clear-requires c = let low = (passed (goal.at.block_clear-requires c).Joined-y-eq0).within in omega arith

pub returns-then-not-block_clear : goal.returns-then-not-block_clear
returns-then-not-block_clear c = passed (goal.at.returns-then-not-block_clear c).Joined-y-eq0

pub loop-y-smaller : goal.loop-y-smaller
loop-y-smaller c =
    let on = (over (goal.at.loop-y-smaller c).Joined-y-eq0).onward in
    let few = c.if-marks-y-lt32.false in
    omega arith

pub loop-y-preserved : goal.loop-y-preserved
loop-y-preserved c =
    skips_on (passed (goal.at.loop-y-preserved c).Joined-y-eq0) (skips_block _ _ 32 (omega arith) (c.block_clear.ensures (c.if-not-block_clear.false)))
