use native.Mathlib.Omega.{arith}
use Rattle.scans.proofs.Skips.{clear_on, skips_none}
use Rattle.scans.proofs.skip_blocks.Goals as goal

pub loop-y-init : goal.loop-y-init
loop-y-init c = skips_none _ _ c.requires

pub overflow_sub-marks : goal.overflow_sub-marks
overflow_sub-marks c = let i = c.loop-y.invariant.within in omega arith

pub block_clear-requires : goal.block_clear-requires
block_clear-requires c = let i = c.loop-y.invariant.within in omega arith

pub returns-then-not-block_clear : goal.returns-then-not-block_clear
returns-then-not-block_clear c = c.loop-y.invariant

pub overflow_add-y : goal.overflow_add-y
overflow_add-y c = let i = c.loop-y.invariant.within in omega arith

pub loop-y-smaller : goal.loop-y-smaller
loop-y-smaller c = let i = c.loop-y.invariant.within in omega arith

pub loop-y-preserved : goal.loop-y-preserved
loop-y-preserved c =
    let i = c.loop-y.invariant in
    let on = i.onward in
    let within = i.within in
    record {
      onward = omega arith;
      within = omega arith;
      clear = clear_on c.args.marks.now _ _ _ i.clear (c.block_clear.ensures (c.if-not-block_clear.false));
    }

pub returns : goal.returns
returns c = c.loop-y.invariant
