use mathlib.Core.Path.{◌≡◌}
use native.Mathlib.Omega.{arith}
use lib.ListN.{get_or}
use Rattle.scans.proofs.Skips.{skips_on, skips_one}
use Rattle.scans.proofs.skip_groups.Goals as goal

pub loop-h-init : goal.loop-h-init
loop-h-init c = c.skip_blocks-h.ensures

pub loop-h-smaller : goal.loop-h-smaller
loop-h-smaller c = let on = c.skip_clear-h.ensures.onward in let low = c.loop-h-test.true in omega arith

-- what was tested of the group is found by its meaning, so that another test is refused for what it says
pub loop-h-preserved : goal.loop-h-preserved
loop-h-preserved c =
    let clear : get_or c.args.groups.now c.loop-h.h 0 ≡ 0 = omega arith in
    skips_on c.loop-h.invariant (skips_on (skips_one _ _ c.loop-h-test.true clear) c.skip_clear-h.ensures)

pub returns : goal.returns
returns c = c.loop-h.invariant
