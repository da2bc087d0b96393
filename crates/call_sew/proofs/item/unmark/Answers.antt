use mathlib.Core.Path.{◌≡◌}
use native.Mathlib.Omega.{arith}
use Rattle.call_sew.proofs.Parts.{left_all, left_none, left_less, last_slot, first_slot, cleared}
use Rattle.call_sew.proofs.item.unmark.Goals as goal

pub returns-then-size-marks : goal.returns-then-size-marks
returns-then-size-marks c =
    cleared c.args.marks.now c.args.groups.now c.requires.long c.clear.ensures c.clear-then-size-marks.ensures

pub loop-k-init : goal.loop-k-init
loop-k-init c = left_all c.requires

pub wipe-requires : goal.wipe-requires
wipe-requires c = last_slot c.requires c.loop-k-test.true c.loop-k.auto.k c.loop-k.invariant

pub wipe-requires-in-loop-k : goal.wipe-requires-in-loop-k
wipe-requires-in-loop-k c = first_slot c.requires c.loop-k-test.true c.loop-k.auto.k c.loop-k.invariant c.wipe.ensures

pub loop-k-preserved : goal.loop-k-preserved
loop-k-preserved c =
    left_less c.requires c.loop-k-test.true c.loop-k.auto.k c.loop-k.invariant c.wipe.ensures c.wipe-in-loop-k.ensures

pub returns : goal.returns
returns c =
    let none : c.loop-k.k ≡ 0 = let left = c.loop-k-test.false in omega arith in
    left_none c.requires (rw none at c.loop-k.invariant)
