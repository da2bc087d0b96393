use Prim.Native.Nat.{◌+◌, ◌<◌}
use mathlib.Core.Path.{◌≡◌}
use native.Mathlib.Omega.{arith}
use lib.ListN.{length}
use Rattle.model.specs.Table.{slots}
use Rattle.model.specs.Journal.{cursor}
use Rattle.call_remove.specs.Removing.{Clearing}
use Rattle.call_remove.proofs.Clearings.{of_layer}
use Rattle.call_remove.proofs.Clearings.{clearing_start, clearing_stays, clearing_over, clearing_end}
use Rattle.call_remove.proofs.write_layer.Goals as goal
use Rattle.call_remove.proofs.write_layer.Goals.{then-marks-x-ne0, else-marks-x-ne0}
use Rattle.call_remove.proofs.write_layer.Goals.{Joined-marks-x-ne0, Start}

-- there is a mark for each slot
long : (s : Start) → length s.args.marks.now ≡ slots s.args.table.now
long s = (of_layer s.requires.sheet).long

pub bounds-journal-0 : goal.bounds-journal-0
bounds-journal-0 c = let some = c.requires.rule.long in omega arith

pub overflow_cast-w : goal.overflow_cast-w
overflow_cast-w c = omega (arith, c.slice_known-2-1.given 0)

pub overflow_add-w : goal.overflow_add-w
overflow_add-w c = omega (arith, c.slice_known-2-1.given 0)

pub loop-x-init : goal.loop-x-init
unfolding cursor
loop-x-init c =
    let skips = c.skip_blocks-x.ensures in
    (clearing_over (clearing_start c.requires) skips, skips.within)

pub overflow_cast-x : goal.overflow_cast-x
overflow_cast-x c =
    let few = c.loop-x.invariant.0.pass.few in
    let same = long (goal.at.overflow_cast-x c).Start in
    omega arith

pub write_one-w-requires : goal.write_one-w-requires
write_one-w-requires c =
    let same = long (goal.at.write_one-w-requires c).Start in
    record { j = _; clearing = c.loop-x.invariant.0; inside = omega arith; mark = c.if-marks-x-ne0.true }

pub loop-x-smaller : goal.loop-x-smaller
loop-x-smaller c =
    let onward = c.skip_clear-x.ensures.onward in
    let low = c.loop-x-test.true in
    omega arith

-- the slot x is met
more : (c : Joined-marks-x-ne0) →
    let a = c.args in
    Clearing a.n a.table.now a.marks.now a.journal.now (c.loop-x.x + 1) c.if-marks-x-ne0.w c.if-marks-x-ne0.journal
more c =
    let C = c.loop-x.invariant.0 in
    let same = long (goal.at.Joined-marks-x-ne0 c).Start in
    let low : c.loop-x.x < slots c.args.table.now = omega arith in
    elim c.if-marks-x-ne0.branch [
      | then-marks-x-ne0 w ↦ rw (w.journal-is, w.w-is) (w.write_one-w.ensures _ C)
      | else-marks-x-ne0 w ↦ rw (w.journal-is, w.w-is) (clearing_stays C low w.if-marks-x-ne0.false)
    ]

pub loop-x-preserved : goal.loop-x-preserved
loop-x-preserved c = let skips = c.skip_clear-x.ensures in (clearing_over (more (goal.at.loop-x-preserved c).Joined-marks-x-ne0) skips, skips.within)

pub returns : goal.returns
returns c =
    let same = long (goal.at.returns c).Start in
    let end : c.loop-x.x ≡ slots c.args.table.now = omega arith in
    clearing_end c.requires (rw end at c.loop-x.invariant.0)
