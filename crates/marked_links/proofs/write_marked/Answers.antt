use Prim.Native.Nat.{◌≤◌}
use native.Mathlib.Omega.{arith}
use Rattle.model.specs.Table.{slots}
use Rattle.model.specs.Journal.{cursor}
use Rattle.marked_links.proofs.MarkedPass.{marked_start, marked_end, skipped_here, skipped_all}
use Rattle.marked_links.proofs.write_marked.Goals as goal
use Rattle.marked_links.proofs.write_marked.Goals.{After-block_end-y, At-loop-x}

pub slots-end-requires : goal.slots-end-requires
slots-end-requires c = let freed = c.requires.some_marked_record.is.freed in omega (arith, freed.fits, freed.few)

pub overflow_cast-end : goal.overflow_cast-end
overflow_cast-end c = let few = c.requires.some_marked_record.is.freed.few in omega (arith, c.slots-end.ensures)

pub bounds-journal-0 : goal.bounds-journal-0
bounds-journal-0 c = let long = c.requires.some_marked_record.is.rule.long in omega arith

pub skip_grouped-x-requires : goal.skip_grouped-x-requires
skip_grouped-x-requires c = (c.requires.grouped, omega arith)

pub loop-x-init : goal.loop-x-init
unfolding cursor
loop-x-init c =
    (c.slots-end.ensures, λ v T. record { y = 0; inside = omega arith; skips = c.skip_grouped-x.ensures; met = marked_start T })

-- the end of the block lies in the table
within : (c : After-block_end-y) → c.block_end-y.result ≤ slots c.args.table.now
within c =
    let same = c.loop-x.invariant.0 in
    let high = c.block_end-y.ensures.1 in
    omega arith

few : (l : At-loop-x) → slots l.args.table.now ≤ 65536
few l = l.requires.some_marked_record.is.freed.few

pub overflow_cast-x : goal.overflow_cast-x
overflow_cast-x c =
    let top = few (goal.at.overflow_cast-x c).At-loop-x in
    let high = within (goal.at.overflow_cast-x c).After-block_end-y in
    let low = c.block_end-y.ensures.0 in
    omega arith

pub overflow_cast-y : goal.overflow_cast-y
overflow_cast-y c = let top = few (goal.at.overflow_cast-y c).At-loop-x in let high = within (goal.at.overflow_cast-y c).After-block_end-y in omega arith

pub write_some-w-requires : goal.write_some-w-requires
write_some-w-requires c =
    let high = within (goal.at.write_some-w-requires c).After-block_end-y in
    let low = c.block_end-y.ensures.0 in
    record {
      v = _;
      j = _;
      met = skipped_here (c.loop-x.invariant.1 _ c.requires.some_marked_record.is) (omega arith);
      onward = omega arith;
      inside = high;
    }

pub skip_to-x-requires : goal.skip_to-x-requires
skip_to-x-requires c =
    let pre = c.requires in
    let wide = pre.some_marked_record.is.freed.wide in
    let high = within (goal.at.skip_to-x-requires c).After-block_end-y in
    (pre.grouped, omega arith)

pub loop-x-smaller : goal.loop-x-smaller
loop-x-smaller c =
    let on = c.skip_to-x.ensures.onward in
    let low = c.block_end-y.ensures.0 in
    let past = c.loop-x-test.true in
    omega arith

pub loop-x-preserved : goal.loop-x-preserved
loop-x-preserved c =
    let high = within (goal.at.loop-x-preserved c).After-block_end-y in
    let low = c.block_end-y.ensures.0 in (
      c.loop-x.invariant.0,
      λ v T. record {
        y = c.block_end-y.result;
        inside = high;
        skips = c.skip_to-x.ensures;
        met = c.write_some-w.ensures _ _ (skipped_here (c.loop-x.invariant.1 v T) (omega arith));
      },
    )

pub returns : goal.returns
returns c =
    let same = c.loop-x.invariant.0 in
    let high = c.loop-x-test.false in
    λ v T. marked_end T (skipped_all (c.loop-x.invariant.1 v T) (omega arith))
