use mathlib.Core.Path.{refl, sym, ap, ◌∙◌}
use Prim.Native.Nat.{◌≤◌}
use native.Mathlib.Omega.{arith}
use lib.ListN.{length}
use Rattle.model.specs.Table.{slots}
use Rattle.reach.specs.Search.{Search, search_of}
use Rattle.reach.proofs.Flooding.{gone_none, flooding_space, flooding_fits, found_on, turned, ended}
use Rattle.reach.proofs.Meeting.{linked}
use Rattle.reach.proofs.Reached.{spread, begin_asks, begins}
use Rattle.reach.proofs.orbit.Goals as goal
use Rattle.reach.proofs.orbit.Goals.{At-loop-head}

abbrev now : At-loop-head → Search
now a = search_of a.loop-head.marks a.loop-head.queue a.loop-head.tail

-- the queue's words are no more than the slots
inside : (a : At-loop-head) →
    let k = slots a.args.table.now in
    (a.loop-head.tail ≤ k) × (k ≤ 65536) × (a.loop-head.tail ≤ length a.loop-head.queue)
inside a = let (few, room) = flooding_fits (now a) a.loop-head.invariant.0 in (few, a.requires.0.table.few, room)

pub begin-requires : goal.begin-requires
begin-requires c = let (g, bound) = c.requires in begin_asks g bound

pub loop-head-init : goal.loop-head-init
loop-head-init c =
    let (g, bound) = c.requires in
    (begins g bound c.begin.ensures, gone_none _ _ _ _, refl)

pub offset_bounds-queue-head : goal.offset_bounds-queue-head
offset_bounds-queue-head c = let i = inside (goal.at.offset_bounds-queue-head c).At-loop-head in omega arith

pub bounds-queue-head : goal.bounds-queue-head
bounds-queue-head c = let i = inside (goal.at.bounds-queue-head c).At-loop-head in omega arith

pub overflow_cast-x : goal.overflow_cast-x
overflow_cast-x c = omega (arith, c.slice_known-in-loop-head-1.given c.loop-head.head)

pub expand-tail-requires : goal.expand-tail-requires
expand-tail-requires c =
    let (g, bound) = c.requires in
    let f = c.loop-head.invariant.0 in
    record {
      linked = linked g.table;
      space = flooding_space (now (goal.at.expand-tail-requires c).At-loop-head) f;
      lives = found_on (spread g bound) (now (goal.at.expand-tail-requires c).At-loop-head) f c.loop-head.head c.loop-head-test.true;
    }

pub overflow_add-head : goal.overflow_add-head
overflow_add-head c = let i = inside (goal.at.overflow_add-head c).At-loop-head in omega arith

pub loop-head-smaller : goal.loop-head-smaller
loop-head-smaller c = let i = inside (goal.at.loop-head-smaller c).At-loop-head in omega arith

pub loop-head-preserved : goal.loop-head-preserved
loop-head-preserved c =
    let (g, bound) = c.requires in
    let (f, gone, wide) = turned (spread g bound) (now (goal.at.loop-head-preserved c).At-loop-head) c.loop-head.head c.loop-head-test.true c.loop-head.invariant.0 c.loop-head.invariant.1 in
    let e = c.expand-tail.ensures in
    (rw e f, rw e gone, ap (λ (s : Search). length s.queue) e ∙ wide ∙ c.loop-head.invariant.2)

pub overflow_cast-result : goal.overflow_cast-result
overflow_cast-result c = let i = inside (goal.at.overflow_cast-result c).At-loop-head in omega arith

pub shape_of-marks : goal.shape_of-marks
shape_of-marks c =
    let (g, bound) = c.requires in
    c.loop-head.invariant.0.long ∙ sym g.long

pub shape_of-queue : goal.shape_of-queue
shape_of-queue c = c.loop-head.invariant.2 ∙ c.begin.auto.queue

pub returns : goal.returns
returns c =
    let (g, bound) = c.requires in
    ended (spread g bound) (now (goal.at.returns c).At-loop-head) c.loop-head.head c.loop-head-test.false c.loop-head.invariant.0 c.loop-head.invariant.1
