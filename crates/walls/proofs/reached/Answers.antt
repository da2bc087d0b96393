use Prim.Native.Nat.{ℕ, ◌+◌, ◌≤◌, ◌<◌}
use mathlib.Core.Path.{refl, ap, ◌∙◌}
use mathlib.Core.Bool.{true}
use mathlib.Core.List.{List}
use native.Mathlib.Omega.{arith}
use lib.ListN.{length, get_or, set, length-replicate}
use Rattle.model.specs.Table.{slots}
use Rattle.model.specs.Wall.{wall_reached}
use Rattle.model.specs.Meaning.Sets.{Marked}
use Rattle.reach.specs.Search.{Search, search_of}
use Rattle.reach.proofs.Flooding.{Spread, Flooding, gone_none, flooding_space, flooding_fits, start_in, begun, found_on, turned, ended}
use Rattle.walls.specs.Steps.{step}
use Rattle.walls.proofs.Flooded.{stepping, wall_spread}
use Rattle.walls.proofs.reached.Goals as goal
use Rattle.walls.proofs.reached.Goals.{At-loop-head, Start}

abbrev now : At-loop-head → Search
now l = search_of l.loop-head.seen l.loop-head.queue l.loop-head.tail

-- the flood of the wall that is known
flood : (s : Start) →
    let a = s.args in
    Spread (slots a.table.now) (λ _. true) (step a.n a.table.now a.next.now) (a.n + 1) (Marked s.requires.m)
    (get_or a.queue.now 0 0) (wall_reached a.n a.table.now s.requires.m)
flood s = let p = s.requires.is in wall_spread p.nexts _ p.first

state : (l : At-loop-head) →
    Flooding (slots l.args.table.now) (get_or l.args.queue.now 0 0) (wall_reached l.args.n l.args.table.now l.requires.m) (now l)
state l = let p = l.requires in l.loop-head.invariant.0.each p.m p.is.nexts p.is.first

-- the first dart is a slot, and the buffers have room for it
first : (s : Start) →
    let d = get_or s.args.queue.now 0 0 in
    (d < length s.args.queue.now) × (d < length s.args.seen.now) × (d < 65536)
first s =
    let p = s.requires.is in
    let low = start_in (flood s) in
    let room = p.room in
    let few = p.nexts.closed.drawing.table.few in
    let long = ap length p.clear ∙ length-replicate (slots s.args.table.now) 0 in
    (omega arith, omega arith, omega arith)

-- the queue's words are no more than the slots
inside : (l : At-loop-head) →
    let k = slots l.args.table.now in
    (l.loop-head.tail ≤ k) × (k ≤ 65536) × (l.loop-head.tail ≤ length l.loop-head.queue)
inside l =
    let (few, room) = flooding_fits (now l) (state l) in
    (few, l.requires.is.nexts.closed.drawing.table.few, room)

pub bounds-queue-0 : goal.bounds-queue-0
bounds-queue-0 c = let i = first (goal.at.bounds-queue-0 c).Start in omega arith

pub overflow_cast-d : goal.overflow_cast-d
overflow_cast-d c = let i = first (goal.at.overflow_cast-d c).Start in omega arith

pub offset_bounds-seen-d : goal.offset_bounds-seen-d
offset_bounds-seen-d c = let i = first (goal.at.offset_bounds-seen-d c).Start in omega arith

pub bounds-seen-d : goal.bounds-seen-d
bounds-seen-d c = (first (goal.at.bounds-seen-d c).Start).1

pub loop-head-init : goal.loop-head-init
loop-head-init c =
    let p = c.requires.is in
    let d = get_or c.args.queue.now 0 0 in (
      record { each = λ m N e. begun (wall_spread N d e) (ap (λ (l : List ℕ). set l d 1) p.clear) refl p.room },
      gone_none _ _ _ _,
      refl,
    )

pub offset_bounds-queue-head : goal.offset_bounds-queue-head
offset_bounds-queue-head c = let i = inside (goal.at.offset_bounds-queue-head c).At-loop-head in omega arith

pub bounds-queue-head : goal.bounds-queue-head
bounds-queue-head c = let i = inside (goal.at.bounds-queue-head c).At-loop-head in omega arith

pub overflow_cast-x : goal.overflow_cast-x
overflow_cast-x c = omega (arith, c.slice_known-in-loop-head-1.given c.loop-head.head)

pub expand-tail-requires : goal.expand-tail-requires
expand-tail-requires c =
    record {
      stepping = stepping c.requires.is.nexts _ (found_on (flood (goal.at.expand-tail-requires c).Start) (now (goal.at.expand-tail-requires c).At-loop-head) (state (goal.at.expand-tail-requires c).At-loop-head) c.loop-head.head c.loop-head-test.true);
      space = flooding_space (now (goal.at.expand-tail-requires c).At-loop-head) (state (goal.at.expand-tail-requires c).At-loop-head);
    }

pub overflow_add-head : goal.overflow_add-head
overflow_add-head c = let i = inside (goal.at.overflow_add-head c).At-loop-head in omega arith

pub loop-head-smaller : goal.loop-head-smaller
loop-head-smaller c = let i = inside (goal.at.loop-head-smaller c).At-loop-head in omega arith

pub loop-head-preserved : goal.loop-head-preserved
loop-head-preserved c =
    let e = c.expand-tail.ensures in
    let (_, gone, wide) = turned (flood (goal.at.loop-head-preserved c).Start) (now (goal.at.loop-head-preserved c).At-loop-head) c.loop-head.head c.loop-head-test.true (state (goal.at.loop-head-preserved c).At-loop-head) c.loop-head.invariant.1 in (
      record {
        each = λ m N q.
            rw e (turned (wall_spread N _ q) (now (goal.at.loop-head-preserved c).At-loop-head) c.loop-head.head c.loop-head-test.true (c.loop-head.invariant.0.each m N q) c.loop-head.invariant.1).0;
      },
      rw e gone,
      ap (λ (z : Search). length z.queue) e ∙ wide ∙ c.loop-head.invariant.2,
    )

pub overflow_cast-result : goal.overflow_cast-result
overflow_cast-result c = let i = inside (goal.at.overflow_cast-result c).At-loop-head in omega arith

pub returns : goal.returns
returns c m F =
    (ended (wall_spread F.nexts _ F.first) (now (goal.at.returns c).At-loop-head) c.loop-head.head c.loop-head-test.false
    (c.loop-head.invariant.0.each m F.nexts F.first) c.loop-head.invariant.1).1
