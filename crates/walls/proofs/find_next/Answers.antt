use native.Mathlib.Omega.{arith}
use Rattle.theorems.proofs.Lists.Ones.{get_or_in}
use Rattle.model.specs.Lists.{ones}
use Rattle.model.specs.Table.{slots}
use Rattle.model.specs.Meaning.Sets.{Marked}
use Prim.Native.Nat.{ℕ, ◌≤◌, ◌<◌}
use mathlib.Core.Path.{◌≡◌, refl}
use mathlib.Core.List.{List}
use lib.ListN.{length, get_or}
use Rattle.walls.proofs.Passing.{listed_marked}
use Rattle.walls.proofs.Drawings.{dart_in}
use Rattle.walls.proofs.Nexting.{found_more, found_all, next_in}
use Rattle.walls.proofs.find_next.Goals as goal
use Rattle.walls.proofs.find_next.Goals.{After-next_of}

-- the k-th dart is one of the wall
dart : (m hs : List ℕ) → hs ≡ ones m → (k : ℕ) → k < length hs → Marked m (get_or hs k 0)
dart m hs L k low = listed_marked m hs L _ (get_or_in hs k 0 low)

-- it and next of it are slots, and next has a word for each
inside : (c : After-next_of) →
    let k = slots c.args.table.now in
    let h = get_or c.args.hs.now c.loop-h.h-index 0 in
    (c.next_of.result < k) × (k ≤ 65536) × (h < length c.loop-h.next)
inside c =
    let (C, L) = c.requires.closed in
    let i = dart _ _ L c.loop-h.h-index c.loop-h-test.true in
    let low = dart_in C.drawing _ i in
    let room = c.requires.table_in_bounds in
    let same = c.loop-h.auto.next in
    (rw c.next_of.ensures (next_in C _ i), C.drawing.table.few, omega arith)

pub next_of-requires : goal.next_of-requires
next_of-requires c = let (C, L) = c.requires.closed in (C, dart _ _ L c.loop-h.h-index c.loop-h-test.true)

pub overflow_cast-next : goal.overflow_cast-next
overflow_cast-next c = let i = inside c in omega arith

pub bounds-next-h : goal.bounds-next-h
bounds-next-h c = (inside c).2

pub loop-h-preserved : goal.loop-h-preserved
loop-h-preserved c = found_more c.loop-h.invariant _ c.next_of.result refl (inside c).2 c.next_of.ensures

pub returns : goal.returns
returns c =
    let (C, L) = c.requires.closed in
    let room = c.requires.table_in_bounds in
    let same = c.loop-h.auto.next in
    found_all C L c.loop-h.invariant c.loop-h-test.false (omega arith)
