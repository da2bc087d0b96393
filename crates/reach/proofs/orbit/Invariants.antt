-- `reach::orbit` meets its contract. The loop's invariant: `Flooding`, and the queue's darts before head have gone their links.
use mathlib.Core.Path.{◌≡◌}
use Prim.Native.Nat.{◌-◌}
use lib.ListN.{length}
use Rattle.model.specs.Table.{slots, link}
use Rattle.model.specs.Orbit.{bit, orbit}
use Rattle.reach.specs.Search.{search_of}
use Rattle.reach.proofs.Flooding.{Flooding, Gone}
use Rattle.reach.proofs.orbit.Given as goal

abbrev pub invariant-loop-head : goal.invariant-loop-head
invariant-loop-head l =
    Flooding (slots l.table) l.d (orbit l.n l.table l.mask l.d) (search_of l.marks l.queue l.tail)
    × Gone (bit l.mask) (link l.table) 4 (search_of l.marks l.queue l.tail) l.head × (length l.queue ≡ length l.initial.queue)

abbrev pub decreases-loop-head : goal.decreases-loop-head
decreases-loop-head l = slots l.table - l.head
