-- `walls::reached` meets its contract. The loop's invariant: `Flooded`, and the queue's darts before head have gone their steps.
use Prim.Native.Nat.{◌+◌, ◌-◌}
use mathlib.Core.Path.{◌≡◌}
use mathlib.Core.Bool.{true}
use lib.ListN.{length}
use Rattle.model.specs.Table.{slots}
use Rattle.reach.specs.Search.{search_of}
use Rattle.reach.proofs.Flooding.{Gone}
use Rattle.walls.specs.Steps.{step}
use Rattle.walls.proofs.Flooded.{Flooded}
use Rattle.walls.proofs.reached.Given as goal

abbrev pub invariant-loop-head : goal.invariant-loop-head
invariant-loop-head l =
    Flooded l.n l.table l.next l.d (search_of l.seen l.queue l.tail)
    × Gone (λ _. true) (step l.n l.table l.next) (l.n + 1) (search_of l.seen l.queue l.tail) l.head × (length l.queue ≡ length l.initial.queue)

abbrev pub decreases-loop-head : goal.decreases-loop-head
decreases-loop-head l = slots l.table - l.head
