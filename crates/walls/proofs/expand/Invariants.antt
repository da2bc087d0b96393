-- `walls::expand` meets its contract. The loop's invariant is `Going`: the steps below i have been followed.
use Prim.Native.Nat.{◌+◌}
use mathlib.Core.Bool.{true}
use Rattle.model.specs.Table.{slots}
use Rattle.reach.specs.Search.{search_of}
use Rattle.reach.proofs.Meeting.{Going}
use Rattle.walls.specs.Steps.{step}
use Rattle.walls.proofs.expand.Given as goal

abbrev pub invariant-loop-i : goal.invariant-loop-i
invariant-loop-i l = Going (slots l.table) (λ _. true) (step l.n l.table l.next) (l.n + 1) l.x (search_of l.initial.seen l.initial.queue l.from) (search_of l.seen l.queue l.tail) l.i
