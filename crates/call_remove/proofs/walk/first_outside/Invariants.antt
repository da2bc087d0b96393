-- `call_remove::walk::first_outside` meets its contract. The loop's invariant: the walk from link n of x is at y. The measure: the hops
-- that are left of that finite path.
use Rattle.call_remove.proofs.Hops.{hops_left, At}
use Rattle.call_remove.proofs.walk.first_outside.Given as goal

abbrev pub invariant-loop-y : goal.invariant-loop-y
invariant-loop-y l = At l.n l.table l.marks l.x l.y

abbrev pub decreases-loop-y : goal.decreases-loop-y
decreases-loop-y l = hops_left l.n l.table l.marks l.y
