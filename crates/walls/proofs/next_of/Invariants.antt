-- `walls::next_of` meets its contract. The loop's invariant: the turn from h is at x. The measure: the turns that are left.
use Rattle.walls.proofs.Nexting.{turns_left, At}
use Rattle.walls.proofs.next_of.Given as goal

abbrev pub invariant-loop-y : goal.invariant-loop-y
invariant-loop-y l = At l.n l.table l.marks l.h l.x

abbrev pub decreases-loop-y : goal.decreases-loop-y
decreases-loop-y l = turns_left l.n l.table l.marks l.x
