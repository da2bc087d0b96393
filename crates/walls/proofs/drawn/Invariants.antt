-- `walls::drawn` meets its contract. The loop's invariant: the marks before x fit.
use Prim.Native.Nat.{◌≤◌, ◌-◌}
use lib.ListN.{length}
use Rattle.walls.proofs.Drawings.{Fits}
use Rattle.walls.proofs.drawn.Given as goal

abbrev pub invariant-loop-x : goal.invariant-loop-x
invariant-loop-x l = Fits l.table l.marks l.x × (l.x ≤ length l.marks)

abbrev pub decreases-loop-x : goal.decreases-loop-x
decreases-loop-x l = length l.marks - l.x
