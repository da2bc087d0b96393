-- `new_darts::list_darts` meets its contract. The loop's invariant: the darts before x are listed.
use Prim.Native.Nat.{◌-◌, ◌≤◌}
use lib.ListN.{length}
use Rattle.new_darts.proofs.Placing.{Placing}
use Rattle.new_darts.proofs.list_darts.Given as goal

abbrev pub invariant-loop-r : goal.invariant-loop-r
invariant-loop-r l = Placing l.n l.marks l.x l.r l.initial.darts l.darts l.initial.places l.places × (l.r ≤ l.size)

abbrev pub decreases-loop-r : goal.decreases-loop-r
decreases-loop-r l = length l.marks - l.x
