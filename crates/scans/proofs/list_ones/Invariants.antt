-- `scans::list_ones` meets its contract. The loop's invariant: the ones before x are listed.
use Prim.Native.Nat.{◌≤◌, ◌-◌}
use lib.ListN.{length}
use Rattle.scans.proofs.Lowest.{Listing}
use Rattle.scans.proofs.list_ones.Given as goal

abbrev pub invariant-loop-x : goal.invariant-loop-x
invariant-loop-x l = Listing l.marks l.x l.r l.initial.words l.words × (l.x ≤ length l.marks)

abbrev pub decreases-loop-x : goal.decreases-loop-x
decreases-loop-x l = length l.marks - l.x
