-- `scans::list_unused` meets its contract. The loop's invariant: the unused slots before x are listed, and more are wanted.
use Prim.Native.Nat.{◌<◌}
use Rattle.scans.proofs.Lowest.{Listing, unused_marks}
use Rattle.scans.proofs.list_unused.Given as goal

abbrev pub invariant-loop-x : goal.invariant-loop-x
invariant-loop-x l = Listing (unused_marks l.table) l.x l.r l.initial.words l.words × (l.r < l.want)
