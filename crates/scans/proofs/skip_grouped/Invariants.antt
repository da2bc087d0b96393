-- `scans::skip_grouped` meets its contract. The loop's invariant: the marks passed are 0.
use Prim.Native.Nat.{◌-◌}
use lib.ListN.{length}
use Rattle.scans.specs.Clear.{Skips}
use Rattle.scans.proofs.skip_grouped.Given as goal

abbrev pub invariant-loop-y : goal.invariant-loop-y
invariant-loop-y l = Skips l.marks l.x l.y

abbrev pub decreases-loop-y : goal.decreases-loop-y
decreases-loop-y l = length l.marks - l.y
