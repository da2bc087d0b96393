-- `scans::skip_groups` meets its contract. The loop's invariant: the marks of the groups passed are 0.
use Prim.Native.Nat.{◌-◌}
use lib.ListN.{length}
use Rattle.scans.specs.Clear.{Skips}
use Rattle.scans.proofs.skip_groups.Given as goal

abbrev pub invariant-loop-h : goal.invariant-loop-h
invariant-loop-h l = Skips l.groups l.g l.h

abbrev pub decreases-loop-h : goal.decreases-loop-h
decreases-loop-h l = length l.groups - l.h
