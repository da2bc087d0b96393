-- `block_test::first_wrong` meets its contract. The loop's invariant: no slot passed, and no dart that is seen, is in a wrong cell.
use Prim.Native.Nat.{◌≤◌, ◌-◌}
use mathlib.Core.Path.{◌≡◌}
use lib.ListN.{length}
use Rattle.block_test.proofs.Scan.{Scanned}
use Rattle.block_test.proofs.first_wrong.Given as goal

abbrev pub invariant-loop-d : goal.invariant-loop-d
invariant-loop-d l = (l.d ≤ l.d-end) × (length l.seen ≡ length l.initial.seen) × Scanned l.n l.table l.seen l.d

abbrev pub decreases-loop-d : goal.decreases-loop-d
decreases-loop-d l = l.d-end - l.d
