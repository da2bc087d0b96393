-- `call_remove::write_layer` meets its contract. The loop's invariant: the slots below x are met.
use Prim.Native.Nat.{◌≤◌, ◌-◌}
use lib.ListN.{length}
use Rattle.call_remove.specs.Removing.{Clearing}
use Rattle.call_remove.proofs.write_layer.Given as goal

abbrev pub invariant-loop-x : goal.invariant-loop-x
invariant-loop-x l = Clearing l.n l.table l.marks l.initial.journal l.x l.w l.journal × (l.x ≤ length l.marks)

abbrev pub decreases-loop-x : goal.decreases-loop-x
decreases-loop-x l = length l.marks - l.x
