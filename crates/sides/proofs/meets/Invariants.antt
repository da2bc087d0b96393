-- `sides::meets` meets its contract. The loop's invariant is `Seeking`; the measure: the slots, less the turns that lead to x.
use Prim.Native.Nat.{◌-◌}
use Rattle.model.specs.Table.{slots}
use Rattle.sides.proofs.Standing.{turns_to}
use Rattle.sides.proofs.Seeking.{Seeking}
use Rattle.sides.proofs.meets.Given as goal

abbrev pub invariant-loop-x : goal.invariant-loop-x
invariant-loop-x l = Seeking l.table l.a l.b l.d l.e l.x

abbrev pub decreases-loop-x : goal.decreases-loop-x
decreases-loop-x l = slots l.table - turns_to l.table l.a l.b l.d l.x
