-- `call_unsew::mark_side` meets its contract. The loop's invariant is `Going`; the measure: the slots, less the turns that lead to x.
use Prim.Native.Nat.{◌-◌}
use Rattle.model.specs.Table.{slots}
use Rattle.sides.proofs.Standing.{turns_to}
use Rattle.call_unsew.proofs.Walking.{Going}
use Rattle.call_unsew.proofs.mark_side.Given as goal

abbrev pub invariant-loop-x : goal.invariant-loop-x
invariant-loop-x l = Going l.table l.a l.b l.i l.d l.initial.marks l.marks l.x l.size

abbrev pub decreases-loop-x : goal.decreases-loop-x
decreases-loop-x l = slots l.table - turns_to l.table l.a l.b l.d l.x
