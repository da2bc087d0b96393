-- `sides::walk_round` meets its contract. The loop's invariant is `Going`; the measure: the slots, less the turns made.
use Prim.Native.Nat.{◌-◌}
use Rattle.model.specs.Table.{slots}
use Rattle.sides.proofs.Going.{Going}
use Rattle.sides.proofs.walk_round.Given as goal

abbrev pub invariant-loop-a : goal.invariant-loop-a
invariant-loop-a l = Going l.table l.a l.b l.d l.e l.initial.xs l.initial.ys l.xs l.ys l.x l.y l.k l.ended

abbrev pub decreases-loop-a : goal.decreases-loop-a
decreases-loop-a l = slots l.table - l.k
