-- `sides::mirror` meets its contract. The loop's invariant is `Mirroring`.
use Prim.Native.Nat.{◌-◌}
use Rattle.sides.proofs.Mirrors.{Mirroring}
use Rattle.sides.proofs.mirror.Given as goal

abbrev pub invariant-loop-k : goal.invariant-loop-k
invariant-loop-k l = Mirroring l.table l.a l.size l.initial.words l.words l.k

abbrev pub decreases-loop-k : goal.decreases-loop-k
decreases-loop-k l = l.size - l.k
