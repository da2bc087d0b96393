-- `lines::giving::op_named` meets its contract. The loop's invariant: none of the names passed is the text.
use Prim.Native.Nat.{◌≤◌}
use Rattle.lines.proofs.Ops.{Past}
use Rattle.lines.proofs.giving.op_named.Given as goal

abbrev pub invariant-loop-k : goal.invariant-loop-k
invariant-loop-k l = (l.k ≤ 10) × Past l.k l.text
