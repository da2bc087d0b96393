-- `call_remove::count_layer` meets its contract. The loop's invariant: the marks before it are counted.
use Rattle.call_remove.proofs.Counting.{Counted}
use Rattle.call_remove.proofs.count_layer.Given as goal

abbrev pub invariant-loop-mark : goal.invariant-loop-mark
invariant-loop-mark l = Counted l.marks l.mark-index l.darts l.edge
