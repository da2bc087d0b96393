-- `call_sew::item::unmark` meets its contract: all marks are cleared, or taken back. The loop's invariant: only the first k pairs have marks.
use Rattle.call_sew.proofs.Parts.{Left}
use Rattle.call_sew.proofs.item.unmark.Given as goal

abbrev pub invariant-loop-k : goal.invariant-loop-k
invariant-loop-k l = Left l.initial.marks l.initial.groups l.xs l.ys l.k l.marks l.groups
