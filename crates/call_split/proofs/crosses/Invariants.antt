-- `call_split::crosses` meets its contract. The loop's invariant: no dart before x with the mark 1 leads to one.
use Prim.Native.Nat.{ℕ, ◌-◌, ◌<◌}
use lib.ListN.{length}
use Rattle.model.specs.Table.{link}
use Rattle.model.specs.Meaning.Sets.{Marked}
use Rattle.call_split.proofs.crosses.Given as goal

abbrev pub invariant-loop-x : goal.invariant-loop-x
invariant-loop-x l = (k : ℕ) → k < l.x → Marked l.marks k → Marked l.marks (link l.table 1 k) → ⊥

abbrev pub decreases-loop-x : goal.decreases-loop-x
decreases-loop-x l = length l.marks - l.x
