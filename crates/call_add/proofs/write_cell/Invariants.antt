-- `call_add::write_cell` meets its contract. The loop's invariant: the first k slots are drafted.
use Prim.Native.Nat.{ℕ, ◌-◌, ◌≤◌}
use mathlib.Core.List.{List}
use Rattle.call_add.specs.NewCell.{NewCell}
use Rattle.call_add.proofs.Drafting.{Drafting}
use Rattle.call_add.proofs.write_cell.Given as goal

abbrev pub invariant-loop-k : goal.invariant-loop-k
invariant-loop-k l = (l.k ≤ l.size) × ((t : List ℕ) → NewCell l.n t l.fresh l.size l.initial.journal → Drafting l.n t l.fresh l.size l.initial.journal l.k l.w l.journal)

abbrev pub decreases-loop-k : goal.decreases-loop-k
decreases-loop-k l = l.size - l.k
