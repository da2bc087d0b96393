-- `write_slot` meets its contract. The loop's invariant: the links below k are met.
use Prim.Native.Nat.{ℕ, ◌+◌, ◌*◌, ◌-◌, ◌≤◌}
use mathlib.Core.List.{List}
use Rattle.drafts.specs.Passes.{Met, Pass, FourLinks}
use Rattle.drafts.proofs.write_slot.Given as goal

abbrev pub invariant-loop-k : goal.invariant-loop-k
invariant-loop-k l =
    (l.k ≤ 4)
    × ((t u j : List ℕ) → Pass t u j l.x l.w l.initial.journal → FourLinks t u l.x l.old l.new → Met t u j (4 * l.x + l.k) (l.w + 3 * l.k) l.journal)

abbrev pub decreases-loop-k : goal.decreases-loop-k
decreases-loop-k l = 4 - l.k
