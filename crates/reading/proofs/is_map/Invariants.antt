-- `reading::is_map` meets its contract. The loop's invariant: each slot passed is unused or keeps the near rules.
use Prim.Native.Nat.{ℕ, ◌≤◌, ◌<◌, ◌-◌}
use mathlib.Core.Path.{◌≡◌}
use mathlib.Core.Bool.{true}
use Rattle.reading.specs.Near.{keeps_near}
use Rattle.reading.proofs.is_map.Given as goal

abbrev pub invariant-loop-d : goal.invariant-loop-d
invariant-loop-d l = (l.d ≤ l.end) × ((k : ℕ) → k < l.d → keeps_near l.n l.table k ≡ true)

abbrev pub decreases-loop-d : goal.decreases-loop-d
decreases-loop-d l = l.end - l.d
