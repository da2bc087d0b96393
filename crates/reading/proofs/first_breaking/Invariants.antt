-- `reading::first_breaking` meets its contract. The loop's invariant: no slot passed breaks a rule.
use Prim.Native.Nat.{ℕ, ◌<◌}
use mathlib.Core.Path.{◌≡◌}
use mathlib.Core.Bool.{false}
use Rattle.model.specs.Map.{breaks_rule}
use Rattle.reading.proofs.first_breaking.Given as goal

abbrev pub invariant-loop-d : goal.invariant-loop-d
invariant-loop-d l = (k : ℕ) → k < l.d → breaks_rule l.n l.table k ≡ false
