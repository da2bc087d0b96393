-- `reading::broken::pairs_commute` meets its contract. The loop's invariant: no pair passed fails to commute.
use Prim.Native.Nat.{ℕ, ◌<◌}
use mathlib.Core.Path.{◌≡◌}
use mathlib.Core.Bool.{true}
use Rattle.model.specs.Map.{crossed}
use Rattle.reading.proofs.broken.pairs_commute.Given as goal

abbrev pub invariant-loop-j : goal.invariant-loop-j
invariant-loop-j l = (k : ℕ) → k < l.j → crossed l.table l.d l.i k ≡ true
