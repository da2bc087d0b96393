-- `vtk_words::large_at` meets its contract. The loop's invariant: what was too large is so with the digits passed.
use Prim.Native.Nat.{ℕ, ◌≤◌}
use mathlib.Core.Path.{◌≡◌}
use lib.ListN.{drop}
use Rattle.vtk_words.specs.Words.{digits_on, large}
use Rattle.vtk_words.proofs.large_at.Given as goal

abbrev pub invariant-loop-k : goal.invariant-loop-k
invariant-loop-k l =
    (v : ℕ) → large ≤ v → (u : ℕ) × (large ≤ u) × (digits_on v (drop l.at l.text) ≡ digits_on u (drop l.k l.text))
