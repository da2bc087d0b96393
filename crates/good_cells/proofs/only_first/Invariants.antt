-- `good_cells::only_first` meets its contract. The loop's invariant: no place passed but the first holds d.
use Prim.Native.Nat.{ℕ, ◌+◌, ◌≤◌, ◌<◌}
use mathlib.Core.Path.{◌≡◌}
use mathlib.Core.Bool.{true}
use lib.ListN.{length}
use Rattle.good_cells.specs.Good.{not_again}
use Rattle.good_cells.proofs.only_first.Given as goal

abbrev pub invariant-loop-x : goal.invariant-loop-x
invariant-loop-x l = (l.x-index + 1 ≤ length l.cell) × ((j : ℕ) → j < l.x-index + 1 → not_again l.d l.cell j ≡ true)
