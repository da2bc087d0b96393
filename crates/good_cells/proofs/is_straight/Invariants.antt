-- `good_cells::is_straight` meets its contract. The loop's invariant: link n leads to no place passed but the first.
use Prim.Native.Nat.{ℕ, ◌-◌, ◌≤◌, ◌<◌}
use mathlib.Core.Path.{◌≡◌}
use mathlib.Core.Bool.{true}
use Rattle.good_cells.specs.Good.{side_size, side_of, not_led}
use Rattle.good_cells.proofs.Sides.{Round}
use Rattle.good_cells.proofs.is_straight.Given as goal

abbrev pub invariant-loop : goal.invariant-loop
invariant-loop l =
    (0 < l.counter) × (l.counter ≤ l.end) × (l.end ≡ side_size l.n) × (Round l.n l.k (l.counter - 1) l.p l.s l.by)
    × ((j : ℕ) → j < l.counter → not_led l.n l.table l.cell (side_of l.n l.k) j ≡ true)

abbrev pub decreases-loop : goal.decreases-loop
decreases-loop l = l.end - l.counter
