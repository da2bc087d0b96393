-- `picks::mark_rest` meets its contract. The loop's invariant: the marks are settling, and beside the words of the groups passed all has a mark.
use Prim.Native.Nat.{ℕ, ◌*◌, ◌-◌, ◌≤◌, ◌<◌}
use mathlib.Core.Path.{◌≡◌}
use lib.ListN.{get_or}
use Rattle.sheets.proofs.Layers.{Settling}
use Rattle.picks.specs.Queued.{group, Listed}
use Rattle.picks.proofs.Settling.{Done}
use Rattle.picks.proofs.mark_rest.Given as goal

abbrev pub invariant-loop-k : goal.invariant-loop-k
invariant-loop-k l =
    (L : Listed l.n l.table l.initial.marks l.queue l.count) × Settling l.n l.table L.seed l.marks
    × ((i : ℕ) → i < l.k → Done l.n l.table l.marks (get_or l.queue i 0)) × ((c : ℕ) × (l.k ≡ group l.n * c)) × (l.k ≤ l.count)

abbrev pub decreases-loop-k : goal.decreases-loop-k
decreases-loop-k l = l.count - l.k
