-- `vtk_table::write_cell` meets its contract. The loop's invariant: the darts below k are written.
use Prim.Native.Nat.{ℕ, ◌+◌, ◌*◌, ◌-◌, ◌≤◌}
use mathlib.Core.List.{List}
use lib.ListN.{length}
use Rattle.drafts.specs.Passes.{Pass}
use Rattle.vtk_table.specs.Cells.{Placed, NewCell}
use Rattle.vtk_table.proofs.write_cell.Given as goal

abbrev pub invariant-loop-k : goal.invariant-loop-k
invariant-loop-k l =
    (l.k ≤ length l.thirds)
    × ((t u j : List ℕ) → Placed t u (4 * (48 * l.c)) l.initial.table → Pass t u j (48 * l.c) l.w l.initial.journal → NewCell t u l.thirds l.c
    → Placed t u (4 * (48 * l.c + l.k)) l.table × Pass t u j (48 * l.c + l.k) (l.w + 12 * l.k) l.journal)

abbrev pub decreases-loop-k : goal.decreases-loop-k
decreases-loop-k l = length l.thirds - l.k
