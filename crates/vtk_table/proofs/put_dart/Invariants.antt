-- `vtk_table::put_dart` meets its contract. The loop's invariant: the links below i are put.
use Prim.Native.Nat.{ℕ, ◌+◌, ◌*◌, ◌-◌, ◌≤◌, ◌<◌}
use mathlib.Core.Path.{◌≡◌}
use mathlib.Core.List.{List}
use lib.ListN.{length, get_or}
use Rattle.model.specs.Table.{link}
use Rattle.vtk_table.specs.Cells.{dart_links, Placed}
use Rattle.vtk_table.proofs.put_dart.Given as goal

abbrev pub invariant-loop-i : goal.invariant-loop-i
invariant-loop-i l =
    (l.i ≤ 4) × (length l.table ≡ length l.initial.table)
    × ((t u : List ℕ) → Placed t u (4 * (l.cell + l.k)) l.initial.table → ((i : ℕ) → i < 4 → get_or (dart_links l.cell l.third l.k) i 0 ≡ link u i (l.cell + l.k))
    → Placed t u (4 * (l.cell + l.k) + l.i) l.table)

abbrev pub decreases-loop-i : goal.decreases-loop-i
decreases-loop-i l = 4 - l.i
