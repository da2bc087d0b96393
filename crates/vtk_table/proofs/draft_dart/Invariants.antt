-- `vtk_table::draft_dart` meets its contract. The loop's invariant: the links below i are met.
use Prim.Native.Nat.{ℕ, ◌+◌, ◌*◌, ◌-◌, ◌≤◌}
use mathlib.Core.List.{List}
use lib.ListN.{replicate}
use Rattle.model.specs.Table.{unused}
use Rattle.drafts.specs.Passes.{Met, Pass, FourLinks}
use Rattle.vtk_table.specs.Cells.{dart_links}
use Rattle.vtk_table.proofs.draft_dart.Given as goal

abbrev pub invariant-loop-i : goal.invariant-loop-i
invariant-loop-i l =
    (l.i ≤ 4)
    × ((t u j : List ℕ) → Pass t u j (l.cell + l.k) l.w l.initial.journal → FourLinks t u (l.cell + l.k) (replicate 4 unused) (dart_links l.cell l.third l.k)
    → Met t u j (4 * (l.cell + l.k) + l.i) (l.w + 3 * l.i) l.journal)

abbrev pub decreases-loop-i : goal.decreases-loop-i
decreases-loop-i l = 4 - l.i
