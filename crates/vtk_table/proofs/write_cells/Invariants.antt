-- `vtk_table::write_cells` meets its contract. The loop's invariant: the cells below c are written.
use Prim.Native.Nat.{ℕ, ◌*◌, ◌-◌, ◌≤◌}
use mathlib.Core.Path.{◌≡◌}
use mathlib.Core.List.{List}
use lib.ListN.{length}
use Rattle.model.specs.Faces.{vtk_table}
use Rattle.drafts.specs.Passes.{Pass}
use Rattle.vtk_table.specs.Cells.{Steps, RecordWords, TableWords, Placed, NewCells}
use Rattle.vtk_table.proofs.write_cells.Given as goal

abbrev pub invariant-loop-c : goal.invariant-loop-c
invariant-loop-c l =
    (l.c ≤ l.cells) × (length l.thirds ≡ 48)
    × ((rs : List (List ℕ)) → NewCells l.initial.table rs l.mates l.cells l.initial.journal
    → Placed l.initial.table (vtk_table l.initial.table rs) (4 * (48 * l.c)) l.table × Pass l.initial.table (vtk_table l.initial.table rs) l.initial.journal (48 * l.c) l.w l.journal)
    × RecordWords l.words × TableWords l.own × Steps 384 l.steps

abbrev pub decreases-loop-c : goal.decreases-loop-c
decreases-loop-c l = l.cells - l.c
