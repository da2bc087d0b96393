-- `vtk_table::sew_cell` meets its contract. The loop's invariant: link 3 is right for the darts of the first f faces.
use Prim.Native.Nat.{ℕ, ◌+◌, ◌*◌, ◌-◌, ◌≤◌, ◌<◌}
use mathlib.Core.Path.{◌≡◌}
use mathlib.Core.List.{List}
use lib.ListN.{length, get_or}
use Rattle.model.specs.Faces.{face_darts, partner}
use Rattle.vtk_faces.specs.Walks.{face_walk}
use Rattle.vtk_table.specs.Cells.{Cells}
use Rattle.vtk_table.proofs.sew_cell.Given as goal

abbrev pub invariant-loop-f : goal.invariant-loop-f
invariant-loop-f l =
    (l.f ≤ 6) × (length l.thirds ≡ 48) × ((t : List ℕ) (rs : List (List ℕ)) → Cells t rs l.mates → l.c < length rs
    → (g : ℕ) → g < l.f → (i : ℕ) → i < 8
    → get_or l.thirds (face_walk i (get_or face_darts g 0)) 0 ≡ partner rs (48 * l.c + face_walk i (get_or face_darts g 0)))

abbrev pub decreases-loop-f : goal.decreases-loop-f
decreases-loop-f l = 6 - l.f
