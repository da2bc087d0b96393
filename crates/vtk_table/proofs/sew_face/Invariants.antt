-- `vtk_table::sew_face` meets its contract. The loop's invariant: i steps are made round both faces.
use Prim.Native.Nat.{ℕ, ◌+◌, ◌*◌, ◌-◌, ◌/◌, ◌%◌, ◌≤◌, ◌<◌}
use mathlib.Core.Path.{◌≡◌}
use lib.ListN.{length, get_or}
use Rattle.model.specs.Faces.{face_darts}
use Rattle.vtk_faces.specs.Walks.{face_walk, walk_at}
use Rattle.vtk_table.specs.Cells.{Sews}
use Rattle.vtk_table.proofs.sew_face.Given as goal

abbrev pub invariant-loop-i : goal.invariant-loop-i
invariant-loop-i l =
    (l.i ≤ 8) × (length l.thirds ≡ 48)
    × ((g : ℕ → ℕ) → ((n : ℕ) → n < 8 → g (face_walk n (get_or face_darts l.f 0)) ≡ 48 * (l.r / 48) + face_walk n (walk_at (l.r % 48)))
    → Sews g (get_or face_darts l.f 0) l.i l.initial.thirds l.thirds)

abbrev pub decreases-loop-i : goal.decreases-loop-i
decreases-loop-i l = 8 - l.i
