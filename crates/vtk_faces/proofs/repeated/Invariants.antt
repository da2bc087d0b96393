-- `vtk_faces::repeated` meets its contract. The loop's invariant: in none of the first c cells a vertex stands twice.
use Prim.Native.Nat.{ℕ, ◌-◌, ◌≤◌, ◌<◌}
use mathlib.Core.Path.{◌≡◌}
use mathlib.Core.Bool.{false}
use Rattle.model.specs.Faces.{repeats}
use Rattle.vtk_faces.specs.Faces.{held_row}
use Rattle.vtk_faces.proofs.repeated.Given as goal

abbrev pub invariant-loop-c : goal.invariant-loop-c
invariant-loop-c l = ((k : ℕ) → k < l.c → repeats (held_row l.rows k) ≡ false) × (l.c ≤ l.cells)

abbrev pub decreases-loop-c : goal.decreases-loop-c
decreases-loop-c l = l.cells - l.c
