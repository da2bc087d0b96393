-- `vtk_faces::site` meets its contract.
use Prim.Native.Nat.{◌-◌, ◌/◌, ◌≤◌, ◌<◌}
use mathlib.Core.Path.{◌≡◌}
use lib.ListN.{get_or}
use Rattle.model.specs.Faces.{face_darts}
use Rattle.vtk_faces.proofs.Places.{turns_on}
use Rattle.vtk_faces.proofs.site.Given as goal

abbrev pub invariant-loop-turn : goal.invariant-loop-turn
invariant-loop-turn l = (l.k ≡ turns_on l.turn (get_or face_darts (l.j / 4) 0)) × (l.k < 48) × (l.turn ≤ l.turn-end)

abbrev pub decreases-loop-turn : goal.decreases-loop-turn
decreases-loop-turn l = l.turn-end - l.turn
