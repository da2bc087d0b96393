-- `vtk_faces::turn_of` meets its contract. The loop's invariant: two readings for each turn are compared (`Seeking`).
use Prim.Native.Nat.{◌-◌, ◌≤◌}
use Rattle.vtk_faces.specs.Faces.{four}
use Rattle.vtk_faces.proofs.Turning.{Seeking}
use Rattle.vtk_faces.proofs.turn_of.Given as goal

abbrev pub invariant-loop-turn : goal.invariant-loop-turn
invariant-loop-turn l = (l.turn ≤ 4) × Seeking (four l.initial.here) (four l.want) (four l.here) l.turn

abbrev pub decreases-loop-turn : goal.decreases-loop-turn
decreases-loop-turn l = 4 - l.turn
