-- `vtk_faces::Chained::find` meets its contract. The loop's invariant: no face from the entry e on has the same four vertices. The measure: e.
use Prim.Native.Nat.{ℕ}
use Rattle.vtk_faces.specs.Faces.{four, held_face}
use Rattle.vtk_faces.specs.Chains.{Chains}
use Rattle.vtk_faces.proofs.Chains.{Looked}
use Rattle.vtk_faces.proofs.Chained.find.Given as goal

abbrev pub invariant-loop-e : goal.invariant-loop-e
invariant-loop-e l = (m : ℕ) → Chains (held_face l.self.rows.now) m l.self.heads.now l.self.nexts.now → Looked (held_face l.self.rows.now) m l.h (four l.r) l.e

abbrev pub decreases-loop-e : goal.decreases-loop-e
decreases-loop-e l = l.e
