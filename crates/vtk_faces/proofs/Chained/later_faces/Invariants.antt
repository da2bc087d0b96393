-- `vtk_faces::Chained::later_faces` meets its contract. The loop's invariant: the first j faces are judged.
use Prim.Native.Nat.{ℕ, ◌+◌, ◌*◌, ◌-◌, ◌≤◌}
use mathlib.Core.Path.{◌≡◌}
use mathlib.Core.List.{List}
use lib.ListN.{length}
use Rattle.vtk_faces.specs.Judged.{order_number, State}
use Rattle.vtk_faces.specs.Rest.{Chunk}
use Rattle.vtk_faces.proofs.Chained.later_faces.Given as goal

abbrev pub invariant-loop-j : goal.invariant-loop-j
invariant-loop-j l =
    ((F : ℕ → List ℕ) (m i : ℕ) → Chunk F m i l.self.rows.now l.self.heads.now l.self.nexts.now l.initial.mates (order_number l.before) l.chunk l.cells → State F m (i + l.j) l.mates (order_number l.same))
    × (l.j ≤ l.j-end) × (l.j-end ≡ 6 * l.cells) × (length l.mates ≡ length l.initial.mates)

abbrev pub decreases-loop-j : goal.decreases-loop-j
decreases-loop-j l = l.j-end - l.j
