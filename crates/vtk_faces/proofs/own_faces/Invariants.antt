-- `vtk_faces::own_faces` meets its contract. The loop's invariant: the first i faces are in.
use Prim.Native.Nat.{◌*◌, ◌-◌, ◌≤◌}
use mathlib.Core.Path.{◌≡◌}
use lib.ListN.{length}
use Rattle.vtk_faces.specs.Judged.{order_number}
use Rattle.vtk_faces.proofs.Blocks.{Run}
use Rattle.vtk_faces.proofs.own_faces.Given as goal

abbrev pub invariant-loop-i : goal.invariant-loop-i
invariant-loop-i l =
    Run l.rows l.heads l.nexts l.mates l.i (order_number l.same) × (l.i ≤ l.i-end) × (l.i-end ≡ 6 * l.cells) × (length l.nexts ≡ length l.initial.nexts)
    × (length l.mates ≡ length l.initial.mates) × (length l.heads ≡ length l.initial.heads)

abbrev pub decreases-loop-i : goal.decreases-loop-i
decreases-loop-i l = l.i-end - l.i
