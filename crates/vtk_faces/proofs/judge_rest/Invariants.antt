-- `vtk_faces::judge_rest` meets its contract. The loop's invariant: all cells but `left` are judged.
use Prim.Native.Nat.{ℕ, ◌-◌, ◌≤◌}
use mathlib.Core.Path.{◌≡◌}
use mathlib.Core.List.{List}
use lib.ListN.{length}
use Rattle.vtk_faces.specs.Judged.{order_number}
use Rattle.vtk_faces.specs.Texts.{Rest}
use Rattle.vtk_faces.proofs.Resting.{Resting}
use Rattle.vtk_faces.proofs.judge_rest.Given as goal

abbrev pub invariant-loop-left : goal.invariant-loop-left
invariant-loop-left l =
    ((rs : List (List ℕ)) (d k : ℕ) → Rest rs d k l.block.rows.now l.block.heads.now l.block.nexts.now l.initial.mates (order_number l.before) l.text l.at l.cells
    → Resting rs d k l.text l.p (l.cells - l.left) l.mates (order_number l.same))
    × (l.left ≤ l.cells) × (length l.mates ≡ length l.initial.mates) × (length l.chunk ≡ 192)

abbrev pub decreases-loop-left : goal.decreases-loop-left
decreases-loop-left l = l.left
