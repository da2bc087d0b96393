-- `vtk_faces::judge` meets its contract. The loop's invariant: all cells but those that are left were blocks.
use Prim.Native.Nat.{ℕ, ◌-◌, ◌≤◌}
use mathlib.Core.Path.{◌≡◌}
use mathlib.Core.List.{List}
use lib.ListN.{length, drop}
use Rattle.model.specs.Meaning.Vtk.{RowsAt}
use Rattle.vtk_faces.specs.Judged.{order_number}
use Rattle.vtk_faces.specs.Texts.{Judgeable}
use Rattle.vtk_faces.proofs.Verdicts.{Upto}
use Rattle.vtk_faces.proofs.judge.Given as goal

abbrev pub invariant-loop-left : goal.invariant-loop-left
invariant-loop-left l =
    ((rs : List (List ℕ)) → Judgeable l.text l.at l.cells rs → Upto rs (l.cells - l.left) (order_number l.same) × RowsAt l.text l.p (drop (l.cells - l.left) rs))
    × (l.left ≤ l.cells) × (length l.rows ≡ length l.initial.rows) × (length l.heads ≡ length l.initial.heads) × (length l.nexts ≡ length l.initial.nexts)
    × (length l.mates ≡ length l.initial.mates)

abbrev pub decreases-loop-left : goal.decreases-loop-left
decreases-loop-left l = l.left
