-- `vtk_faces::any_repeated` meets its contract. The loop's invariant: no vertex stands twice in a cell but in those that are left.
use Prim.Native.Nat.{ℕ, ◌-◌, ◌≤◌}
use mathlib.Core.Path.{◌≡◌}
use mathlib.Core.List.{List}
use lib.ListN.{length, drop}
use Rattle.model.specs.Meaning.Vtk.{RowsAt}
use Rattle.vtk_faces.specs.Texts.{CellsAt}
use Rattle.vtk_faces.proofs.Taken.{OnceUpto}
use Rattle.vtk_faces.proofs.any_repeated.Given as goal

abbrev pub invariant-loop-left : goal.invariant-loop-left
invariant-loop-left l =
    ((rs : List (List ℕ)) → CellsAt l.text l.at l.cells rs → OnceUpto rs (l.cells - l.left) × RowsAt l.text l.p (drop (l.cells - l.left) rs))
    × (l.left ≤ l.cells) × (length l.rows ≡ length l.initial.rows)

abbrev pub decreases-loop-left : goal.decreases-loop-left
decreases-loop-left l = l.left
