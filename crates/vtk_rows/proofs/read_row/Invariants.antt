-- `vtk_rows::read_row` meets its contract. The loop's invariant: so many numbers of the row are read (`Going`).
use Prim.Native.Nat.{ℕ, ◌≤◌}
use mathlib.Core.Path.{◌≡◌}
use mathlib.Core.List.{List}
use lib.ListN.{length}
use Rattle.vtk_rows.specs.Rows.{RowAt}
use Rattle.vtk_rows.proofs.Reading.{Going}
use Rattle.vtk_rows.proofs.read_row.Given as goal

abbrev pub invariant-loop-word : goal.invariant-loop-word
invariant-loop-word l =
    (l.word-index ≤ 8) × (l.p ≤ length l.text) × (length l.word-items ≡ 8)
    × ((row : List ℕ) → RowAt l.text l.at row → Going l.text l.at row l.initial.word-items l.word-items 0 l.p l.word-index)
