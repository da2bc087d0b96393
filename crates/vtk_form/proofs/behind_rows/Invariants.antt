-- `vtk_form::behind_rows` meets its contract. The loop's invariant: i of the rows are read (`RowsGone`), name points, and are kept.
use Prim.Native.Nat.{ℕ, ◌≤◌}
use mathlib.Core.Path.{◌≡◌}
use mathlib.Core.Bool.{true}
use mathlib.Core.List.{List}
use lib.ListN.{length, drop}
use Rattle.model.specs.Lists.{all_of}
use Rattle.model.specs.Vtk.{words}
use Rattle.vtk_form.specs.Parts.{all_named, is_eight}
use Rattle.vtk_form.proofs.Gone.{RowsGone}
use Rattle.vtk_form.proofs.Keeping.{Stand}
use Rattle.vtk_form.proofs.behind_rows.Given as goal

abbrev pub invariant-loop-i : goal.invariant-loop-i
invariant-loop-i l =
    (l.i ≤ l.n) × (l.p ≤ length l.text) × (l.left ≤ l.size) × (length l.rows ≡ length l.initial.rows)
    × ((done : List (List ℕ)) × RowsGone l.n l.size (words (drop l.at l.text)) l.i l.left done (words (drop l.p l.text))
    × (true ≡ all_of (all_named l.points) done) × (l.eight ≡ all_of is_eight done) × (length done ≡ l.i) × Stand l.rows done)
