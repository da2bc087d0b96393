-- `vtk_form::behind_row` meets its contract. The loop's invariant: i of the numbers are read (`Gone`), name points, and are kept.
use Prim.Native.Nat.{ℕ, ◌≤◌}
use mathlib.Core.Path.{◌≡◌}
use mathlib.Core.Bool.{true}
use mathlib.Core.List.{List}
use lib.ListN.{length, drop}
use Rattle.model.specs.Vtk.{words}
use Rattle.vtk_form.specs.Parts.{all_named, Kept}
use Rattle.vtk_form.proofs.Gone.{Gone}
use Rattle.vtk_form.proofs.behind_row.Given as goal

abbrev pub invariant-loop-i : goal.invariant-loop-i
invariant-loop-i l =
    (l.i ≤ l.k) × (l.p ≤ length l.text) × (length l.rows ≡ length l.initial.rows)
    × ((done : List ℕ) × Gone l.k (words (drop l.at l.text)) l.i done (words (drop l.p l.text)) × (all_named l.points done ≡ true)
    × (length done ≡ l.i) × Kept l.initial.rows l.rows l.base l.room done)
