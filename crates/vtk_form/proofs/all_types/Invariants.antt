-- `vtk_form::all_types` meets its contract. The loop's invariant: `counter` of the types are read (`Gone`).
use Prim.Native.Nat.{ℕ, ◌≤◌}
use mathlib.Core.Path.{◌≡◌}
use mathlib.Core.List.{List}
use lib.ListN.{length, drop}
use lib.Dec.{eqb}
use Rattle.model.specs.Lists.{all_of}
use Rattle.model.specs.Vtk.{words}
use Rattle.vtk_form.proofs.Gone.{Gone}
use Rattle.vtk_form.proofs.all_types.Given as goal

abbrev pub invariant-loop : goal.invariant-loop
invariant-loop l =
    (l.counter ≤ l.n) × (l.p ≤ length l.text)
    × ((done : List ℕ) × Gone l.n (words (drop l.at l.text)) l.counter done (words (drop l.p l.text)) × (l.all ≡ all_of (λ x. eqb x 12) done))
