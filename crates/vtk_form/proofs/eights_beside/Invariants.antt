-- `vtk_form::eights_beside` meets its contract. The loop's invariant: `counter` rows and types are passed (`Beside`).
use Prim.Native.Nat.{ℕ, ◌≤◌, ◌<◌}
use mathlib.Core.Path.{◌≡◌}
use mathlib.Core.List.{List}
use mathlib.Core.Option.{some}
use lib.ListN.{length, drop}
use Rattle.model.specs.Vtk.{words, numbers}
use Rattle.model.specs.Meaning.Vtk.{rows_from}
use Rattle.vtk_words.specs.Words.{large}
use Rattle.vtk_form.proofs.Beside.{Beside}
use Rattle.vtk_form.proofs.eights_beside.Given as goal

abbrev pub invariant-loop : goal.invariant-loop
invariant-loop l =
    (l.counter ≤ l.n) × (l.p ≤ length l.text) × (l.q ≤ length l.text)
    × ((rows : List (List ℕ)) → (size : ℕ) → size < large → rows_from l.n size (words (drop l.at l.text)) ≡ some rows
    → (ts : List ℕ) → numbers l.n (words (drop l.first l.text)) ≡ some ts
    → Beside l.n l.counter (words (drop l.p l.text)) (words (drop l.q l.text)) rows ts)
