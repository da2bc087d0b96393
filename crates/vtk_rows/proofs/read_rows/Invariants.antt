-- `vtk_rows::read_rows` meets its contract. The loop's invariant: c of the rows are read (`Along`).
use Prim.Native.Nat.{ℕ, ◌≤◌}
use mathlib.Core.Path.{◌≡◌}
use mathlib.Core.List.{List}
use lib.ListN.{length}
use Rattle.vtk_rows.specs.Rows.{EightsAt}
use Rattle.vtk_rows.proofs.Rows.{Along}
use Rattle.vtk_rows.proofs.read_rows.Given as goal

abbrev pub invariant-loop-c : goal.invariant-loop-c
invariant-loop-c l =
    (l.c ≤ l.k) × (l.p ≤ length l.text) × (length l.rows ≡ length l.initial.rows)
    × ((rs : List (List ℕ)) → EightsAt l.text l.at l.k rs → Along l.text rs l.initial.rows l.rows l.p l.c)
