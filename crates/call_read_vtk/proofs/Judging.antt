-- 21 to 23 for cells, by what is found of them: `judged_repeated`, `judged_verdict`; of those in a buffer `judged_held`.
use Prim.Native.Nat.{ℕ}
use mathlib.Core.Path.{◌≡◌, refl, ap}
use mathlib.Core.Logic.{⊎_elim, ◌≢◌}
use mathlib.Core.Bool.{Bool, true, false, not}
use mathlib.Core.List.{List, []}
use Rattle.std.specs.Prelude.{Result, Ok, Err}
use Rattle.model.specs.Checks.{pass, must, and_then, in_order, vertices_ok}
use Rattle.theorems.proofs.Lists.Scan.{test}
use Rattle.theorems.proofs.Vtk.Passed.{vertices_once}
use Rattle.vtk_faces.specs.Repeats.{all_once}
use Rattle.vtk_faces.specs.Blocks.{CellsIn, Verdict, JudgedCells}
use Rattle.vtk_faces.specs.Texts.{CellsAt, Judgeable}
use Rattle.vtk_faces.specs.Judged.{number_told}
use Rattle.answers.specs.Answers.{Reason, number_of, refusal, accepted}
use Rattle.refusals.specs.declared.Reason.TheVariants.{VertexRepeated}
use Rattle.answers.proofs.Determined.{determined}
use Rattle.answers.proofs.Verdicts.{clear_passes, clear_refuses}
use Rattle.call_read_vtk.specs.Formed.{CellsHeld, cell_checks, Judged, JudgedHeld}

-- 21, by whether a vertex is repeated
module _ (rows : List (List ℕ)) {b : Bool} (found : b ≡ not (all_once rows)) where
  once_test : must (not b) 21 ≡ vertices_ok rows
  unfolding vertices_ok
  once_test = rw found (test (all_once rows) (λ e. rw e) (λ e. rw e))

  pub once_passes : b ≡ false → vertices_ok rows ≡ pass
  once_passes h = clear_passes b 21 once_test h

  pub judged_repeated : b ≡ true → Judged rows (Err VertexRepeated)
  unfolding cell_checks in_order and_then
  judged_repeated h = record { gives = rw (clear_refuses b 21 once_test h) }

-- a refusal says nothing of the buffers
pub judged_none : {rows : List (List ℕ)} {mates : List ℕ} {reason : Reason} → Judged rows (Err reason) → JudgedHeld rows mates (Err reason)
judged_none J = record { judged = J; mated = λ e. absurd (cc) }

-- no reason has the number 0: two ways in which a call may end are told apart by it
number_some : (reason : Reason) → number_of reason ≢ 0
number_some reason e =
    let same = determined {t = []} {m = []} {j = []} {t' = []} {m' = []} {j' = []} (refusal reason 0 0) (accepted 0 0) (rw e) refl in
    absurd (let a = same.answer in cc)

-- 22 and 23, where 21 passes
pub judged_verdict : (rows : List (List ℕ)) → vertices_ok rows ≡ pass → (found : Result (Unit {0}) Reason) → Verdict rows (number_told found)
    → Judged rows found
unfolding cell_checks in_order and_then
judged_verdict rows once (Ok passed) V = record { gives = let (three, other) = V.passes refl in rw (once, three, other) }
judged_verdict rows once (Err reason) V = record {
  gives = ⊎_elim (λ q. absurd (number_some reason q)) (⊎_elim
      (λ q. rw (once, V.three q, q))
      (λ q. let (three, other) = V.other q in rw (once, three, other, q)))
      V.is;
}

-- those of a buffer, where 21 passes
module _ {buffer : List ℕ} {cells : ℕ} {rows : List (List ℕ)} (C : CellsHeld buffer cells rows) (once : vertices_ok rows ≡ pass) where
  pub cells_in : CellsIn buffer cells rows
  cells_in = record { held = C.held; number = C.number; hexahedra = vertices_once rows C.eight once }

  pub judged_held : {mates : List ℕ} (found : Result (Unit {0}) Reason) → JudgedCells rows mates (number_told found) → JudgedHeld rows mates found
  judged_held found J = record { judged = judged_verdict rows once found J.verdict; mated = λ e. J.mated (ap number_told e) }

-- those of a text, where 21 passes
pub judgeable : {text : List ℕ} {at cells : ℕ} {rows : List (List ℕ)} → CellsAt text at cells rows → vertices_ok rows ≡ pass
    → Judgeable text at cells rows
judgeable {rows} C once = record { stand = C.stand; hexahedra = vertices_once rows C.eight once; number = C.number }
