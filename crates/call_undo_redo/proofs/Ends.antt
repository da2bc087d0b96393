-- How undo and redo end, from their checks: `undo_refused`, `undo_accepted` and the like; `step_refused` for `step`.
use Prim.Native.Nat.{ℕ, ◌+◌, ◌-◌}
use mathlib.Core.Path.{◌≡◌, sym, ◌∙◌}
use mathlib.Core.Bool.{Bool, true, false}
use mathlib.Core.List.{List, []}
use lib.ListN.{get_or}
use Rattle.model.specs.Journal.{cursor, record_length}
use Rattle.model.specs.Checks.{pass, in_order, step_checks, undo_ok, redo_ok}
use Rattle.model.specs.Calls.{Outcome, refused, step_outcome, undo_call, redo_call}
use Rattle.std.specs.Prelude.{Err}
use Rattle.answers.specs.Answers.{Refused, BrokenRecord, alone, outcome}
use Rattle.answers.specs.Openings.{refusing}

module _ (n : ℕ) (t j : List ℕ) where
  -- the table was taken back, or never changed
  pub step_refused : (redo : Bool) (a k to : ℕ) {t' : List ℕ} {e : Refused} → e ≡ alone BrokenRecord → t' ≡ t
      → step_outcome redo n t j a k to ≡ refused 17 0 0 t [] j → outcome (Err e) t' [] j ≡ step_outcome redo n t j a k to
  unfolding refused
  step_refused redo a k to is same h = rw (is, same) (sym h)

  pub undo_refused : (e : Refused) → in_order (step_checks n t j (undo_ok j)) ≡ refusing e
      → outcome (Err e) t [] j ≡ undo_call n t j
  unfolding undo_call refused
  undo_refused e h = rw (h, undo_call)

  pub undo_accepted : {r : Outcome} (a k : ℕ) → in_order (step_checks n t j (undo_ok j)) ≡ pass → k ≡ get_or j (cursor j - 1) 0
      → a ≡ cursor j - record_length k → r ≡ step_outcome false n t j a k a → r ≡ undo_call n t j
  unfolding undo_call
  undo_accepted a k e count start step = step ∙ rw (e, undo_call, start, count)

  pub redo_refused : (e : Refused) → in_order (step_checks n t j (redo_ok j)) ≡ refusing e
      → outcome (Err e) t [] j ≡ redo_call n t j
  unfolding redo_call refused
  redo_refused e h = rw (h, redo_call)

  pub redo_accepted : {r : Outcome} (to : ℕ) → in_order (step_checks n t j (redo_ok j)) ≡ pass
      → to ≡ cursor j + record_length (get_or j (cursor j) 0)
      → r ≡ step_outcome true n t j (cursor j) (get_or j (cursor j) 0) to → r ≡ redo_call n t j
  unfolding redo_call
  redo_accepted to e behind step = step ∙ rw (e, redo_call, behind)
