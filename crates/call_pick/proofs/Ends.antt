-- How pick ends, from its checks: `pick_refused`, `pick_accepted`; and where its queue's length is wrong: `queue_wrong`.
use Prim.Native.Nat.{ℕ}
use mathlib.Core.Path.{◌≡◌}
use mathlib.Core.Logic.{◌≢◌}
use mathlib.Core.Bool.{false}
use mathlib.Core.List.{List, [], ◌∷◌}
use lib.ListN.{length}
use borrow.Author.Tests.{ne_eqb}
use Rattle.model.specs.Lists.{count}
use Rattle.model.specs.Table.{slots}
use Rattle.model.specs.Sheet.{sheet, sheet_marks}
use Rattle.model.specs.Checks.{pass, refuse, must, and_then, in_order, dim_ok, table_ok, marks_ok, queue_ok, pick_checks}
use Rattle.model.specs.Calls.{refused, pick_call, pick_taken}
use Rattle.std.specs.Prelude.{Err}
use Rattle.answers.specs.Answers.{Refused, outcome, accepted}
use Rattle.answers.specs.Openings.{refusing}

module _ (n : ℕ) (t m w : List ℕ) (d : ℕ) where
  pub pick_refused : (e : Refused) → in_order (pick_checks n t m w d) ≡ refusing e
      → (outcome (Err e) t m [] ≡ pick_call n t m w d) × (0 ≡ pick_taken n t m w d)
  unfolding pick_call pick_taken refused
  pick_refused e h = (rw (h, pick_call), rw (h, pick_taken))

  pub pick_accepted : {k taken : ℕ} {s : List ℕ} → in_order (pick_checks n t m w d) ≡ pass → s ≡ sheet_marks n t (sheet n t d)
      → k ≡ count 1 (sheet n t d) → taken ≡ count 1 (sheet n t d)
      → (outcome (accepted 0 k) t s [] ≡ pick_call n t m w d) × (taken ≡ pick_taken n t m w d)
  unfolding pick_call pick_taken
  pick_accepted e marked size taken = (rw (e, pick_call, marked, size), rw (e, pick_taken, taken))

  -- a queue whose length is wrong: a refusal of the checks up to 37
  pub queue_wrong : {z : ℕ} → length w ≢ slots t → in_order (dim_ok n ∷ table_ok t ∷ marks_ok t m ∷ must false 37 ∷ []) ≡ refuse z 0 0
      → in_order (pick_checks n t m w d) ≡ refuse z 0 0
  unfolding pick_checks in_order and_then queue_ok must
  queue_wrong other h = rw (ne_eqb _ _ other) h
