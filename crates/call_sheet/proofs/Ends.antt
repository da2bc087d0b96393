-- How sheet ends, from its checks: `sheet_refused`, `sheet_accepted`; and that 2 passes with them: `sheet_table`.
use Prim.Native.Nat.{ℕ}
use mathlib.Core.Path.{◌≡◌}
use mathlib.Core.List.{List, []}
use Rattle.model.specs.Lists.{count}
use Rattle.model.specs.Sheet.{sheet, sheet_marks}
use Rattle.model.specs.Checks.{pass, in_order, table_ok, sheet_checks}
use Rattle.model.specs.Calls.{refused, sheet_call}
use Rattle.theorems.proofs.Calls.Checks.{passed_at}
use Rattle.answers.specs.Answers.{Refused, outcome, accepted}
use Rattle.std.specs.Prelude.{Err}
use Rattle.answers.specs.Openings.{refusing}

module _ (n : ℕ) (t m : List ℕ) (d : ℕ) where
  pub sheet_refused : (r : Refused) → in_order (sheet_checks n t m d) ≡ refusing r
      → outcome (Err r) t m [] ≡ sheet_call n t m d
  unfolding sheet_call refused
  sheet_refused r h = rw (h, sheet_call)

  pub sheet_accepted : {k : ℕ} {s : List ℕ} → in_order (sheet_checks n t m d) ≡ pass
      → (s ≡ sheet_marks n t (sheet n t d)) × (k ≡ count 1 (sheet n t d)) → outcome (accepted 0 k) t s [] ≡ sheet_call n t m d
  unfolding sheet_call
  sheet_accepted e marked = rw (e, sheet_call, marked.0, marked.1)

  pub sheet_table : in_order (sheet_checks n t m d) ≡ pass → table_ok t ≡ pass
  unfolding sheet_checks
  sheet_table h = passed_at (sheet_checks n t m d) h 1
