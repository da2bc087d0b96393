-- How check ends, from its checks: `check_refused`, `check_accepted`.
use Prim.Native.Nat.{ℕ}
use mathlib.Core.Path.{◌≡◌}
use mathlib.Core.Bool.{Bool, true, false}
use mathlib.Core.List.{List, []}
use Rattle.model.specs.Cell.{is_block}
use Rattle.model.specs.Checks.{pass, in_order, check_checks}
use Rattle.model.specs.Calls.{refused, check_call}
use Rattle.std.specs.Prelude.{Err}
use Rattle.answers.specs.Answers.{Refused, outcome, accepted}
use Rattle.answers.specs.Openings.{refusing}

module _ (n : ℕ) (t : List ℕ) where
  pub check_refused : (e : Refused) → in_order (check_checks n t) ≡ refusing e → outcome (Err e) t [] [] ≡ check_call n t
  unfolding check_call refused
  check_refused e h = rw (h, check_call)

  pub check_accepted : {b : Bool} → in_order (check_checks n t) ≡ pass → b ≡ is_block n t
      → outcome (accepted 0 (elim b as (λ _. ℕ) [ true ↦ 2 | false ↦ 1 ])) t [] [] ≡ check_call n t
  unfolding check_call
  check_accepted e block = rw (e, check_call, block)
