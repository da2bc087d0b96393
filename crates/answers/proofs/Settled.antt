-- Results that settle checks: `settles_refusal`, `settles_front`, `settles_behind` and `settles_last` for a function that
-- makes them, `opened` and `handed_on` for a call that begins with such a function.
use Prim.Native.Nat.{ℕ, suc}
use mathlib.Core.Path.{◌≡◌, sym, ap, ◌∙◌, subst}
use mathlib.Core.List.{List, ◌++◌}
use lib.ListN.{get_or, take}
use Rattle.std.specs.Prelude.{Result, Ok, Err, IsErrAnd}
use Rattle.std.proofs.lemmas.Result.{err_from_is_err_and}
use Rattle.model.specs.Checks.{Check, pass, refuse, in_order}
use Rattle.model.specs.Calls.{Outcome}
use Rattle.theorems.proofs.Calls.Checks.{append_passed}
use Rattle.refusals.specs.declared.Reason.{Reason}
use Rattle.refusals.specs.declared.Refused.{Refused}
use Rattle.refusals.specs.Numbers.{number_of, alone}
use Rattle.answers.specs.Answers.{Answer, outcome}
use Rattle.answers.specs.Openings.{Settles, refusing, verdict}
use Rattle.answers.proofs.Ladder.{Rung, rise, out, one_more, all_passed, front_refusal}

-- a reason alone, as `Err(why.into())` gives it
pub by_reason : {c : Check} {why : Reason} {e : Refused} → e ≡ alone why → c ≡ refuse (number_of why) 0 0 → c ≡ refusing e
by_reason is h = h ∙ ap refusing (sym is)

pub settles_refusal : {c : Check} {why : Reason} {e : Refused} → e ≡ alone why → c ≡ refuse (number_of why) 0 0 → Settles (Err e) c
settles_refusal is h = record { gives = by_reason is h }

-- what refuses the first k checks refuses them all
pub settles_front : {e : Refused} (cs : List Check) (k : ℕ) → Settles (Err e) (in_order (take k cs)) → Settles (Err e) (in_order cs)
settles_front cs k s = record { gives = front_refusal cs k s.gives }

-- behind checks that pass, what settles the others
pub settles_behind : {r : Result (Unit {0}) Refused} (cs ds : List Check) → in_order cs ≡ pass → Settles r (in_order ds)
    → Settles r (in_order (cs ++ ds))
settles_behind {r} cs ds h s = subst (Settles r) (sym (append_passed cs ds h)) s

-- where all checks but the last have passed, what settles the last
pub settles_last : {S : Type 0} {checks : S → List Check} {k : ℕ} {r : Result (Unit {0}) Refused} (g : Rung checks k)
    → take (suc k) (checks g.entry) ≡ checks g.entry → Settles r (get_or (checks g.entry) k pass)
    → Settles r (in_order (checks g.entry))
settles_last {checks = checks} {k} {r = Ok passed} g whole s =
    record { gives = ap in_order (sym whole) ∙ all_passed _ (one_more (checks g.entry) k g.passed s.gives) }
settles_last {r = Err e} g whole s = record { gives = out g s.gives }

-- ---- a call's opening; S is the record of the call's entry

-- its result settles the first k checks
pub record Opening {S : Type 0} (checks : S → List Check) (k : ℕ) : Type 0 where
  pub entry : S
  pub result : Result (Unit {0}) Refused
  pub settles : Settles result (in_order (take k (checks entry)))

-- what `?` gives, where it met e
pub handed : {A : Type 0} {r : Result A Refused} {e : Refused} → IsErrAnd r (λ x. x ≡ e) → r ≡ Err e
handed {r = r} h = let p = err_from_is_err_and r h in p.1 ∙ ap Err p.2

module _ {S : Type 0} {checks : S → List Check} {k : ℕ} (o : Opening checks k) where
  -- it passes: the call goes on
  abbrev pub opened : o.result ≡ Ok tt → Rung checks k
  opened h = rise k o.entry (o.settles.gives ∙ ap verdict h)

  -- it refuses by e, and the call hands it on as r
  pub handed_on : {t m j : List ℕ} {x : Outcome} {e : Refused} {r : Answer} → o.result ≡ Err e → r ≡ Err e
      → (in_order (checks o.entry) ≡ refusing e → outcome (Err e) t m j ≡ x) → outcome r t m j ≡ x
  handed_on h is ends = rw is (ends (front_refusal (checks o.entry) k (o.settles.gives ∙ ap verdict h)))
