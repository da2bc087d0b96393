-- The ladder of a call: its refusals are early returns in the order of the numbers, and at each rung one check more has
-- passed. So goes the proof of a call (crates/call_orbit/proofs/orbit/Answers.antt is an example):
--   1. `checks`: the model's checks of the call, from the function's entry.
--   2. The opening (Settled.antt): its answer settles the first checks, by the law of Opened.antt for this call. A refusal is
--      `handed_on`; past it the call stands on the rung `opened`.
--   3. For each test that is left, at the record `Else..` of its branch: its rung, `Rung checks k`. That is the rung before, a
--      few steps down the chain of `.before`, and `up` with the law of Verdicts.antt for this form of test. Rungs are
--      `abbrev`, so that their entry computes to the function's entry.
--   4. For each test that is taken, at the record `Then..`: the call's `-refused` law (Ends.antt of its crate), of `out` at the
--      rung before, with the twin of that law of Verdicts.antt.
--   5. For what a callee asks: `search` finds a passed check in `passed` of the rung; Given.antt has what goes beyond that.
--   6. At the last return: the call's `-accepted` law, of `all_passed` at the last rung and of what the callees ensure.
-- A slice that is lent as `&mut` and read on the way adds needs `same_length` to the returns behind: `search needs`. Checks
-- that stand behind the first list (those of split) are a second ladder, whose entry is the record where the first one ends.
use Prim.Native.Nat.{ℕ, zero, suc}
use mathlib.Core.Path.{◌≡◌, refl, sym}
use mathlib.Core.List.{List, [], ◌∷◌}
use lib.ListN.{get_or, take}
use Rattle.model.specs.Checks.{Check, pass, refuse, and_then, in_order}
use Rattle.theorems.proofs.Calls.Checks.{not_pass}

-- ---- checks that pass

-- each of them passes
abbrev pub Passed : List Check → Type 0
Passed [] = Unit {0}
Passed (c ∷ cs) = (c ≡ pass) × Passed cs

pub all_passed : (cs : List Check) → Passed cs → in_order cs ≡ pass
unfolding in_order and_then
all_passed [] p = refl
all_passed (c ∷ cs) p = rw p.0 (all_passed cs p.1)

pub one_more : (cs : List Check) (k : ℕ) → Passed (take k cs) → get_or cs k pass ≡ pass → Passed (take (suc k) cs)
one_more [] k p e = tt
one_more (c ∷ cs) zero p e = (e, tt)
one_more (c ∷ cs) (suc k) p e = (p.0, one_more cs k p.1 e)

first_refusal : (cs : List Check) (k : ℕ) {z p q : ℕ} → Passed (take k cs) → get_or cs k pass ≡ refuse z p q
    → in_order cs ≡ refuse z p q
unfolding in_order and_then
first_refusal [] k h e = not_pass (sym e)
first_refusal (c ∷ cs) zero h e = rw e
first_refusal (c ∷ cs) (suc k) h e = rw h.0 (first_refusal cs k h.1 e)

pub passed_all : (cs : List Check) → in_order cs ≡ pass → Passed cs
unfolding in_order and_then
passed_all [] h = tt
passed_all (pass ∷ cs) h = (refl, passed_all cs h)
passed_all (refuse z p q ∷ cs) h = not_pass h

pub front_refusal : (cs : List Check) (k : ℕ) {z p q : ℕ} → in_order (take k cs) ≡ refuse z p q → in_order cs ≡ refuse z p q
unfolding in_order and_then
front_refusal [] zero h = not_pass (sym h)
front_refusal [] (suc k) h = not_pass (sym h)
front_refusal (c ∷ cs) zero h = not_pass (sym h)
front_refusal (pass ∷ cs) (suc k) h = front_refusal cs k h
front_refusal (refuse x y w ∷ cs) (suc k) h = h

-- ---- rungs; S is the record of a function's entry

-- the first k checks have passed
pub record Rung {S : Type 0} (checks : S → List Check) (k : ℕ) : Type 0 where
  pub entry : S
  pub passed : Passed (take k (checks entry))

module _ {S : Type 0} {checks : S → List Check} where
  abbrev pub ground : S → Rung checks 0
  ground s = record { entry = s; passed = tt }

  -- the next check passes
  abbrev pub up : {k : ℕ} (r : Rung checks k) → get_or (checks r.entry) k pass ≡ pass → Rung checks (suc k)
  up {k} r e = record { entry = r.entry; passed = one_more (checks r.entry) k r.passed e }

  -- the next check refuses
  pub out : {k : ℕ} (r : Rung checks k) {z p q : ℕ} → get_or (checks r.entry) k pass ≡ refuse z p q
      → in_order (checks r.entry) ≡ refuse z p q
  out {k} r e = first_refusal (checks r.entry) k r.passed e

  -- where another function has made the first k checks: they pass
  abbrev pub rise : (k : ℕ) (s : S) → in_order (take k (checks s)) ≡ pass → Rung checks k
  rise k s h = record { entry = s; passed = passed_all (take k (checks s)) h }
