-- The links of a side (`links_zero`, `links_one`, `links_more`), and the tests of a turn.
use Prim.Native.Nat.{ℕ, ◌-◌, ◌≤◌}
use mathlib.Core.Path.{◌≡◌, refl}
use mathlib.Core.Logic.{◌⊎◌, inl, inr, ◌≢◌, ⊎_elim}
use mathlib.Core.Bool.{Bool, true, false, not, ◌&&◌, ◌||◌, beq}
use native.Mathlib.Omega.{arith}
use lib.Dec.{eqb}
use borrow.Author.Tests.{eqb-true, eqb-false, eq-eqb, ne_eqb, not-true, not-false}
use Rattle.model.specs.Meaning.Maps.{Dim}
use Rattle.model.specs.Meaning.Pairings.{Far}
use Rattle.theorems.proofs.Lists.Scan.{if_eq, or_cases, or_false, clash}
use Rattle.sides.specs.Turns.{SideLink, SideLinks, Same, Alike, Tests, EndTest}

-- ---- the links of a side

module _ (n i : ℕ) (dim : Dim n) where
  pub links_zero : i ≡ 0 → SideLinks n i 2 n
  links_zero e = record { first = inl (inl (omega arith), omega arith); second = inl (inl (omega arith), omega arith); far = far }
    where
      far : (j : ℕ) → Far i j → j ≤ n → (j ≡ 2) ⊎ (j ≡ n)
      far j (inl h) l = if_eq j 2 inl (λ o. inr (omega arith))
      far j (inr h) l = absurd (omega arith)

  pub links_one : i ≡ 1 → SideLinks n i 3 3
  links_one e = record { first = three; second = three; far = far }
    where
      three : SideLink n i 3
      three = if_eq n 2 (λ q. inr (q, refl)) (λ q. inl (inl (omega arith), omega arith))

      far : (j : ℕ) → Far i j → j ≤ n → (j ≡ 3) ⊎ (j ≡ 3)
      far j (inl h) l = inl (omega arith)
      far j (inr h) l = absurd (omega arith)

  pub links_more : 2 ≤ i → i ≤ n → SideLinks n i 0 (i - 2)
  links_more two low = record { first = inl (inr (omega arith), omega arith); second = inl (inr (omega arith), omega arith); far = far }
    where
      far : (j : ℕ) → Far i j → j ≤ n → (j ≡ 0) ⊎ (j ≡ i - 2)
      far j (inl h) l = absurd (omega arith)
      far j (inr h) l = if_eq j 0 inl (λ o. inr (omega arith))

-- ---- tests

module _ (p x q y : ℕ) where
  pub same_taken : p ≡ x → Tests (Same p x q y) (eqb q y)
  same_taken e = record {
    holds = λ r. (λ _. eqb-true q y r, λ _. e);
    fails = λ r s. eqb-false q y r (s.0 e);
  }

  pub same_left : p ≢ x → Tests (Same p x q y) (not (eqb q y))
  same_left e = record {
    holds = λ r. (λ h. absurd (e h), λ h. absurd (eqb-false q y (not-true (eqb q y) r) h));
    fails = λ r s. e (s.1 (eqb-true q y (not-false (eqb q y) r)));
  }

  pub same_test : Tests (Same p x q y) (beq (eqb p x) (eqb q y))
  same_test = if_eq p x (λ e. rw (eq-eqb p x e, beq_taken (eqb q y)) (same_taken e))
      (λ e. rw (ne_eqb p x e, beq_left (eqb q y)) (same_left e))
    where
      beq_taken : (r : Bool) → beq true r ≡ r
      beq_taken true = refl
      beq_taken false = refl

      beq_left : (r : Bool) → beq false r ≡ not r
      beq_left true = refl
      beq_left false = refl

pub end_test : (x p u : ℕ) → EndTest x p u (eqb p x || eqb u p)
end_test x p u = record {
  ends = λ r. ⊎_elim (λ h. inl (eqb-true p x h)) (λ h. inr (eqb-true u p h)) (or_cases (eqb p x) (eqb u p) r);
  passes = λ r. let h = or_false (eqb p x) (eqb u p) r in (eqb-false p x h.0, eqb-false u p h.1);
}

pub alike_test : {d e x p u y q v : ℕ} (r₁ r₂ r₃ : Bool) → Tests (Same p x q y) r₁ → Tests (Same u p v q) r₂ → Tests (Same u d v e) r₃
    → Tests (Alike d e x p u y q v) ((r₁ && r₂) && r₃)
alike_test false r₂ r₃ t₁ t₂ t₃ = record { holds = λ z. absurd (clash z refl); fails = λ _ s. t₁.fails refl s.first }
alike_test true false r₃ t₁ t₂ t₃ = record { holds = λ z. absurd (clash z refl); fails = λ _ s. t₂.fails refl s.second }
alike_test true true r₃ t₁ t₂ t₃ = record {
  holds = λ z. record { first = t₁.holds refl; second = t₂.holds refl; round = t₃.holds z };
  fails = λ z s. t₃.fails z s.round;
}
