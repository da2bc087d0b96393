-- A test of each number from a to before an end, as `all` gives it over a range.
-- Main theorems: `ranged`, `ranged_from`.
use Prim.Native.Nat.{ℕ, zero, suc, ◌+◌, ◌-◌, ◌≤◌, ◌<◌}
use mathlib.Core.Path.{◌≡◌, refl, sym, ap, ◌∙◌}
use mathlib.Core.Logic.{inl, inr}
use mathlib.Core.Bool.{Bool, true, ◌||◌}
use native.Mathlib.Omega.{arith}
use lib.Dec.{ltb}
use borrow.Author.Tests.{le-ltb, ltb-false}
use Rattle.std.specs.List.{list_all, range_with_len}
use Rattle.model.specs.Lists.{all_below}
use Rattle.theorems.proofs.Lists.Scan.{test, if_eq, clash, and_l, and_r, and_i, or_i, below_at, below_of}

module _ (p : ℕ → Bool) where
  list_at : (n a : ℕ) → list_all p (range_with_len a n) ≡ true → (i : ℕ) → a ≤ i → i < a + n → p i ≡ true
  list_at zero a h i l u = absurd (omega arith)
  list_at (suc n) a h i l u =
      if_eq i a (λ e. ap p e ∙ and_l (p a) _ h) (λ e. list_at n (a + 1) (and_r (p a) _ h) i (omega arith) (omega arith))

  list_of : (n a : ℕ) → ((i : ℕ) → a ≤ i → i < a + n → p i ≡ true) → list_all p (range_with_len a n) ≡ true
  list_of zero a h = refl
  list_of (suc n) a h = and_i (h a (omega arith) (omega arith)) (list_of n (a + 1) (λ i l u. h i (omega arith) (omega arith)))

  pub ranged : (end : ℕ) → list_all p (range_with_len 0 end) ≡ all_below end p
  ranged end = test (all_below end p) (λ e. list_of end 0 (λ i l u. below_at p end e i (omega arith)) ∙ sym e)
      (λ e. test (list_all p (range_with_len 0 end)) (λ t. absurd (clash (below_of p end (λ i u. list_at end 0 t i (omega arith) (omega arith))) e)) (λ f. f ∙ sym e))

  pub ranged_from : (a end : ℕ) → list_all p (range_with_len a (end - a)) ≡ all_below end (λ i. ltb i a || p i)
  ranged_from a end =
      let q : ℕ → Bool = λ i. ltb i a || p i in
      test (all_below end q)
      (λ e. list_of (end - a) a (λ i l u. rw (le-ltb i a l) at (below_at q end e i (omega arith))) ∙ sym e)
      (λ e. test (list_all p (range_with_len a (end - a)))
      (λ t. absurd (clash (below_of q end (λ i u. test (ltb i a) (λ b. or_i (ltb i a) _ (inl b))
      (λ b. let high = ltb-false i a b in or_i (ltb i a) _ (inr (list_at (end - a) a t i high (omega arith)))))) e)) (λ f. f ∙ sym e))
