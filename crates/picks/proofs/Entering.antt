-- Darts that enter the queue: none (`entered_none`), one (`entered_one`), some behind others (`entered_more`, `entered_next`), the same by
-- another list (`entered_as`).
use Prim.Native.Nat.{ℕ, ◌+◌, ◌-◌, ◌≤◌, ◌<◌}
use mathlib.Core.Path.{◌≡◌, refl, sym, ap, ◌∙◌}
use mathlib.Core.Logic.{inl, inr, ⊎_elim}
use mathlib.Core.List.{List}
use native.Mathlib.Omega.{arith}
use lib.ListN.{length, get_or, set, length-set}
use lib.Seq.{get_or-set_same, get_or-set_other}
use Rattle.theorems.proofs.Lists.Scan.{if_eq, if_lt}
use Rattle.picks.specs.Enter.{Entered}

pub entered_none : (m w : List ℕ) (a : ℕ) (f : ℕ → ℕ) → Entered m w a 0 f m w
entered_none m w a f = record {
  long = refl;
  words = refl;
  kept = λ i h. refl;
  listed = λ j h. absurd (omega arith);
  done = λ j h. absurd (omega arith);
  only = λ x. inl refl;
}

pub entered_one : (m w : List ℕ) (a x : ℕ) → x < length m → a < length w → Entered m w a 1 (λ _. x) (set m x 1) (set w a x)
entered_one m w a x inside room = record {
  long = length-set m x 1;
  words = length-set w a x;
  kept = λ i h. get_or-set_other w a i x 0 (λ e. absurd (omega arith));
  listed = λ j h. let at : a + j ≡ a = omega arith in rw at (get_or-set_same w a x 0 room);
  done = λ j h. get_or-set_same m x 1 0 inside;
  only = λ y. if_eq y x (λ e. inr (rw e (get_or-set_same m x 1 0 inside), (0, omega arith, e))) (λ e. inl (get_or-set_other m x y 1 0 e));
}

-- by another list of the same darts
pub entered_as : {m w : List ℕ} {a k : ℕ} {f g : ℕ → ℕ} {m' v : List ℕ} → Entered m w a k f m' v → ((j : ℕ) → j < k → g j ≡ f j)
    → Entered m w a k g m' v
entered_as P same = record {
  long = P.long;
  words = P.words;
  kept = P.kept;
  listed = λ j h. P.listed j h ∙ sym (same j h);
  done = λ j h. rw (same j h) (P.done j h);
  only = λ x. ⊎_elim inl (λ (one, (j, h, at)). inr (one, (j, h, at ∙ sym (same j h)))) (P.only x);
}

-- g 0, .. are f k, ..
pub entered_more : {m w : List ℕ} {a k l : ℕ} {f g : ℕ → ℕ} {m₁ v₁ m₂ v₂ : List ℕ} → Entered m w a k f m₁ v₁
    → Entered m₁ v₁ (a + k) l g m₂ v₂ → ((j : ℕ) → j < l → f (k + j) ≡ g j) → Entered m w a (k + l) f m₂ v₂
entered_more {m} {w} {a} {k} {l} {f} {g} {m₁} {v₁} {m₂} {v₂} P Q same = record {
  long = Q.long ∙ P.long;
  words = Q.words ∙ P.words;
  kept = λ i h. Q.kept i (omega arith) ∙ P.kept i h;
  listed = λ j h. if_lt j k (λ b. Q.kept (a + j) (omega arith) ∙ P.listed j b) (λ b.
      let low : j - k < l = omega arith in
      let at : a + j ≡ a + k + (j - k) = omega arith in
      rw at (Q.listed (j - k) low ∙ sym (same (j - k) low) ∙ ap f (back j b)));
  done = λ j h. if_lt j k (λ b. stays (f j) (P.done j b)) (λ b.
      let low : j - k < l = omega arith in
      rw (← back j b, same (j - k) low) (Q.done (j - k) low));
  only = λ x. ⊎_elim
      (λ e. ⊎_elim (λ q. inl (e ∙ q)) (λ (one, (j, h, at)). inr (e ∙ one, (j, omega arith, at))) (P.only x))
      (λ (one, (j, h, at)). inr (one, (k + j, omega arith, at ∙ sym (same j h)))) (Q.only x);
}
  where
    back : (j : ℕ) → k ≤ j → k + (j - k) ≡ j
    back j b = omega arith

    stays : (x : ℕ) → get_or m₁ x 0 ≡ 1 → get_or m₂ x 0 ≡ 1
    stays x one = ⊎_elim (λ e. e ∙ one) (λ (e, _). e) (Q.only x)

-- x is f k
pub entered_next : {m w : List ℕ} {a k x : ℕ} {f : ℕ → ℕ} {m₁ v₁ m₂ v₂ : List ℕ} → Entered m w a k f m₁ v₁
    → Entered m₁ v₁ (a + k) 1 (λ _. x) m₂ v₂ → f k ≡ x → Entered m w a (k + 1) f m₂ v₂
entered_next {k = k} {f = f} P Q is = entered_more P Q (λ j h. let at : k + j ≡ k = omega arith in ap f at ∙ is)
