-- Words and the steps by them, and the words of one link that `links` gives.
-- `word_in`, `word_of`: those words are the links of the range that pass; `step_in`, `step_of` say it of steps.
use Prim.Native.Nat.{ℕ, zero, suc, ◌+◌, ◌≤◌, ◌<◌}
use mathlib.Core.Path.{◌≡◌, refl, sym, ap, ap₂, ◌∙◌, subst}
use mathlib.Core.Logic.{⊎_elim}
use mathlib.Core.Bool.{Bool, true, false}
use mathlib.Core.List.Memᴰ.{cases_cons as in-cons}
use mathlib.Core.List.Memᴰ.{not-nil}
use mathlib.Core.List.{List, [], ◌∷◌, Memᴰ as In}
use mathlib.Core.List.Memᴰ.{head as here}
use mathlib.Core.List.Memᴰ.{tail as there}
use native.Mathlib.Omega.{arith}
use Rattle.model.specs.Table.{link, walk}
use Rattle.model.specs.Reach.{steps, links_from}
use Rattle.theorems.proofs.Lists.Scan.{test, if_eq}

-- ---- steps by words

module _ (t : List ℕ) (x : ℕ) where
  pub walk_in : (ws : List (List ℕ)) (w : List ℕ) → In w ws → In (walk t w x) (steps t ws x)
  unfolding steps
  walk_in [] w i = absurd (not-nil i)
  walk_in (v ∷ ws) w i =
      let rec = walk_in ws w in
      ⊎_elim (λ e. here (ap (λ (u : List ℕ). walk t u x) e)) (λ j. there (rec j)) (in-cons i)

  pub walk_of : (ws : List (List ℕ)) (y : ℕ) → In y (steps t ws x) → (w : List ℕ) × In w ws × (y ≡ walk t w x)
  unfolding steps
  walk_of [] y i = absurd (not-nil i)
  walk_of (v ∷ ws) y i =
      let rec = walk_of ws y in
      ⊎_elim (λ e. (v, here refl, e)) (λ j. let r = rec j in (r.0, there r.1, r.2)) (in-cons i)

-- tables in which the words lead to the same darts have the same steps
pub steps_same : (t u : List ℕ) (x : ℕ) (ws : List (List ℕ)) → ((w : List ℕ) → In w ws → walk t w x ≡ walk u w x)
    → steps t ws x ≡ steps u ws x
unfolding steps
steps_same t u x [] h = refl
steps_same t u x (w ∷ ws) h = ap₂ (λ (y : ℕ) (ys : List ℕ). y ∷ ys) (h w (here refl)) (steps_same t u x ws (λ v i. h v (there i)))

-- ---- words of one link

module _ (p : ℕ → Bool) where
  pub take_word : (k a : ℕ) → p a ≡ true → links_from (suc k) a p ≡ (a ∷ []) ∷ links_from k (suc a) p
  unfolding links_from
  take_word k a h = rw (h, links_from)

  pub skip_word : (k a : ℕ) → p a ≡ false → links_from (suc k) a p ≡ links_from k (suc a) p
  unfolding links_from
  skip_word k a h = rw (h, links_from)

  pub word_in : (k a j : ℕ) → a ≤ j → j < a + k → p j ≡ true → In (j ∷ []) (links_from k a p)
  word_in zero a j l u h = absurd (omega arith)
  word_in (suc k) a j l u h =
      let rec : suc a ≤ j → In (j ∷ []) (links_from k (suc a) p) = λ l'. word_in k (suc a) j l' (omega arith) h in
      if_eq j a
      (λ q. rw (take_word k a (ap p (sym q) ∙ h)) (here (ap (λ (i : ℕ). i ∷ []) q)))
      (λ q. test (p a) (λ e. rw (take_word k a e) (there (rec (omega arith)))) (λ e. rw (skip_word k a e) (rec (omega arith))))

  -- what holds of each link that passes holds of each word
  pub word_of : (P : List ℕ → Type 0) (k a : ℕ) → ((j : ℕ) → j < a + k → p j ≡ true → P (j ∷ []))
      → (w : List ℕ) → In w (links_from k a p) → P w
  unfolding links_from
  word_of P zero a h w i = absurd (not-nil i)
  word_of P (suc k) a h w i =
      let rec = word_of P k (suc a) (λ j l. h j (omega arith)) w in
      test (p a)
      (λ e. ⊎_elim (λ q. subst P (sym q) (h a (omega arith) e)) rec (in-cons (rw (take_word k a e) at i)))
      (λ e. rec (rw (skip_word k a e) at i))

-- ---- steps by one link

module _ (t : List ℕ) (x : ℕ) (p : ℕ → Bool) (k a : ℕ) where
  pub step_in : (j : ℕ) → a ≤ j → j < a + k → p j ≡ true → In (link t j x) (steps t (links_from k a p) x)
  unfolding walk
  step_in j l u h = walk_in t x (links_from k a p) (j ∷ []) (word_in p k a j l u h)

  pub step_of : (y : ℕ) → In y (steps t (links_from k a p) x) → (j : ℕ) × (j < a + k) × (p j ≡ true) × (y ≡ link t j x)
  unfolding walk
  step_of y i =
      let r = walk_of t x (links_from k a p) y i in
      word_of p (λ w. y ≡ walk t w x → (j : ℕ) × (j < a + k) × (p j ≡ true) × (y ≡ link t j x)) k a
      (λ j l h e. (j, l, h, e)) r.0 r.1 r.2
