-- Pigeonholes over lists of marks: a list that has every marked slot is at least as long as they are many, and one of distinct
-- marked slots at most. Main theorems: `cover`, `distinct_le`; `count_by` and `apart_by` (the marked slots are f 0, f 1, ..);
-- `distinct_below`.
use Prim.Native.Nat.{ℕ, zero, suc, ◌+◌, ◌-◌, ◌≤◌, ◌<◌}
use mathlib.Core.Path.{◌≡◌, refl, sym, ap, ◌∙◌}
use mathlib.Core.Logic.{◌≢◌, ⊎_elim}
use mathlib.Core.List.Memᴰ.{cases_cons as in-cons}
use mathlib.Core.List.Memᴰ.{not-nil}
use mathlib.Core.List.{List, [], ◌∷◌, ◌++◌, Memᴰ as In}
use mathlib.Core.List.Memᴰ.{cast as in-cast}
use mathlib.Core.List.Memᴰ.{head as here}
use mathlib.Core.List.Memᴰ.{tail as there}
use mathlib.Core.List.Memᴰ.{append_cases as in-append}
use mathlib.Core.List.Memᴰ.{append_left as in_left}
use mathlib.Core.List.Memᴰ.{append_right as in_right}
use native.Mathlib.Omega.{arith}
use lib.ListN.{length, get_or, set, length-set, length-append}
use lib.Seq.{get_or-set_same, get_or-set_other, set-get_or, set-set}
use borrow.Author.Tests.{eq-eqb, ne_eqb}
use Rattle.model.specs.Lists.{count, tabulate_from, tabulate}
use Rattle.model.specs.Meaning.Lists.{Distinct, none, more}
use Rattle.model.specs.Meaning.Sets.{Marked}
use Rattle.theorems.proofs.Lists.Scan.{if_eq, if_lt, count_change, count_le, length_tab_from, length_tab, get_or_tab, tab_in, in_tab}
use Rattle.theorems.proofs.Sets.Closure.{marked_in}

pub count_none : (m : List ℕ) → ((x : ℕ) → Marked m x → ⊥) → count 1 m ≡ 0
unfolding count
count_none [] h = refl
count_none (y ∷ ys) h = rw (ne_eqb y 1 (h 0), count) (count_none ys (λ x. h (suc x)))

pub count_most : (m : List ℕ) → count 1 m ≤ length m
unfolding count
count_most [] = omega arith
count_most (y ∷ m) =
    let rec = count_most m in
    if_eq y 1 (λ e. rw (eq-eqb y 1 e, count) (omega arith)) (λ e. rw (ne_eqb y 1 e, count) (omega arith))

-- ---- one mark more

pub count_one : (m : List ℕ) (x : ℕ) → x < length m → get_or m x 0 ≢ 1 → count 1 (set m x 1) ≡ suc (count 1 m)
count_one m x low e = count_change 1 (get_or m x 0) (set m x 1) x 0 (rw length-set low) (get_or-set_same m x 1 0 low) e
    ∙ ap (λ (r : List ℕ). suc (count 1 r)) (set-set m x 1 (get_or m x 0) ∙ set-get_or m x 0)

-- ---- one mark taken away

module _ (m : List ℕ) (y : ℕ) where
  pub count_drop : Marked m y → count 1 m ≡ suc (count 1 (set m y 0))
  count_drop h = count_change 1 0 m y 0 (marked_in m y h) h (λ (e : ◌≡◌ {A = ℕ} 0 1). omega arith)

  drop_gone : Marked (set m y 0) y → ⊥
  drop_gone h =
      let l : y < length m = rw length-set at (marked_in (set m y 0) y h) in
      let z = get_or-set_same m y 0 0 l in
      omega arith

  drop_other : (x : ℕ) → Marked (set m y 0) x → (x ≢ y) × Marked m x
  drop_other x h = if_eq x y (λ e. absurd (drop_gone (rw e at h))) (λ e. (e, sym (get_or-set_other m y x 0 0 e) ∙ h))

  drop_keeps : (x : ℕ) → x ≢ y → Marked m x → Marked (set m y 0) x
  drop_keeps x e h = get_or-set_other m y x 0 0 e ∙ h

-- ---- the two pigeonholes

-- every marked slot is in the list: it is as long as they are many
pub cover : (l m : List ℕ) → ((x : ℕ) → Marked m x → In x l) → count 1 m ≤ length l
cover [] m h = let e = count_none m (λ x p. not-nil (h x p)) in omega arith
cover (y ∷ l) m h =
    let r = cover l (set m y 0) rest in
    let c = count_le 1 0 m y in
    omega arith
  where
    rest : (x : ℕ) → Marked (set m y 0) x → In x l
    rest x p =
        let (other, q) = drop_other m y x p in
        ⊎_elim (λ (e : x ≡ y). absurd (other e)) (λ i. i) (in-cons (h x q))

-- a list of distinct marked slots is at most as long as they are many
pub distinct_le : (l m : List ℕ) → Distinct l → ((x : ℕ) → In x l → Marked m x) → length l ≤ count 1 m
distinct_le [] m d h = omega arith
distinct_le (y ∷ l) m (more once d) h =
    let r = distinct_le l (set m y 0) d (λ x i. drop_keeps m y x (λ e. once (in-cast (sym e) i)) (h x (there i))) in
    let c = count_drop m y (h y (here refl)) in
    omega arith

-- ---- the marked slots by a rule: f 0, f 1, .., k of them

pub distinct_tab : (f : ℕ → ℕ) (n a : ℕ) → ((k l : ℕ) → k < l → l < a + n → f k ≡ f l → ⊥) → Distinct (tabulate_from n a f)
unfolding tabulate_from
distinct_tab f zero a h = none
distinct_tab f (suc n) a h =
    more once (distinct_tab f n (suc a) (λ k l kl b. h k l kl (omega arith)))
  where
    once : In (f a) (tabulate_from n (suc a) f) → ⊥
    once i =
        let (k, l, u, e) = in_tab f n (suc a) (f a) i in
        h a k (omega arith) (omega arith) e

module _ (m : List ℕ) (f : ℕ → ℕ) (k : ℕ) (all : (x : ℕ) → Marked m x → (j : ℕ) × (j < k) × (x ≡ f j)) where
  -- each of them marked, no two the same: they are k
  pub count_by : ((j : ℕ) → j < k → Marked m (f j)) → ((a b : ℕ) → a < b → b < k → f a ≡ f b → ⊥) → count 1 m ≡ k
  count_by marks apart =
      let a = cover l m listed in
      let b = distinct_le l m (distinct_tab f k 0 (λ a b ab h. apart a b ab (omega arith))) marked in
      let c = length_tab_from f k 0 in
      omega arith
    where
      l : List ℕ
      l = tabulate_from k 0 f

      listed : (x : ℕ) → Marked m x → In x l
      listed x h = let (j, b, e) = all x h in in-cast e (tab_in f k 0 j (omega arith) (omega arith))

      marked : (x : ℕ) → In x l → Marked m x
      marked x i = let (j, a, b, e) = in_tab f k 0 x i in rw e (marks j (omega arith))

  -- they are k: no two the same
  pub apart_by : count 1 m ≡ k → (a b : ℕ) → a < b → b < k → f a ≡ f b → ⊥
  apart_by size a b ab hb same =
      let r = cover (below ++ above) m (λ x h. kept x (all x h)) in
      let u = length-append below above in
      let v = length_tab_from f b 0 in
      let w = length_tab_from f (k - suc b) (suc b) in
      omega arith
    where
      below : List ℕ
      below = tabulate_from b 0 f

      above : List ℕ
      above = tabulate_from (k - suc b) (suc b) f

      low : (j : ℕ) → j < b → In (f j) (below ++ above)
      low j h = in_left above (tab_in f b 0 j (omega arith) (omega arith))

      high : (j : ℕ) → b < j → j < k → In (f j) (below ++ above)
      high j h u = in_right below (tab_in f (k - suc b) (suc b) j h (omega arith))

      kept : (x : ℕ) → (j : ℕ) × (j < k) × (x ≡ f j) → In x (below ++ above)
      kept x (j, h, e) =
          let twin : j ≡ b → In x (below ++ above) = λ q. in-cast (e ∙ ap f q ∙ sym same) (low a ab) in
          if_lt j b (λ l. in-cast e (low j l)) (λ l. if_eq j b twin (λ q. in-cast e (high j (omega arith) h)))

-- ---- distinct numbers

pub distinct_append : (k l : List ℕ) → Distinct k → Distinct l → ((x : ℕ) → In x k → In x l → ⊥) → Distinct (k ++ l)
distinct_append [] l p q apart = q
distinct_append (y ∷ k) l (more once p) q apart =
    more (λ i. ⊎_elim once (apart y (here refl)) (in-append k i)) (distinct_append k l p q (λ x i. apart x (there i)))

-- those below k are no more than k
pub distinct_below : (k : ℕ) (l : List ℕ) → Distinct l → ((x : ℕ) → In x l → x < k) → length l ≤ k
unfolding tabulate
distinct_below k l once low =
    let m = tabulate k (λ _. 1) in
    let least = distinct_le l m once (λ x i. get_or_tab (λ _. 1) k x 0 (low x i)) in
    let most = count_most m in
    let long = length_tab (λ _. 1) k in
    omega arith
