-- Laws of tests and of scans: the outcomes of a test, every number below k, the least number that passes, how often a number
-- stands in a list, a list by its rule.
-- Main laws: `below_at` and `below_of`; `least_is`, `least_by` and `searched`; `count_change`; `get_or_tab`, `in_tab` and `tab_in`.
use Prim.Native.Nat.{ℕ, zero, suc, ◌+◌, ◌≤◌, ◌<◌}
use mathlib.Core.Path.{◌≡◌, refl, sym, ap, ◌∙◌, subst}
use mathlib.Core.Logic.{◌⊎◌, inl, inr, ◌≢◌, ⊎_elim}
use mathlib.Core.Bool.{Bool, true, false, ◌&&◌, ◌||◌}
use mathlib.Core.List.Memᴰ.{cases_cons as in-cons}
use mathlib.Core.List.Memᴰ.{not-nil}
use mathlib.Core.List.{List, [], ◌∷◌, Memᴰ as In}
use mathlib.Core.List.Memᴰ.{head as here}
use mathlib.Core.List.Memᴰ.{tail as there}
use native.Mathlib.Nat.{not-suc-le-zero, le_of_suc-le-suc, add-zero}
use native.Mathlib.Decide.{ℕ_discrete}
use native.Mathlib.Omega.{arith}
use lib.ListN.{length, get_or, set}
use lib.Dec.{eqb, ltb}
use borrow.Author.Tests.{eq-eqb, ne_eqb, ltb-true, ltb-false}
use Rattle.model.specs.Lists.{tabulate_from, tabulate, count, all_from, all_below, least_from, least}

-- ---- tests

pub clash : {b : Bool} → b ≡ true → b ≡ false → ⊥
clash p q = let z : ◌≡◌ {A = ℕ} 0 1 = cc in omega arith

pub and_l : (a b : Bool) → (a && b) ≡ true → a ≡ true
and_l true b h = refl
and_l false b h = h

pub and_r : (a b : Bool) → (a && b) ≡ true → b ≡ true
and_r true b h = h
and_r false b h = absurd (clash h refl)

pub and_i : {a b : Bool} → a ≡ true → b ≡ true → (a && b) ≡ true
and_i p q = rw (p, q)

pub or_cases : (a b : Bool) → (a || b) ≡ true → (a ≡ true) ⊎ (b ≡ true)
or_cases true b h = inl refl
or_cases false b h = inr h

pub or_i : (a b : Bool) → (a ≡ true) ⊎ (b ≡ true) → (a || b) ≡ true
or_i true b h = refl
or_i false b h = ⊎_elim (λ e. absurd (clash e refl)) (λ e. e) h

pub or_false : (a b : Bool) → (a || b) ≡ false → (a ≡ false) × (b ≡ false)
or_false true b h = absurd (clash refl h)
or_false false b h = (refl, h)

pub bool_cases : (b : Bool) → (b ≡ true) ⊎ (b ≡ false)
bool_cases true = inl refl
bool_cases false = inr refl

-- a proof by the two outcomes of a test
pub test : {P : Type 0} (b : Bool) → (b ≡ true → P) → (b ≡ false → P) → P
test true f g = f refl
test false f g = g refl

-- two tests that pass together are equal
pub same_test : {a b : Bool} → (a ≡ true → b ≡ true) → (b ≡ true → a ≡ true) → a ≡ b
same_test {a} {b} f g = test a (λ e. e ∙ sym (f e)) (λ e. test b (λ q. g q ∙ sym q) (λ q. e ∙ sym q))

pub if_eq : {P : Type 0} (a b : ℕ) → (a ≡ b → P) → (a ≢ b → P) → P
if_eq {P} a b f g = go (ℕ_discrete a b)
  where
    go : Dec (a ≡ b) → P
    go (yes e) = f e
    go (no e) = g e

pub if_lt : {P : Type 0} (a b : ℕ) → (a < b → P) → (b ≤ a → P) → P
if_lt a b f g = test (ltb a b) (λ e. f (ltb-true a b e)) (λ e. g (ltb-false a b e))

pub below_two : (P : ℕ → Type 0) → P 0 → P 1 → (i : ℕ) → i < 2 → P i
below_two P a b zero l = a
below_two P a b (suc zero) l = b
below_two P a b (suc (suc i)) l = absurd (omega arith)

pub below_three : (P : ℕ → Type 0) → P 0 → P 1 → P 2 → (i : ℕ) → i < 3 → P i
below_three P a b c zero l = a
below_three P a b c (suc i) l = below_two (λ k. P (suc k)) b c i (omega arith)

pub below_four : (P : ℕ → Type 0) → P 0 → P 1 → P 2 → P 3 → (i : ℕ) → i < 4 → P i
below_four P a b c d zero l = a
below_four P a b c d (suc i) l = below_three (λ k. P (suc k)) b c d i (omega arith)

pub below_eight : (P : ℕ → Type 0) → P 0 → P 1 → P 2 → P 3 → P 4 → P 5 → P 6 → P 7 → (i : ℕ) → i < 8 → P i
below_eight P a b c d e f g h zero l = a
below_eight P a b c d e f g h (suc zero) l = b
below_eight P a b c d e f g h (suc (suc zero)) l = c
below_eight P a b c d e f g h (suc (suc (suc zero))) l = d
below_eight P a b c d e f g h (suc (suc (suc (suc i)))) l = below_four (λ k. P (suc (suc (suc (suc k))))) e f g h i (omega arith)

module _ (p : ℕ → Bool) where
  -- ---- every number

  all_step : (k a : ℕ) → p a ≡ true → all_from (suc k) a p ≡ all_from k (suc a) p
  unfolding all_from
  all_step k a h = rw (h, all_from)

  all_stop : (k a : ℕ) → p a ≡ false → all_from (suc k) a p ≡ false
  unfolding all_from
  all_stop k a h = rw (h, all_from)

  all_at : (k a : ℕ) → all_from k a p ≡ true → (i : ℕ) → a ≤ i → i < a + k → p i ≡ true
  all_at zero a h i l u = absurd (omega arith)
  all_at (suc k) a h i l u =
      let rec = all_at k (suc a) in
      let first : p a ≡ true = test (p a) (λ e. e) (λ e. absurd (clash h (all_stop k a e))) in
      if_eq i a (λ e. ap p e ∙ first) (λ e. rec (sym (all_step k a first) ∙ h) i (omega arith) (omega arith))

  all_of : (k a : ℕ) → ((i : ℕ) → a ≤ i → i < a + k → p i ≡ true) → all_from k a p ≡ true
  unfolding all_from
  all_of zero a h = refl
  all_of (suc k) a h =
      all_step k a (h a (omega arith) (omega arith)) ∙ all_of k (suc a) (λ i l u. h i (omega arith) (omega arith))

  all_not : (k a : ℕ) → all_from k a p ≡ false → (i : ℕ) × (i < a + k) × (p i ≡ false)
  unfolding all_from
  all_not zero a h = absurd (clash refl h)
  all_not (suc k) a h =
      let rec = all_not k (suc a) in
      test (p a) (λ e. let (i, l, f) = rec (sym (all_step k a e) ∙ h) in (i, omega arith, f)) (λ e. (a, omega arith, e))

  pub below_at : (k : ℕ) → all_below k p ≡ true → (i : ℕ) → i < k → p i ≡ true
  unfolding all_below
  below_at k h i u = all_at k 0 h i (omega arith) (omega arith)

  pub below_of : (k : ℕ) → ((i : ℕ) → i < k → p i ≡ true) → all_below k p ≡ true
  unfolding all_below
  below_of k h = all_of k 0 (λ i l u. h i (omega arith))

  -- where not all pass, one does not
  pub below_not : (k : ℕ) → all_below k p ≡ false → (i : ℕ) × (i < k) × (p i ≡ false)
  unfolding all_below
  below_not k h = let (i, l, f) = all_not k 0 h in (i, omega arith, f)

  -- ---- the least number

  -- d is the first of the numbers from a up to b that passes; or d is b, and none of them passes
  pub record First (a b d : ℕ) : Type 0 where
    pub low : a ≤ d
    pub high : d ≤ b
    pub passes : d < b → p d ≡ true
    pub before : (i : ℕ) → a ≤ i → i < d → p i ≡ false

  least_step : (k a : ℕ) → p a ≡ false → least_from (suc k) a p ≡ least_from k (suc a) p
  unfolding least_from
  least_step k a h = rw (h, least_from)

  least_stop : (k a : ℕ) → p a ≡ true → least_from (suc k) a p ≡ a
  unfolding least_from
  least_stop k a h = rw (h, least_from)

  from_is : (k a : ℕ) → First a (a + k) (least_from k a p)
  unfolding least_from
  from_is zero a = record {
    low = omega arith;
    high = omega arith;
    passes = λ l. absurd (omega arith);
    before = λ i l u. absurd (omega arith);
  }
  from_is (suc k) a = let rec = from_is k (suc a) in test (p a) stop (step rec)
    where
      stop : p a ≡ true → First a (a + suc k) (least_from (suc k) a p)
      stop e = rw (least_stop k a e) (record {
        low = omega arith;
        high = omega arith;
        passes = λ l. e;
        before = λ i l u. absurd (omega arith);
      })

      step : First (suc a) (suc a + k) (least_from k (suc a) p) → p a ≡ false → First a (a + suc k) (least_from (suc k) a p)
      step r e = rw (least_step k a e) (record {
        low = omega arith;
        high = omega arith;
        passes = λ l. r.passes (omega arith);
        before = λ i l u. if_eq i a (λ q. ap p q ∙ e) (λ q. r.before i (omega arith) u);
      })

  from_by : (k a d : ℕ) → First a (a + k) d → least_from k a p ≡ d
  unfolding least_from
  from_by zero a d r = omega arith
  from_by (suc k) a d r =
      let rec = from_by k (suc a) d in
      if_eq d a (λ e. least_stop k a (ap p (sym e) ∙ r.passes (omega arith)) ∙ sym e)
      (λ e. least_step k a (r.before a (omega arith) (omega arith)) ∙ rec (later e))
    where
      later : d ≢ a → First (suc a) (suc a + k) d
      later e = record {
        low = omega arith;
        high = omega arith;
        passes = λ l. r.passes (omega arith);
        before = λ i l u. r.before i (omega arith) u;
      }

  -- `least` gives the first that passes, and nothing else is that
  pub least_is : (k : ℕ) → First 0 k (least k p)
  unfolding least
  least_is k = subst (λ (b : ℕ). First 0 b (least k p)) (omega arith) (from_is k 0)

  pub least_by : (k d : ℕ) → First 0 k d → least k p ≡ d
  unfolding least
  least_by k d r = from_by k 0 d (subst (λ (b : ℕ). First 0 b d) (omega arith) r)

  -- where a search has come to d: none before it passes, and d does, or d is the end
  pub searched : (k d : ℕ) → d ≤ k → ((i : ℕ) → i < d → p i ≡ false) → (d < k → p d ≡ true) → d ≡ least k p
  searched k d high before passes =
      sym (least_by k d (record { low = omega arith; high = high; passes = passes; before = λ i _. before i }))

-- every pair of numbers
pub below_both : (p : ℕ → ℕ → Bool) (k l : ℕ) → all_below k (λ a. all_below l (p a)) ≡ true
    → (a b : ℕ) → a < k → b < l → p a b ≡ true
below_both p k l h a b ha hb = below_at (p a) l (below_at (λ a. all_below l (p a)) k h a ha) b hb

-- ---- how often a number stands in a list

module _ (v a : ℕ) where
  -- a v that is replaced by another number
  pub count_change : (m : List ℕ) (x d : ℕ) → x < length m → get_or m x d ≡ v → a ≢ v → count v m ≡ suc (count v (set m x a))
  unfolding count
  count_change [] x d l h e = absurd (not-suc-le-zero l)
  count_change (y ∷ m) zero d l h e = rw (eq-eqb y v h, ne_eqb a v e, count)
  count_change (y ∷ m) (suc x) d l h e =
      let rec = count_change m x d (le_of_suc-le-suc l) h e in
      test (eqb y v) (λ q. rw (q, count) (ap suc rec)) (λ q. rw (q, count) rec)

  count_more : (y : ℕ) (m : List ℕ) → count v m ≤ count v (y ∷ m)
  unfolding count
  count_more y m = test (eqb y v) (λ q. rw (q, count) (omega arith)) (λ q. rw (q, count) (omega arith))

  -- one entry that is replaced
  pub count_le : (m : List ℕ) (x : ℕ) → count v m ≤ suc (count v (set m x a))
  unfolding count
  count_le [] x = omega arith
  count_le (y ∷ m) zero =
      let more = count_more a m in
      test (eqb y v) (λ q. rw (q, count) (omega arith)) (λ q. rw (q, count) (omega arith))
  count_le (y ∷ m) (suc x) =
      let rec = count_le m x in
      test (eqb y v) (λ q. rw (q, count) (omega arith)) (λ q. rw (q, count) rec)

-- ---- a list by its rule

module _ (f : ℕ → ℕ) where
  pub length_tab_from : (k a : ℕ) → length (tabulate_from k a f) ≡ k
  unfolding tabulate_from
  length_tab_from zero a = refl
  length_tab_from (suc k) a = ap suc (length_tab_from k (suc a))

  get_or_tab_from : (k a i d : ℕ) → i < k → get_or (tabulate_from k a f) i d ≡ f (a + i)
  unfolding tabulate_from
  get_or_tab_from zero a i d h = absurd (not-suc-le-zero h)
  get_or_tab_from (suc k) a zero d h = ap f (sym (add-zero a))
  get_or_tab_from (suc k) a (suc i) d h = get_or_tab_from k (suc a) i d (le_of_suc-le-suc h) ∙ ap f (omega arith)

  pub length_tab : (k : ℕ) → length (tabulate k f) ≡ k
  unfolding tabulate
  length_tab k = length_tab_from k 0

  pub get_or_tab : (k i d : ℕ) → i < k → get_or (tabulate k f) i d ≡ f i
  unfolding tabulate
  get_or_tab k i d h = get_or_tab_from k 0 i d h ∙ ap f (omega arith)

  -- the entries are f a, f (a + 1), ..
  pub tab_in : (n a k : ℕ) → a ≤ k → k < a + n → In (f k) (tabulate_from n a f)
  unfolding tabulate_from
  tab_in zero a k l u = absurd (omega arith)
  tab_in (suc n) a k l u =
      let rec = tab_in n (suc a) k in
      if_eq k a (λ e. here (ap f e)) (λ e. there (rec (omega arith) (omega arith)))

  pub in_tab : (n a x : ℕ) → In x (tabulate_from n a f) → (k : ℕ) × (a ≤ k) × (k < a + n) × (x ≡ f k)
  unfolding tabulate_from
  in_tab zero a x i = absurd (not-nil i)
  in_tab (suc n) a x i =
      let rec = in_tab n (suc a) x in
      ⊎_elim (λ e. (a, omega arith, omega arith, e))
      (λ j. let (k, l, u, e) = rec j in (k, omega arith, omega arith, e)) (in-cons i)
