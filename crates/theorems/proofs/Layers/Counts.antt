-- How many slots pass a test: by a list of them (how_many_least, how_many_most), and as a sum over the slots (how_many_total).
-- The entries that two tables differ in, as such a sum (changes_total).
use Prim.Native.Nat.{ℕ, zero, suc, ◌+◌, ◌*◌, ◌≤◌, ◌<◌}
use mathlib.Core.Path.{◌≡◌, refl, sym, ap, ap₂, ◌∙◌, subst}
use mathlib.Core.Logic.{◌⊎◌, inl, inr, ◌≢◌}
use mathlib.Core.Bool.{Bool, true, false, not}
use mathlib.Core.List.{List, [], ◌∷◌, Memᴰ as In}
use native.Mathlib.Omega.{arith}
use lib.ListN.{length, get_or}
use lib.Dec.{eqb}
use borrow.Author.Tests.{eq-eqb, ne_eqb, not-true, not-false}
use Rattle.model.specs.Lists.{tabulate, tabulate_from, count, all_below, how_many}
use Rattle.model.specs.Table.{unused, slots, link}
use Rattle.model.specs.Journal.{changes_from}
use Rattle.model.specs.Meaning.Lists.{Distinct}
use Rattle.model.specs.Meaning.Sets.{Marked}
use Rattle.theorems.proofs.Lists.Scan.{test, clash, below_at, below_not, length_tab, get_or_tab}
use Rattle.theorems.proofs.Sets.Closure.{marked_in}
use Rattle.theorems.proofs.Sets.Pigeon.{cover, distinct_le}

abbrev pub bit : Bool → ℕ
bit b = elim b [ true ↦ 1 | false ↦ 0 ]

-- what passes, as marks
abbrev passing : ℕ → (ℕ → Bool) → List ℕ
passing k p = tabulate k (λ x. bit (p x))

module _ (k : ℕ) (p : ℕ → Bool) where
  passing_of : (x : ℕ) → Marked (passing k p) x → (x < k) × (p x ≡ true)
  passing_of x h =
      let low : x < k = subst (λ (z : ℕ). x < z) (length_tab (λ x. bit (p x)) k) (marked_in (passing k p) x h) in
      let at = get_or_tab (λ x. bit (p x)) k x 0 low in
      (low, test (p x) (λ e. e) (λ e. let z : bit (p x) ≡ 0 = ap bit e in absurd (omega arith)))

  of_passing : (x : ℕ) → x < k → p x ≡ true → Marked (passing k p) x
  of_passing x low e = get_or_tab (λ x. bit (p x)) k x 0 low ∙ ap bit e

  -- at least as many as a list of distinct ones, at most as many as a list of all
  pub how_many_least : (l : List ℕ) → Distinct l → ((x : ℕ) → In x l → (x < k) × (p x ≡ true)) → length l ≤ how_many k p
  unfolding how_many
  how_many_least l d h = distinct_le l (passing k p) d (λ x i. let (low, e) = h x i in of_passing x low e)

  pub how_many_most : (l : List ℕ) → ((x : ℕ) → x < k → p x ≡ true → In x l) → how_many k p ≤ length l
  unfolding how_many
  how_many_most l h = cover l (passing k p) (λ x m. let (low, e) = passing_of x m in h x low e)

  pub how_many_none : (how_many k p ≡ 0) ⊎ ((x : ℕ) × (x < k) × (p x ≡ true))
  how_many_none = test (all_below k (λ x. not (p x)))
      (λ h.
      let fails : (x : ℕ) → x < k → p x ≡ false = λ x low. not-true _ (below_at (λ x. not (p x)) k h x low) in
      let none = how_many_most [] (λ x low e. absurd (clash e (fails x low))) in
      inl (omega arith))
      (λ h. let (x, low, e) = below_not (λ x. not (p x)) k h in inr (x, low, not-false _ e))

-- ---- sums

-- f a + f (a + 1) + ..: k of them
unfoldable pub total : ℕ → ℕ → (ℕ → ℕ) → ℕ
total zero a f = 0
total (suc k) a f = f a + total k (suc a) f

total_same : (k a : ℕ) (f g : ℕ → ℕ) → ((x : ℕ) → a ≤ x → x < a + k → f x ≡ g x) → total k a f ≡ total k a g
unfolding total
total_same zero a f g h = refl
total_same (suc k) a f g h =
    ap₂ ◌+◌ (h a (omega arith) (omega arith)) (total_same k (suc a) f g (λ x l u. h x (omega arith) (omega arith)))

pub total_shift : (k a : ℕ) (f : ℕ → ℕ) → total k (suc a) f ≡ total k a (λ x. f (suc x))
unfolding total
total_shift zero a f = refl
total_shift (suc k) a f = ap (λ (r : ℕ). f (suc a) + r) (total_shift k (suc a) f)

-- the sum of c times one sum and another
total_both : (c k a : ℕ) (f g : ℕ → ℕ) → total k a (λ x. c * f x + g x) ≡ c * total k a f + total k a g
unfolding total
total_both c zero a f g = omega arith
total_both c (suc k) a f g = let rec = total_both c k (suc a) f g in omega arith

count_bit : (b : Bool) (l : List ℕ) → count 1 (bit b ∷ l) ≡ bit b + count 1 l
unfolding count
count_bit true l = omega arith
count_bit false l = omega arith

count_total : (p : ℕ → Bool) (k a : ℕ) → count 1 (tabulate_from k a (λ x. bit (p x))) ≡ total k a (λ x. bit (p x))
unfolding count tabulate_from total
count_total p zero a = refl
count_total p (suc k) a =
    let rec = count_total p k (suc a) in
    let first = count_bit (p a) (tabulate_from k (suc a) (λ x. bit (p x))) in
    omega arith

pub how_many_total : (k : ℕ) (p : ℕ → Bool) → how_many k p ≡ total k 0 (λ x. bit (p x))
unfolding how_many tabulate
how_many_total k p = count_total p k 0

pub how_many_same : (k : ℕ) (p q : ℕ → Bool) → ((x : ℕ) → x < k → p x ≡ q x) → how_many k p ≡ how_many k q
how_many_same k p q h = rw (how_many_total k p, how_many_total k q) (total_same k 0 _ _ (λ x _ b. ap bit (h x (omega arith))))

-- where f x is c for each x that p passes, and 1 more for each that q passes
pub total_how_many : (c k : ℕ) (f : ℕ → ℕ) (p q : ℕ → Bool) → ((x : ℕ) → x < k → f x ≡ c * bit (p x) + bit (q x))
    → total k 0 f ≡ c * how_many k p + how_many k q
total_how_many c k f p q h = rw (how_many_total k p, how_many_total k q)
    (total_same k 0 f (λ x. c * bit (p x) + bit (q x)) (λ x _ b. h x (omega arith))
    ∙ total_both c k 0 (λ x. bit (p x)) (λ x. bit (q x)))

-- ---- the entries that two tables differ in

differ : List ℕ → List ℕ → ℕ → ℕ
differ xs ys i = bit (not (eqb (get_or xs i unused) (get_or ys i unused)))

changes_entries : (e : ℕ) (xs ys : List ℕ) → length xs ≡ length ys
    → length (changes_from e xs ys) ≡ total (length xs) 0 (differ xs ys)
unfolding changes_from total differ
changes_entries e [] ys l = refl
changes_entries e (x ∷ xs) [] l = absurd (omega arith)
changes_entries e (x ∷ xs) (y ∷ ys) l =
    let rec = changes_entries (suc e) xs ys (omega arith) ∙ sym (total_shift (length xs) 0 (differ (x ∷ xs) (y ∷ ys))) in
    test (eqb x y) (λ h. rw (h, changes_from) (omega arith)) (λ h. rw (h, changes_from) (omega arith))

-- four at a time
four : (ℕ → ℕ) → ℕ → ℕ
four f x = f (4 * x + 0) + f (4 * x + 1) + f (4 * x + 2) + f (4 * x + 3)

total_fours : (k a : ℕ) (f : ℕ → ℕ) → total (4 * k) (4 * a) f ≡ total k a (four f)
unfolding total four
total_fours zero a f = refl
total_fours (suc k) a f =
    let rec = total_fours k (suc a) f in
    let more : 4 * suc k ≡ suc (suc (suc (suc (4 * k)))) = omega arith in
    let next : total (4 * k) (suc (suc (suc (suc (4 * a))))) f ≡ total (4 * k) (4 * suc a) f
    = ap (λ (b : ℕ). total (4 * k) b f) (omega arith) in
    let at₀ : f (4 * a) ≡ f (4 * a + 0) = ap f (omega arith) in
    let at₁ : f (suc (4 * a)) ≡ f (4 * a + 1) = ap f (omega arith) in
    let at₂ : f (suc (suc (4 * a))) ≡ f (4 * a + 2) = ap f (omega arith) in
    let at₃ : f (suc (suc (suc (4 * a)))) ≡ f (4 * a + 3) = ap f (omega arith) in
    rw more (omega arith)

-- link j of x is another in u
unfoldable pub changed : List ℕ → List ℕ → ℕ → ℕ → Bool
changed t u x j = not (eqb (link t j x) (link u j x))

module _ (t u : List ℕ) (x j : ℕ) where
  pub changed_of : link t j x ≢ link u j x → changed t u x j ≡ true
  unfolding changed
  changed_of h = rw (ne_eqb (link t j x) (link u j x) h)

  pub changed_not : link t j x ≡ link u j x → changed t u x j ≡ false
  unfolding changed
  changed_not h = rw (eq-eqb (link t j x) (link u j x) h)

-- how many links of x are others in u
unfoldable pub changed_at : List ℕ → List ℕ → ℕ → ℕ
changed_at t u x = bit (changed t u x 0) + bit (changed t u x 1) + bit (changed t u x 2) + bit (changed t u x 3)

pub changes_total : (t u : List ℕ) → length t ≡ 4 * slots t → length u ≡ length t
    → length (changes_from 0 t u) ≡ total (slots t) 0 (changed_at t u)
unfolding changed_at changed link differ four
changes_total t u whole long = changes_entries 0 t u (sym long) ∙ rw whole (total_fours (slots t) 0 (differ t u))
