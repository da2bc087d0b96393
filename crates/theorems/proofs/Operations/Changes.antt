-- How many entries differ between two tables, counted over the slots.
-- `changes_sum`: the changes are the links that differ, summed over the slots.
-- `changes_size`: with `a` changes for each slot of r and `b` for each slot of s, they are a and b times those sizes.
-- `changed_all`, `changed_one`, `changed_none`: a slot's changes. `changes_turn`: there are as many the other way.
use Prim.Native.Nat.{ℕ, zero, suc, ◌+◌, ◌*◌, ◌<◌}
use mathlib.Core.Path.{◌≡◌, refl, sym, ap, ap₂, ◌∙◌}
use mathlib.Core.Logic.{◌≢◌, ⊎_elim}
use mathlib.Core.Bool.{true, false}
use mathlib.Core.List.{List, [], ◌∷◌}
use native.Mathlib.Nat.{add-zero, add-suc, mul-add}
use native.Mathlib.Omega.{arith}
use lib.ListN.{length, get_or}
use lib.Dec.{eqb}
use borrow.Author.Tests.{eq-eqb, ne_eqb}
use Rattle.model.specs.Lists.{count}
use Rattle.model.specs.Table.{unused, slots, link}
use Rattle.model.specs.Journal.{changes_from}
use Rattle.model.specs.Meaning.Sets.{Bits}
use Rattle.theorems.proofs.Lists.Scan.{if_eq}

-- ---- sums

-- f 0 + f 1 + ..: k of them
unfoldable pub sum_below : ℕ → (ℕ → ℕ) → ℕ
sum_below zero f = 0
sum_below (suc k) f = sum_below k f + f k

sum_same : (k : ℕ) (f g : ℕ → ℕ) → ((x : ℕ) → x < k → f x ≡ g x) → sum_below k f ≡ sum_below k g
unfolding sum_below
sum_same zero f g h = refl
sum_same (suc k) f g h =
    let rec = sum_same k f g (λ x l. h x (omega arith)) in
    let last = h k (omega arith) in
    omega arith

sum_front : (k : ℕ) (f : ℕ → ℕ) → sum_below (suc k) f ≡ f 0 + sum_below k (λ x. f (suc x))
unfolding sum_below
sum_front zero f = omega arith
sum_front (suc k) f = let rec = sum_front k f in omega arith

sum_split : (a b : ℕ) (f : ℕ → ℕ) → sum_below (a + b) f ≡ sum_below a f + sum_below b (λ x. f (a + x))
unfolding sum_below
sum_split a zero f = rw (add-zero a) (omega arith)
sum_split a (suc b) f = let rec = sum_split a b f in rw add-suc (omega arith)

-- four at a time
sum_fours : (k : ℕ) (f : ℕ → ℕ) → sum_below (4 * k) f ≡ sum_below k (λ x. sum_below 4 (λ j. f (4 * x + j)))
unfolding sum_below
sum_fours zero f = refl
sum_fours (suc k) f =
    let rec = sum_fours k f in
    let next : 4 * suc k ≡ 4 * k + 4 = omega arith in
    rw (next, sum_split (4 * k) 4 f) (omega arith)

sum_zero : (k : ℕ) (f : ℕ → ℕ) → ((x : ℕ) → x < k → f x ≡ 0) → sum_below k f ≡ 0
unfolding sum_below
sum_zero zero f h = refl
sum_zero (suc k) f h =
    let rec = sum_zero k f (λ x l. h x (omega arith)) in
    let last = h k (omega arith) in
    omega arith

-- only one is not 0
sum_one : (k i : ℕ) (f : ℕ → ℕ) → i < k → ((j : ℕ) → j < k → j ≢ i → f j ≡ 0) → sum_below k f ≡ f i
unfolding sum_below
sum_one zero i f l h = absurd (omega arith)
sum_one (suc k) i f l h = if_eq i k
    (λ e.
    let before = sum_zero k f (λ j b. h j (omega arith) (λ q. omega arith)) in
    let last = ap f e in
    omega arith)
    (λ e.
    let rec = sum_one k i f (omega arith) (λ j b. h j (omega arith)) in
    let last = h k (omega arith) (λ q. e (sym q)) in
    omega arith)

sum_weighed : (k a b : ℕ) (f g : ℕ → ℕ) → sum_below k (λ x. a * f x + b * g x) ≡ a * sum_below k f + b * sum_below k g
unfolding sum_below
sum_weighed zero a b f g = omega arith
sum_weighed (suc k) a b f g = let rec = sum_weighed k a b f g in rw (mul-add a, mul-add b) (omega arith)

sum_marks : (s : List ℕ) → Bits s → sum_below (length s) (λ x. get_or s x 0) ≡ count 1 s
unfolding sum_below count
sum_marks [] h = refl
sum_marks (y ∷ s) h =
    let rec = sum_marks s (λ x. h (suc x)) in
    sum_front (length s) (λ x. get_or (y ∷ s) x 0)
    ∙ ⊎_elim (λ (e : y ≡ 0). rw e (omega arith)) (λ (e : y ≡ 1). rw e (omega arith)) (h 0)

-- ---- what differs

-- 1 where two numbers differ, else 0
unfoldable pub differ : ℕ → ℕ → ℕ
differ x y = elim (eqb x y) [ true ↦ 0 | false ↦ 1 ]

differ_same : {x y : ℕ} → x ≡ y → differ x y ≡ 0
unfolding differ
differ_same {x} {y} h = rw (eq-eqb x y h, differ)

differ_other : {x y : ℕ} → x ≢ y → differ x y ≡ 1
unfolding differ
differ_other {x} {y} h = rw (ne_eqb x y h, differ)

-- how many links of x differ
unfoldable pub changed_links : List ℕ → List ℕ → ℕ → ℕ
changed_links t u x = sum_below 4 (λ j. differ (link t j x) (link u j x))

changes_entries : (e : ℕ) (xs ys : List ℕ) → length xs ≡ length ys
    → length (changes_from e xs ys) ≡ sum_below (length xs) (λ k. differ (get_or xs k unused) (get_or ys k unused))
unfolding changes_from sum_below
changes_entries e [] ys h = refl
changes_entries e (x ∷ xs) [] h = absurd (omega arith)
changes_entries e (x ∷ xs) (y ∷ ys) h =
    let rec = changes_entries (suc e) xs ys (omega arith) in
    let front = sum_front (length xs) (λ k. differ (get_or (x ∷ xs) k unused) (get_or (y ∷ ys) k unused)) in
    if_eq x y
    (λ q. let same = differ_same q in rw (eq-eqb x y q, changes_from) (omega arith))
    (λ q. let other = differ_other q in rw (ne_eqb x y q, changes_from) (omega arith))

-- as many from the second table to the first
pub changes_turn : (e : ℕ) (xs ys : List ℕ) → length (changes_from e xs ys) ≡ length (changes_from e ys xs)
unfolding changes_from
changes_turn e [] [] = refl
changes_turn e [] (y ∷ ys) = refl
changes_turn e (x ∷ xs) [] = refl
changes_turn e (x ∷ xs) (y ∷ ys) =
    let rec = changes_turn (suc e) xs ys in
    if_eq x y
    (λ q. rw (eq-eqb x y q, eq-eqb y x (sym q), changes_from) rec)
    (λ q. rw (ne_eqb x y q, ne_eqb y x (λ r. q (sym r)), changes_from) (ap suc rec))

module _ (t u : List ℕ) (whole : length t ≡ 4 * slots t) (long : length u ≡ length t) where
  pub changes_sum : length (changes_from 0 t u) ≡ sum_below (slots t) (changed_links t u)
  unfolding changed_links link
  changes_sum = changes_entries 0 t u (sym long) ∙ ap (λ (k : ℕ). sum_below k entry) whole ∙ sum_fours (slots t) entry
    where
      entry : ℕ → ℕ
      entry k = differ (get_or t k unused) (get_or u k unused)

  pub changes_size : (a b : ℕ) (r s : List ℕ) → length r ≡ slots t → length s ≡ slots t → Bits r → Bits s
      → ((x : ℕ) → x < slots t → changed_links t u x ≡ a * get_or r x 0 + b * get_or s x 0)
      → length (changes_from 0 t u) ≡ a * count 1 r + b * count 1 s
  changes_size a b r s long_r long_s bits_r bits_s h =
      changes_sum ∙ sum_same (slots t) (changed_links t u) (λ x. a * get_or r x 0 + b * get_or s x 0) h
      ∙ sum_weighed (slots t) a b (λ x. get_or r x 0) (λ x. get_or s x 0)
      ∙ ap₂ (λ (c d : ℕ). a * c + b * d) (size r long_r bits_r) (size s long_s bits_s)
    where
      size : (m : List ℕ) → length m ≡ slots t → Bits m → sum_below (slots t) (λ x. get_or m x 0) ≡ count 1 m
      size m l bits = ap (λ (k : ℕ). sum_below k (λ x. get_or m x 0)) (sym l) ∙ sum_marks m bits

-- ---- the links of a slot that differ: all, one or none

module _ (t u : List ℕ) (x : ℕ) where
  pub changed_all : ((j : ℕ) → j < 4 → link t j x ≢ link u j x) → changed_links t u x ≡ 4
  unfolding changed_links sum_below
  changed_all h = sum_same 4 (λ j. differ (link t j x) (link u j x)) (λ _. 1) (λ j l. differ_other (h j l))

  pub changed_none : ((j : ℕ) → j < 4 → link u j x ≡ link t j x) → changed_links t u x ≡ 0
  unfolding changed_links
  changed_none h = sum_zero 4 (λ j. differ (link t j x) (link u j x)) (λ j l. differ_same (sym (h j l)))

  pub changed_one : (i : ℕ) → i < 4 → link t i x ≢ link u i x → ((j : ℕ) → j < 4 → j ≢ i → link u j x ≡ link t j x)
      → changed_links t u x ≡ 1
  unfolding changed_links
  changed_one i l moved h =
      sum_one 4 i (λ j. differ (link t j x) (link u j x)) l (λ j b q. differ_same (sym (h j b q))) ∙ differ_other moved
