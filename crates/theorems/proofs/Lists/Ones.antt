-- Lists of distinct slots: the index of an entry, the places of the ones, the unused slots.
-- Main theorems: `index_get_or` and `get_or_index`; `ones_of` and `ones_in`; `vacant_frees`; `marked_pass` and `marked_fail` (a test of each
-- marked number).
use Prim.Native.Nat.{ℕ, zero, suc, ◌+◌, ◌≤◌, ◌<◌}
use mathlib.Core.Path.{◌≡◌, refl, sym, ap, ◌∙◌}
use mathlib.Core.Logic.{◌⊎◌, inl, inr, ◌≢◌, ◌↔◌, ⊎_elim}
use mathlib.Core.Bool.{Bool, true, false}
use mathlib.Core.List.Memᴰ.{cases_cons as in-cons}
use mathlib.Core.List.Memᴰ.{not-nil}
use mathlib.Core.List.{List, [], ◌∷◌, Memᴰ as In}
use mathlib.Core.List.Memᴰ.{cast as in-cast}
use mathlib.Core.List.Memᴰ.{head as here}
use mathlib.Core.List.Memᴰ.{tail as there}
use native.Mathlib.Nat.{add-zero}
use native.Mathlib.Omega.{arith}
use lib.ListN.{length, get_or, take}
use borrow.Author.Tests.{lt-ltb, le-ltb, eq-eqb, ne_eqb}
use Rattle.model.specs.Lists.{tabulate, ones, ones_from, index_of, all_of}
use Rattle.model.specs.Table.{slots, live, unused_slots}
use Rattle.model.specs.Meaning.Lists.{member, Distinct, none, more}
use Rattle.model.specs.Meaning.Slots.{Vacant}
use Rattle.model.specs.Meaning.Sets.{Marked}
use Rattle.theorems.proofs.Lists.Scan.{clash, test, if_eq, length_tab, get_or_tab}
use Rattle.theorems.proofs.Sets.Closure.{marked_in}

-- ---- the index of an entry

module _ (x y : ℕ) (l : List ℕ) where
  index_here : x ≡ y → index_of x (y ∷ l) ≡ 0
  unfolding index_of
  index_here e = rw (eq-eqb x y e, index_of)

  index_there : x ≢ y → index_of x (y ∷ l) ≡ suc (index_of x l)
  unfolding index_of
  index_there e = rw (ne_eqb x y e, index_of)

in_later : {x y : ℕ} {l : List ℕ} → In x (y ∷ l) → x ≢ y → In x l
in_later {x} {y} i e = ⊎_elim (λ (h : x ≡ y). absurd (e h)) (λ j. j) (in-cons i)

pub index_in : (l : List ℕ) (x : ℕ) → In x l → index_of x l < length l
index_in [] x i = absurd (not-nil i)
index_in (y ∷ l) x i =
    let rec = index_in l x in
    if_eq x y (λ e. let q = index_here x y l e in omega arith)
    (λ e. let q = index_there x y l e in let r = rec (in_later i e) in omega arith)

pub get_or_index : (l : List ℕ) (x d : ℕ) → In x l → get_or l (index_of x l) d ≡ x
get_or_index [] x d i = absurd (not-nil i)
get_or_index (y ∷ l) x d i =
    let rec = get_or_index l x d in
    if_eq x y (λ e. rw (index_here x y l e) (sym e)) (λ e. rw (index_there x y l e) (rec (in_later i e)))

pub get_or_in : {A : Type 0} (l : List A) (k : ℕ) (d : A) → k < length l → In (get_or l k d) l
get_or_in [] k d h = absurd (omega arith)
get_or_in (y ∷ l) zero d h = here refl
get_or_in (y ∷ l) (suc k) d h = there (get_or_in l k d (omega arith))

pub index_get_or : (l : List ℕ) (k d : ℕ) → Distinct l → k < length l → index_of (get_or l k d) l ≡ k
index_get_or [] k d p h = absurd (omega arith)
index_get_or (y ∷ l) zero d p h = index_here y y l refl
index_get_or (y ∷ l) (suc k) d (more once p) h =
    let other : get_or l k d ≢ y = λ e. once (in-cast (sym e) (get_or_in l k d (omega arith))) in
    index_there (get_or l k d) y l other ∙ ap suc (index_get_or l k d p (omega arith))

pub index_out : (l : List ℕ) (x : ℕ) → (In x l → ⊥) → length l ≤ index_of x l
index_out [] x h = omega arith
index_out (y ∷ l) x h =
    let q = index_there x y l (λ e. h (here e)) in
    let r = index_out l x (λ i. h (there i)) in
    omega arith

pub in_or : (l : List ℕ) (x : ℕ) → In x l ⊎ (In x l → ⊥)
in_or [] x = inr not-nil
in_or (y ∷ l) x =
    let rec = in_or l x in
    if_eq x y (λ e. inl (here e)) (λ e. ⊎_elim (λ i. inl (there i)) (λ out. inr (λ i. out (in_later i e))) rec)

pub member_in : (l : List ℕ) (x : ℕ) → member l x ≡ true → In x l
unfolding member
member_in l x h = ⊎_elim (λ i. i) (λ i. absurd (clash h (le-ltb _ _ (index_out l x i)))) (in_or l x)

pub in_member : (l : List ℕ) (x : ℕ) → In x l → member l x ≡ true
unfolding member
in_member l x i = lt-ltb _ _ (index_in l x i)

-- ---- the first entries

in_take : (n : ℕ) (l : List ℕ) (x : ℕ) → In x (take n l) → In x l
in_take zero l x i = absurd (not-nil i)
in_take (suc n) [] x i = i
in_take (suc n) (y ∷ l) x i = ⊎_elim here (λ j. there (in_take n l x j)) (in-cons i)

distinct_take : (n : ℕ) (l : List ℕ) → Distinct l → Distinct (take n l)
distinct_take zero l p = none
distinct_take (suc n) [] p = p
distinct_take (suc n) (y ∷ l) (more once p) = more (λ i. once (in_take n l y i)) (distinct_take n l p)

-- ---- the places of the ones

module _ (a y : ℕ) (l : List ℕ) where
  ones_one : y ≡ 1 → ones_from a (y ∷ l) ≡ a ∷ ones_from (suc a) l
  unfolding ones_from
  ones_one e = rw (eq-eqb y 1 e, ones_from)

  ones_other : y ≢ 1 → ones_from a (y ∷ l) ≡ ones_from (suc a) l
  unfolding ones_from
  ones_other e = rw (ne_eqb y 1 e, ones_from)

ones_from_lem : (l : List ℕ) (a x : ℕ) → In x (ones_from a l) → (k : ℕ) × (x ≡ a + k) × Marked l k
unfolding ones_from
ones_from_lem [] a x i = absurd (not-nil i)
ones_from_lem (y ∷ l) a x i =
    let rec = ones_from_lem l (suc a) x in
    if_eq y 1 (λ e. ⊎_elim (λ h. (0, omega arith, e)) (λ j. later (rec j)) (in-cons (rw (ones_one a y l e) at i)))
    (λ e. later (rec (rw (ones_other a y l e) at i)))
  where
    later : (k : ℕ) × (x ≡ suc a + k) × Marked l k → (k : ℕ) × (x ≡ a + k) × Marked (y ∷ l) k
    later (k, e, h) = (suc k, omega arith, h)

pub ones_of : (l : List ℕ) (x : ℕ) → In x (ones_from 0 l) → Marked l x
ones_of l x i =
    let (k, e, h) = ones_from_lem l 0 x i in
    let q : x ≡ k = omega arith in
    rw q h

ones_at : (l : List ℕ) (a k : ℕ) → Marked l k → In (a + k) (ones_from a l)
unfolding ones_from
ones_at [] a k m = absurd (omega arith)
ones_at (y ∷ l) a zero m = rw (ones_one a y l m) (here (add-zero a))
ones_at (y ∷ l) a (suc k) m =
    let i : In (a + suc k) (ones_from (suc a) l) = in-cast (omega arith) (ones_at l (suc a) k m) in
    if_eq y 1 (λ e. rw (ones_one a y l e) (there i)) (λ e. rw (ones_other a y l e) i)

pub ones_in : (l : List ℕ) (x : ℕ) → Marked l x → In x (ones_from 0 l)
ones_in l x m = in-cast (omega arith) (ones_at l 0 x m)

pub ones_distinct : (l : List ℕ) (a : ℕ) → Distinct (ones_from a l)
unfolding ones_from
ones_distinct [] a = none
ones_distinct (y ∷ l) a =
    let rec = ones_distinct l (suc a) in
    let once : In a (ones_from (suc a) l) → ⊥ = λ i. let (k, e, h) = ones_from_lem l (suc a) a i in omega arith in
    if_eq y 1 (λ e. rw (ones_one a y l e) (more once rec)) (λ e. rw (ones_other a y l e) rec)

-- ---- the unused slots

pub vacant_frees : (t : List ℕ) (k : ℕ) → Vacant t (take k (unused_slots t))
unfolding unused_slots
vacant_frees t k = record {
  once = distinct_take k (unused_slots t) (ones_distinct marks 0);
  inside = λ x i. below x (marked x i);
  dead = λ x i. off x (marked x i);
}
  where
    mark : ℕ → ℕ
    mark d = elim (live t d) [ true ↦ 0 | false ↦ 1 ]

    marks : List ℕ
    marks = tabulate (slots t) mark

    marked : (x : ℕ) → In x (take k (unused_slots t)) → Marked marks x
    marked x i = ones_of marks x (in_take k (unused_slots t) x i)

    below : (x : ℕ) → Marked marks x → x < slots t
    below x h = rw length_tab at (marked_in marks x h)

    off : (x : ℕ) → Marked marks x → live t x ≡ false
    off x h =
        let v = get_or_tab mark (slots t) x 0 (below x h) in
        test (live t x) (λ e. let z : mark x ≡ 0 = rw (e, mark) in absurd (omega arith)) (λ e. e)

-- ---- a test of each entry of a list

module _ {A : Type 0} (p : A → Bool) where
  each_step : (y : A) (l : List A) → p y ≡ true → all_of p (y ∷ l) ≡ all_of p l
  unfolding all_of
  each_step y l e = rw (e, all_of)

  each_stop : (y : A) (l : List A) → p y ≡ false → all_of p (y ∷ l) ≡ false
  unfolding all_of
  each_stop y l e = rw (e, all_of)

  pub each_at : (l : List A) → all_of p l ≡ true → (x : A) → In x l → p x ≡ true
  each_at [] h x i = absurd (not-nil i)
  each_at (y ∷ l) h x i =
      let rec = each_at l in
      let first : p y ≡ true = test (p y) (λ e. e) (λ e. absurd (clash h (each_stop y l e))) in
      ⊎_elim (λ q. ap p q ∙ first) (rec (sym (each_step y l first) ∙ h) x) (in-cons i)

  pub each_of : (l : List A) → ((x : A) → In x l → p x ≡ true) → all_of p l ≡ true
  unfolding all_of
  each_of [] h = refl
  each_of (y ∷ l) h = each_step y l (h y (here refl)) ∙ each_of l (λ x i. h x (there i))

  -- where not all pass, one does not
  each_not : (l : List A) → all_of p l ≡ false → (x : A) × In x l × (p x ≡ false)
  unfolding all_of
  each_not [] h = absurd (clash refl h)
  each_not (y ∷ l) h =
      let rec = each_not l in
      test (p y) (λ e. let (x, i, f) = rec (sym (each_step y l e) ∙ h) in (x, there i, f)) (λ e. (y, here refl, e))

  pub each_fail : (l : List A) → (all_of p l ≡ false) ↔ ((x : A) × In x l × (p x ≡ false))
  each_fail l = (each_not l, λ (x, i, e). test (all_of p l) (λ h. absurd (clash (each_at l h x i) e)) (λ h. h))

-- .. of each marked number
module _ (p : ℕ → Bool) where
  pub marked_pass : (m : List ℕ) → (all_of p (ones m) ≡ true) ↔ ((x : ℕ) → Marked m x → p x ≡ true)
  marked_pass m = (λ h x k. each_at p (ones m) h x (ones_in m x k), λ h. each_of p (ones m) (λ x i. h x (ones_of m x i)))

  pub marked_fail : (m : List ℕ) → (all_of p (ones m) ≡ false) ↔ ((x : ℕ) × Marked m x × (p x ≡ false))
  marked_fail m = (
    λ h. let (x, i, e) = (each_fail p (ones m)).0 h in (x, ones_of m x i, e),
    λ (x, k, e). (each_fail p (ones m)).1 (x, ones_in m x k, e),
  )
