-- Masks. `bit_exactly`: the bits of a mask are those of its binary form, and `bits_one` of no other. `orbit_place_exactly`,
-- `orbit_place_none`: the place of an orbit is 1 + the one index that the mask lacks, and 0 where there is no such one.
use Prim.Native.Nat.{ℕ, zero, suc, ◌+◌, ◌*◌, ◌/◌, ◌%◌, ◌^◌, ◌≤◌, ◌<◌}
use mathlib.Core.Path.{◌≡◌, refl, sym, ap, ap₂, ◌∙◌}
use mathlib.Core.Logic.{◌≢◌, ◌↔◌}
use mathlib.Core.Bool.{Bool, true, false, not}
use native.Mathlib.Nat.{pow-suc, mod-one, mod-eq_of_lt, div-add-mod, div-div-eq-div-mul, mul-add, mul_assoc, suc_inj}
use native.Mathlib.Omega.{arith}
use lib.ListN.{length}
use borrow.Author.Tests.{eqb-true, eqb-false, eq-eqb, ne_eqb}
use Rattle.model.specs.Lists.{least}
use Rattle.model.specs.Reach.{links_from, links}
use Rattle.model.specs.Orbit.{bit, orbit_words, orbit_place}
use Rattle.model.specs.Meaning.Masks.{powers, Lacks}
use Rattle.theorems.proofs.Lists.Scan.{test, if_eq, searched}
use Rattle.theorems.proofs.Sets.Links.{take_word, skip_word}

-- ---- sums of powers

module _ (k : ℕ) (p : ℕ → Bool) where
  powers_more : p k ≡ true → powers (suc k) p ≡ powers k p + 2 ^ k
  unfolding powers
  powers_more h = rw (h, powers)

  powers_stay : p k ≡ false → powers (suc k) p ≡ powers k p + 0
  unfolding powers
  powers_stay h = rw (h, powers)

powers_same : (k : ℕ) (p q : ℕ → Bool) → ((i : ℕ) → i < k → p i ≡ q i) → powers k p ≡ powers k q
unfolding powers
powers_same zero p q h = refl
powers_same (suc k) p q h =
    let rec = powers_same k p q (λ i l. h i (omega arith)) in
    ap₂ (λ (x : ℕ) (b : Bool). x + elim b [ true ↦ 2 ^ k | false ↦ 0 ]) rec (h k (omega arith))

powers_low : (k : ℕ) (p : ℕ → Bool) → powers k p < 2 ^ k
unfolding powers
powers_low zero p = omega arith
powers_low (suc k) p =
    let rec = powers_low k p in
    let double = pow-suc 2 k in
    test (p k) (λ h. rw (powers_more k p h) (omega arith)) (λ h. rw (powers_stay k p h) (omega arith))

-- a sum has one form
powers_one : (k : ℕ) (p q : ℕ → Bool) → powers k p ≡ powers k q → (i : ℕ) → i < k → p i ≡ q i
powers_one zero p q h i l = absurd (omega arith)
powers_one (suc k) p q h i l =
    let rec : powers k p ≡ powers k q → i ≢ k → p i ≡ q i = λ e o. powers_one k p q e i (omega arith) in
    let a = powers_low k p in
    let b = powers_low k q in
    let at : powers k p ≡ powers k q → p k ≡ q k → p i ≡ q i = λ e s. if_eq i k (λ o. ap p o ∙ s ∙ sym (ap q o)) (rec e) in
    test (p k)
    (λ x. let u = powers_more k p x in
    test (q k) (λ y. let v = powers_more k q y in at (omega arith) (x ∙ sym y))
    (λ y. let v = powers_stay k q y in absurd (omega arith)))
    (λ x. let u = powers_stay k p x in
    test (q k) (λ y. let v = powers_more k q y in absurd (omega arith))
    (λ y. let v = powers_stay k q y in at (omega arith) (x ∙ sym y)))

-- ---- the bits of a mask

bit_set : (mask k : ℕ) → bit mask k ≡ true → mask / 2 ^ k % 2 ≡ 1
unfolding bit
bit_set mask k h = eqb-true _ 1 h

bit_clear : (mask k : ℕ) → bit mask k ≡ false → mask / 2 ^ k % 2 ≡ 0
unfolding bit
bit_clear mask k h = let other = eqb-false (mask / 2 ^ k % 2) 1 h in omega arith

-- one bit more
mod_double : (mask k : ℕ) → mask % 2 ^ suc k ≡ mask % 2 ^ k + 2 ^ k * (mask / 2 ^ k % 2)
mod_double mask k =
    let m = 2 ^ k in
    let q = mask / m in
    let whole = div-add-mod mask m in
    let halves = div-add-mod mask (m * 2) in
    let quotient = ap (λ (x : ℕ). m * 2 * x) (div-div-eq-div-mul mask m 2) in
    let split = ap (λ (x : ℕ). m * x) (div-add-mod q 2) in
    let parts = mul-add m (2 * (q / 2)) (q % 2) in
    let twice = mul_assoc m 2 (q / 2) in
    rw (pow-suc 2 k) (omega arith)

mask_powers : (k mask : ℕ) → mask % 2 ^ k ≡ powers k (bit mask)
unfolding powers
mask_powers zero mask = mod-one mask
mask_powers (suc k) mask =
    let rec = mask_powers k mask in
    let double = mod_double mask k in
    test (bit mask k)
    (λ h. let one = ap (λ (x : ℕ). 2 ^ k * x) (bit_set mask k h) in let sum = powers_more k (bit mask) h in omega arith)
    (λ h. let none = ap (λ (x : ℕ). 2 ^ k * x) (bit_clear mask k h) in let sum = powers_stay k (bit mask) h in omega arith)

-- a mask of k bits is the sum of the powers that pass exactly if those are its bits
pub bit_exactly : (k mask : ℕ) (p : ℕ → Bool) → mask < 2 ^ k → (mask ≡ powers k p) ↔ ((i : ℕ) → i < k → bit mask i ≡ p i)
bit_exactly k mask p low =
    let is = sym (mod-eq_of_lt low) ∙ mask_powers k mask in (
      λ h. powers_one k (bit mask) p (sym is ∙ h),
      λ h. is ∙ powers_same k (bit mask) p h,
    )

-- masks with the same bits are equal
pub bits_one : (k mask other : ℕ) → mask < 2 ^ k → other < 2 ^ k → ((i : ℕ) → i < k → bit mask i ≡ bit other i) → mask ≡ other
bits_one k mask other low low' h =
    (bit_exactly k mask (bit other) low).1 h ∙ sym ((bit_exactly k other (bit other) low').1 (λ i l. refl))

-- ---- the index that a mask lacks

module _ (p : ℕ → Bool) where
  many : ℕ → ℕ → ℕ
  many k a = length (links_from k a p)

  many_more : (k a : ℕ) → p a ≡ true → many (suc k) a ≡ suc (many k (suc a))
  unfolding many
  many_more k a h = ap length (take_word p k a h)

  many_stay : (k a : ℕ) → p a ≡ false → many (suc k) a ≡ many k (suc a)
  unfolding many
  many_stay k a h = ap length (skip_word p k a h)

  many_few : (k a : ℕ) → many k a ≤ k
  unfolding many links_from
  many_few zero a = omega arith
  many_few (suc k) a =
      let rec = many_few k (suc a) in
      test (p a) (λ h. let e = many_more k a h in omega arith) (λ h. let e = many_stay k a h in omega arith)

  many_all : (k a : ℕ) → many k a ≡ k → (i : ℕ) → a ≤ i → i < a + k → p i ≡ true
  many_all zero a h i l u = absurd (omega arith)
  many_all (suc k) a h i l u =
      let few = many_few k (suc a) in
      let rec = many_all k (suc a) in
      test (p a)
      (λ x. let e = many_more k a x in if_eq i a (λ q. ap p q ∙ x) (λ q. rec (omega arith) i (omega arith) (omega arith)))
      (λ x. let e = many_stay k a x in absurd (omega arith))

  all_many : (k a : ℕ) → ((i : ℕ) → a ≤ i → i < a + k → p i ≡ true) → many k a ≡ k
  unfolding many links_from
  all_many zero a h = refl
  all_many (suc k) a h =
      many_more k a (h a (omega arith) (omega arith)) ∙ ap suc (all_many k (suc a) (λ i l u. h i (omega arith) (omega arith)))

  -- of the k numbers from a on all but i pass
  record But (k a i : ℕ) : Type 0 where
    low : a ≤ i
    high : i < a + k
    fails : p i ≡ false
    others : (j : ℕ) → a ≤ j → j < a + k → j ≢ i → p j ≡ true

  many_but : (k a : ℕ) → suc (many k a) ≡ k → (i : ℕ) × But k a i
  many_but zero a h = absurd (omega arith)
  many_but (suc k) a h =
      let rec = many_but k (suc a) in
      test (p a)
      (λ x. let e = many_more k a x in
      let (i, b) = rec (omega arith) in
      let low = b.low in
      let high = b.high in (
        i,
        record {
          low = omega arith;
          high = omega arith;
          fails = b.fails;
          others = λ j l u o. if_eq j a (λ q. ap p q ∙ x) (λ q. b.others j (omega arith) (omega arith) o);
        },
      ))
      (λ x. let e = many_stay k a x in (
        a,
        record {
          low = omega arith;
          high = omega arith;
          fails = x;
          others = λ j l u o. many_all k (suc a) (omega arith) j (omega arith) (omega arith);
        },
      ))

  but_many : (k a i : ℕ) → But k a i → suc (many k a) ≡ k
  but_many zero a i b = let l = b.low in let h = b.high in absurd (omega arith)
  but_many (suc k) a i b =
      let l = b.low in
      let h = b.high in
      let rec : a ≢ i → suc (many k (suc a)) ≡ k = λ q. but_many k (suc a) i (record {
        low = omega arith;
        high = omega arith;
        fails = b.fails;
        others = λ j l u. b.others j (omega arith) (omega arith);
      }) in
      if_eq a i
      (λ q. let all = all_many k (suc a) (λ j l u. b.others j (omega arith) (omega arith) (λ r. omega arith)) in
      ap suc (many_stay k a (ap p q ∙ b.fails) ∙ all))
      (λ q. ap suc (many_more k a (b.others a (omega arith) (omega arith) q) ∙ rec q))

module _ (n mask : ℕ) where
  place_some : length (orbit_words n mask) ≡ n → orbit_place n mask ≡ suc (least (suc n) (λ i. not (bit mask i)))
  unfolding orbit_place
  place_some h = rw (eq-eqb (length (orbit_words n mask)) n h, orbit_place)

  place_none : length (orbit_words n mask) ≢ n → orbit_place n mask ≡ 0
  unfolding orbit_place
  place_none h = rw (ne_eqb (length (orbit_words n mask)) n h, orbit_place)

  lacks_but : (i : ℕ) → Lacks n mask i → But (bit mask) (suc n) 0 i
  lacks_but i w = let l = w.index in record {
    low = omega arith;
    high = omega arith;
    fails = w.missing;
    others = λ j l u. w.others j (omega arith);
  }

  but_lacks : (i : ℕ) → But (bit mask) (suc n) 0 i → Lacks n mask i
  but_lacks i b = let h = b.high in record {
    index = omega arith;
    missing = b.fails;
    others = λ j l. b.others j (omega arith) (omega arith);
  }

  lacks_least : (i : ℕ) → Lacks n mask i → i ≡ least (suc n) (λ i. not (bit mask i))
  lacks_least i w = let l = w.index in
      searched (λ i. not (bit mask i)) (suc n) i (omega arith)
      (λ j l. rw (w.others j (omega arith) (λ q. omega arith))) (λ l. rw w.missing)

  lacks_place : (i : ℕ) → Lacks n mask i → orbit_place n mask ≡ suc i
  unfolding many orbit_words links
  lacks_place i w =
      let size : suc (length (orbit_words n mask)) ≡ suc n = but_many (bit mask) (suc n) 0 i (lacks_but i w) in
      place_some (suc_inj size) ∙ ap suc (sym (lacks_least i w))

  place_lacks : orbit_place n mask ≢ 0 → (i : ℕ) × Lacks n mask i
  unfolding many orbit_words links
  place_lacks h = if_eq (length (orbit_words n mask)) n
      (λ q. let (i, b) = many_but (bit mask) (suc n) 0 (ap suc q) in (i, but_lacks i b))
      (λ q. absurd (h (place_none q)))

  -- "If the mask has exactly n ones, the place is 1 + the missing index, else 0."
  pub orbit_place_exactly : (i : ℕ) → (orbit_place n mask ≡ suc i) ↔ Lacks n mask i
  orbit_place_exactly i = (
    λ h.
        let (k, w) = place_lacks (λ q. omega arith) in
        let same : k ≡ i = suc_inj (sym (lacks_place k w) ∙ h) in
        rw same at w,
    lacks_place i,
  )

  pub orbit_place_none : (orbit_place n mask ≡ 0) ↔ ((i : ℕ) → Lacks n mask i → ⊥)
  orbit_place_none = (
    λ h i w. let e = lacks_place i w in omega arith,
    λ h. if_eq (orbit_place n mask) 0 (λ q. q) (λ q. let (i, w) = place_lacks q in absurd (h i w)),
  )
