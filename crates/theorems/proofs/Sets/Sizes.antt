-- Sizes of sets of slots: a map of one set to another compares them.
-- `size_into`: by a one-to-one map; `size_onto`: by one that meets each slot. `size_within`: a set within another that is no larger has
-- all of it. `length_ones`: the places of the ones are as many, and no more than the slots (`ones_few`).
use Prim.Native.Nat.{ℕ, suc, ◌≤◌}
use mathlib.Core.Path.{◌≡◌, refl, sym, ap, ◌∙◌}
use mathlib.Core.Logic.{◌≢◌}
use mathlib.Core.Bool.{Bool, true, false}
use mathlib.Core.List.Memᴰ.{head as here}
use mathlib.Core.List.Memᴰ.{tail as there}
use mathlib.Core.List.{List, [], ◌∷◌, map, Memᴰ as In}
use mathlib.Core.List.Memᴰ.{cast as in-cast}
use mathlib.Core.List.Memᴰ.{map as in_map}
use native.Mathlib.Omega.{arith}
use lib.ListN.{length, get_or, set, length-map}
use lib.Seq.{get_or-set_other}
use lib.Dec.{eqb}
use Rattle.model.specs.Lists.{count, ones_from, ones}
use Rattle.model.specs.Meaning.Lists.{Distinct, more}
use Rattle.model.specs.Meaning.Sets.{Marked}
use Rattle.theorems.proofs.Lists.Scan.{if_eq}
use Rattle.theorems.proofs.Lists.Ones.{ones_of, ones_in, ones_distinct}
use Rattle.theorems.proofs.Sets.Pigeon.{count_most, count_drop, cover}

pub length_ones : (s : List ℕ) (a : ℕ) → length (ones_from a s) ≡ count 1 s
unfolding ones_from count
length_ones [] a = refl
length_ones (y ∷ s) a = go (length_ones s (suc a)) (eqb y 1)
  where
    go : length (ones_from (suc a) s) ≡ count 1 s → (b : Bool)
        → length {A = ℕ} (elim b [ true ↦ a ∷ ones_from (suc a) s | false ↦ ones_from (suc a) s ])
        ≡ elim b [ true ↦ suc (count 1 s) | false ↦ count 1 s ]
    go rec true = ap suc rec
    go rec false = rec

pub ones_few : (s : List ℕ) (a : ℕ) → length (ones_from a s) ≤ length s
ones_few s a = rw (length_ones s a) (count_most s)

module _ (f : ℕ → ℕ) where
  -- distinct slots that f takes one-to-one into a set are at most as many as it has
  distinct_into : (l r : List ℕ) → Distinct l → ((x y : ℕ) → In x l → In y l → f x ≡ f y → x ≡ y)
      → ((x : ℕ) → In x l → Marked r (f x)) → length l ≤ count 1 r
  distinct_into [] r d one into = omega arith
  distinct_into (z ∷ l) r (more out d) one into =
      let apart : (x : ℕ) → In x l → f x ≢ f z = λ x i e. out (in-cast (one z x (here refl) (there i) (sym e)) i) in
      let rec = distinct_into l (set r (f z) 0) d (λ x y i j. one x y (there i) (there j))
      (λ x i. get_or-set_other r (f z) (f x) 0 0 (apart x i) ∙ into x (there i)) in
      let c = count_drop r (f z) (into z (here refl)) in
      omega arith

  module _ (s r : List ℕ) where
    pub size_into : ((x y : ℕ) → Marked s x → Marked s y → f x ≡ f y → x ≡ y) → ((x : ℕ) → Marked s x → Marked r (f x))
        → count 1 s ≤ count 1 r
    size_into one into = rw (length_ones s 0) at (distinct_into (ones s) r (ones_distinct s 0)
        (λ x y i j. one x y (ones_of s x i) (ones_of s y j)) (λ x i. into x (ones_of s x i)))

    pub size_onto : ((y : ℕ) → Marked r y → (x : ℕ) × Marked s x × (f x ≡ y)) → count 1 r ≤ count 1 s
    size_onto onto =
        let all : (y : ℕ) → Marked r y → In y (map f (ones s))
        = λ y h. let x = onto y h in in-cast (sym x.2) (in_map f (ones_in s x.0 x.1)) in
        rw (length-map (ones s) f, length_ones s 0) at (cover (map f (ones s)) r all)

-- a set within another that is no larger has all of it
pub size_within : (r s : List ℕ) → ((x : ℕ) → Marked r x → Marked s x) → count 1 s ≤ count 1 r → (x : ℕ) → Marked s x → Marked r x
size_within r s within few x i = if_eq (get_or r x 0) 1 (λ e. e) (λ out.
    let one = count_drop s x i in
    let most = size_into (λ y. y) r (set s x 0) (λ y z _ _ e. e)
    (λ y k. get_or-set_other s x y 0 0 (λ e. out (ap (λ (z : ℕ). get_or r z 0) (sym e) ∙ k)) ∙ within y k) in
    absurd (omega arith))
