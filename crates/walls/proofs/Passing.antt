-- A test of each number of a list, as `all` gives it: `tested`, `tested_on`. The darts of a wall in a slice: `listed_marked`, `listed_at`,
-- `listed_first`. Words that
-- are 0: `zeros_front`.
use Prim.Native.Nat.{ℕ, ◌≤◌, ◌<◌}
use mathlib.Core.Path.{◌≡◌, sym, ap, ◌∙◌, subst}
use mathlib.Core.Bool.{Bool, true, false}
use mathlib.Core.List.{List, Memᴰ as In}
use native.Mathlib.Omega.{arith}
use lib.ListN.{length, get_or, take, replicate, length-replicate, get_or-replicate}
use lib.Seq.{get_or-take, length-take-le, ext_get_or}
use Rattle.std.specs.Bool.{MatchBool}
use Rattle.std.specs.List.{AllWithin, HoldsAt}
use Rattle.model.specs.Lists.{ones, index_of, all_of}
use Rattle.model.specs.Meaning.Sets.{Marked}
use Rattle.theorems.proofs.Lists.Scan.{test, clash}
use Rattle.theorems.proofs.Lists.Ones.{get_or_in, index_in, get_or_index, ones_of, ones_in, each_at, each_of}

module _ (p : ℕ → Bool) (xs : List ℕ) where
  pub tested : (r : Bool) → MatchBool r (AllWithin (λ x. p x ≡ true) xs 0 (length xs)) ((k : ℕ) × (k < length xs) × HoldsAt (λ x. p x ≡ false) xs k)
      → r ≡ all_of p xs
  tested true all = sym (each_of p xs (λ x i.
      subst (λ y. p y ≡ true) (get_or_index xs x 0 i) (all (index_of x xs) 0 (omega arith) (index_in xs x i))))
  tested false (k, low, fails) = test (all_of p xs)
      (λ e. absurd (clash (each_at p xs e (get_or xs k 0) (get_or_in xs k 0 low)) (fails 0))) sym

-- the same where W holds of each number, and what is known of a test asks for it
module _ (p : ℕ → Bool) (xs : List ℕ) {W : ℕ → Type 0} (each : (x : ℕ) → In x xs → W x) where
  pub tested_on : (r : Bool)
      → MatchBool r (AllWithin (λ x. W x → p x ≡ true) xs 0 (length xs)) ((k : ℕ) × (k < length xs) × HoldsAt (λ x. W x → p x ≡ false) xs k)
      → r ≡ all_of p xs
  tested_on true all = sym (each_of p xs (λ x i.
      subst (λ y. W y → p y ≡ true) (get_or_index xs x 0 i) (all (index_of x xs) 0 (omega arith) (index_in xs x i)) (each x i)))
  tested_on false (k, low, fails) =
      let there = get_or_in xs k 0 low in
      test (all_of p xs) (λ e. absurd (clash (each_at p xs e (get_or xs k 0) there) (fails 0 (each _ there)))) sym

-- ---- the darts of a wall

module _ (m hs : List ℕ) (L : hs ≡ ones m) where
  pub listed_marked : (h : ℕ) → In h hs → Marked m h
  listed_marked h i = ones_of m h (subst (In h) L i)

  -- each dart has its place
  pub listed_at : (h : ℕ) → Marked m h → (k : ℕ) × (k < length hs) × (get_or hs k 0 ≡ h)
  listed_at h i =
      let there = subst (In h) (sym L) (ones_in m h i) in
      (index_of h hs, index_in hs h there, get_or_index hs h 0 there)

-- the first of them, where they are the first words of a longer slice
pub listed_first : (m queue : List ℕ) (size : ℕ) → take size queue ≡ ones m → size ≡ length (ones m) → 0 < length (ones m)
    → get_or queue 0 0 ≡ get_or (ones m) 0 0
listed_first m queue size front number some = sym (get_or-take size queue 0 0 (omega arith)) ∙ ap (λ (l : List ℕ). get_or l 0 0) front

-- ---- words that are 0

pub zeros_front : (k : ℕ) (l : List ℕ) → k ≤ length l → ((x : ℕ) → x < k → get_or l x 0 ≡ 0) → take k l ≡ replicate k 0
zeros_front k l room clear =
    let long = length-take-le k l room in
    ext_get_or 0 (take k l) (replicate k 0) (long ∙ sym (length-replicate k 0)) (λ x low.
    let inside : x < k = omega arith in
    get_or-take k l x 0 inside ∙ clear x inside ∙ sym (get_or-replicate k x 0 0 inside))
