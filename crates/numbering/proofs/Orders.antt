-- The numbering by axis orders and vertices, as the code works it out.
-- Main theorems: `swap_first_three`, `swap_last_three` and `flip_axis` (the model's rows are what is worked out); `order_low`,
-- `vertex_low`, `place_low` and `next_place` (link i leads from a place to a place).
use Prim.Native.Nat.{ℕ, ◌+◌, ◌*◌, ◌-◌, ◌/◌, ◌%◌, ◌^◌, ◌≤◌, ◌<◌}
use mathlib.Core.Path.{◌≡◌, refl}
use mathlib.Core.Logic.{◌≢◌, ⊎_elim}
use mathlib.Core.Bool.{Bool, true, false, not, ◌&&◌, ◌||◌}
use native.Mathlib.Omega.{arith}
use native.Mathlib.Nat.{div-add-mod, mod-lt}
use lib.Bits.{bit_xor}
use lib.Dec.{eqb, ltb}
use borrow.Author.Tests.{eqb-true, eqb-false, ltb-true, ne_eqb, lt-ltb, le-ltb, not-true}
use Rattle.model.specs.Lists.{all_below, all_from}
use Rattle.model.specs.Cell.{cell_size}
use Rattle.model.specs.Numbering.{corners, flip, first_bit, swap_first, swap_last, cell_link}
use Rattle.model.specs.Meaning.Maps.{Dim}
use Rattle.theorems.proofs.Lists.Scan.{test, and_l, and_r, or_cases, below_at, below_both}
use Rattle.theorems.proofs.Maps.Dim.{two_cases}
use Rattle.numbering.specs.Orders.{orders, first_axis, second_axis, order_of, next_order, next_vertex, place_of}

-- ---- axis orders

module _ (n : ℕ) where
  pub corners_solid : n ≡ 3 → corners n ≡ 8
  unfolding corners
  corners_solid e = rw e

  pub corners_flat : n ≢ 3 → corners n ≡ 4
  unfolding corners
  corners_flat e = rw (ne_eqb n 3 e, corners)

  pub orders_solid : n ≡ 3 → orders n ≡ 6
  unfolding orders
  orders_solid e = rw e

  pub orders_flat : n ≢ 3 → orders n ≡ 2
  unfolding orders
  orders_flat e = rw (ne_eqb n 3 e, orders)

  pub orders_few : orders n ≤ 6
  unfolding orders
  orders_few = test (eqb n 3) (λ e. rw (e, orders) (omega arith)) (λ e. rw (e, orders) (omega arith))

  pub orders_some : 0 < orders n
  unfolding orders
  orders_some = test (eqb n 3) (λ e. rw (e, orders) (omega arith)) (λ e. rw (e, orders) (omega arith))

  pub axis_solid : (p : ℕ) → n ≡ 3 → p / 2 ≡ first_axis n p
  unfolding first_axis
  axis_solid p e = rw e

  pub axis_flat : (p : ℕ) → n ≢ 3 → p ≡ first_axis n p
  unfolding first_axis
  axis_flat p e = rw (ne_eqb n 3 e, first_axis)

  pub swap_first_flat : (p : ℕ) → n ≢ 3 → 1 - p ≡ swap_first n p
  unfolding swap_first
  swap_first_flat p e = rw (ne_eqb n 3 e, swap_first)

pub second_lower : (p : ℕ) → p % 2 < p / 2 → p % 2 ≡ second_axis p
unfolding second_axis
second_lower p h = rw (lt-ltb (p % 2) (p / 2) h, second_axis)

pub second_higher : (p : ℕ) → p / 2 ≤ p % 2 → p % 2 + 1 ≡ second_axis p
unfolding second_axis
second_higher p h = rw (le-ltb (p % 2) (p / 2) h, second_axis)

pub order_lower : (a b : ℕ) → b < a → 2 * a + b ≡ order_of a b
unfolding order_of
order_lower a b h = rw (lt-ltb b a h, order_of)

pub order_higher : (a b : ℕ) → a ≤ b → 2 * a + b - 1 ≡ order_of a b
unfolding order_of
order_higher a b h = rw (le-ltb b a h, order_of)

-- of three axes: the second is another axis than the first, and the exchanges are the model's
is_order : ℕ → Bool
is_order p =
    (ltb (second_axis p) 3 && not (eqb (second_axis p) (p / 2)))
    && (eqb (order_of (second_axis p) (p / 2)) (swap_first 3 p) && eqb (bit_xor p 1) (swap_last p))

orders_true : all_below 6 is_order ≡ true
unfolding is_order second_axis order_of swap_first swap_last all_below all_from
orders_true = refl

module _ (p : ℕ) (low : p < 6) where
  is_order_lem : is_order p ≡ true
  is_order_lem = below_at is_order 6 orders_true p low

  axes : (ltb (second_axis p) 3 && not (eqb (second_axis p) (p / 2))) ≡ true
  unfolding is_order
  axes = and_l _ (eqb (order_of (second_axis p) (p / 2)) (swap_first 3 p) && eqb (bit_xor p 1) (swap_last p)) is_order_lem

  swaps : (eqb (order_of (second_axis p) (p / 2)) (swap_first 3 p) && eqb (bit_xor p 1) (swap_last p)) ≡ true
  unfolding is_order
  swaps = and_r (ltb (second_axis p) 3 && not (eqb (second_axis p) (p / 2))) _ is_order_lem

  pub second_low : second_axis p < 3
  second_low = ltb-true _ _ (and_l (ltb (second_axis p) 3) _ axes)

  pub second_other : second_axis p ≢ p / 2
  second_other = eqb-false _ _ (not-true _ (and_r (ltb (second_axis p) 3) _ axes))

  pub swap_first_three : order_of (second_axis p) (p / 2) ≡ swap_first 3 p
  swap_first_three = eqb-true _ _ (and_l (eqb (order_of (second_axis p) (p / 2)) (swap_first 3 p)) _ swaps)

  pub swap_last_three : bit_xor p 1 ≡ swap_last p
  swap_last_three = eqb-true _ _ (and_r (eqb (order_of (second_axis p) (p / 2)) (swap_first 3 p)) _ swaps)

-- ---- links

module _ (n i p : ℕ) where
  pub order_one : i ≡ 1 → swap_first n p ≡ next_order n i p
  unfolding next_order
  order_one e = rw (e, next_order)

  pub order_two : i ≢ 1 → (eqb i 2 && eqb n 3) ≡ true → swap_last p ≡ next_order n i p
  unfolding next_order
  order_two a h = rw (ne_eqb i 1 a, h, next_order)

  pub order_rest : i ≢ 1 → (eqb i 2 && eqb n 3) ≡ false → p ≡ next_order n i p
  unfolding next_order
  order_rest a h = rw (ne_eqb i 1 a, h, next_order)

  pub vertex_zero : (s : ℕ) → i ≡ 0 → flip (first_bit n p) s ≡ next_vertex n i p s
  unfolding next_vertex
  vertex_zero s e = rw (e, next_vertex)

  pub vertex_rest : (s : ℕ) → i ≢ 0 → s ≡ next_vertex n i p s
  unfolding next_vertex
  vertex_rest s e = rw (ne_eqb i 0 e, next_vertex)

-- ---- places

-- the number that has only the bit of the first axis
abbrev pub axis_bit : ℕ → ℕ → ℕ
axis_bit n p = 1 * 2 ^ first_axis n p % 4294967296

-- the exclusive or with the bit of the first axis flips it, and the vertex stays one
flips : ℕ → ℕ → ℕ → Bool
flips n p s = eqb (bit_xor s (axis_bit n p)) (flip (first_bit n p) s) && ltb (flip (first_bit n p) s) (corners n)

-- the first axis has a bit, and the orders with axes exchanged are orders
exchanges : ℕ → ℕ → Bool
exchanges n p = ltb (first_axis n p) 32 && (ltb (swap_first n p) (orders n) && (eqb n 2 || ltb (swap_last p) (orders n)))

module _ (n : ℕ) (dim : Dim n) where
  flips_true : all_below (orders n) (λ p. all_below (corners n) (flips n p)) ≡ true
  unfolding flips orders corners first_axis first_bit flip all_below all_from
  flips_true = two_cases n dim (λ n. all_below (orders n) (λ p. all_below (corners n) (flips n p)) ≡ true) refl refl

  exchanges_true : all_below (orders n) (exchanges n) ≡ true
  unfolding exchanges orders first_axis swap_first swap_last all_below all_from
  exchanges_true = two_cases n dim (λ n. all_below (orders n) (exchanges n) ≡ true) refl refl

  pub size_few : cell_size n ≤ 48
  unfolding cell_size
  size_few = two_cases n dim (λ n. cell_size n ≤ 48) (omega arith) (omega arith)

  pub corners_some : 0 < corners n
  unfolding corners
  corners_some = two_cases n dim (λ n. 0 < corners n) (omega arith) (omega arith)

  pub order_in : (k : ℕ) → k < cell_size n → k / corners n < orders n
  unfolding corners cell_size orders
  order_in k = two_cases n dim (λ n. k < cell_size n → k / corners n < orders n) (λ h. omega arith) (λ h. omega arith)

  pub vertex_in : (k : ℕ) → k % corners n < corners n
  vertex_in k = mod-lt k corners_some

  pub place_is : (k : ℕ) → place_of n (k / corners n) (k % corners n) ≡ k
  unfolding place_of
  place_is k = div-add-mod k (corners n)

  module _ (p : ℕ) (hp : p < orders n) where
    at_order : exchanges n p ≡ true
    at_order = below_at (exchanges n) (orders n) exchanges_true p hp

    pub axis_few : first_axis n p < 32
    unfolding exchanges
    axis_few = ltb-true _ _ (and_l (ltb (first_axis n p) 32) _ at_order)

    pub order_low : (i : ℕ) → next_order n i p < orders n
    unfolding exchanges next_order
    order_low i =
        let later = and_r (ltb (first_axis n p) 32) _ at_order in
        let last = and_r (ltb (swap_first n p) (orders n)) _ later in
        test (eqb i 1) (λ e. rw (e, next_order) (ltb-true _ _ (and_l (ltb (swap_first n p) (orders n)) _ later)))
        (λ e. test (eqb i 2 && eqb n 3)
        (λ f.
        let three = eqb-true n 3 (and_r (eqb i 2) _ f) in
        rw (e, f, next_order) (⊎_elim (λ h. let two = eqb-true n 2 h in omega arith) (ltb-true _ _) (or_cases (eqb n 2) _ last)))
        (λ f. rw (e, f, next_order) hp))

    module _ (s : ℕ) (hs : s < corners n) where
      flipped : flips n p s ≡ true
      flipped = below_both (flips n) (orders n) (corners n) flips_true p s hp hs

      pub flip_axis : bit_xor s (axis_bit n p) ≡ flip (first_bit n p) s
      unfolding flips
      flip_axis = eqb-true _ _ (and_l (eqb (bit_xor s (axis_bit n p)) (flip (first_bit n p) s)) _ flipped)

      pub vertex_low : (i : ℕ) → next_vertex n i p s < corners n
      unfolding flips next_vertex
      vertex_low i = test (eqb i 0)
          (λ e. rw (e, next_vertex) (ltb-true _ _ (and_r (eqb (bit_xor s (axis_bit n p)) (flip (first_bit n p) s)) _ flipped)))
          (λ e. rw (e, next_vertex) hs)

      pub place_low : place_of n p s < cell_size n
      unfolding place_of corners cell_size orders
      place_low =
          two_cases n dim (λ n. p < orders n → s < corners n → place_of n p s < cell_size n) (λ h g. omega arith) (λ h g. omega arith) hp hs

      place_order : place_of n p s / corners n ≡ p
      unfolding place_of corners
      place_order = two_cases n dim (λ n. s < corners n → place_of n p s / corners n ≡ p) (λ g. omega arith) (λ g. omega arith) hs

      place_vertex : place_of n p s % corners n ≡ s
      unfolding place_of corners
      place_vertex = two_cases n dim (λ n. s < corners n → place_of n p s % corners n ≡ s) (λ g. omega arith) (λ g. omega arith) hs

      next_zero : place_of n (next_order n 0 p) (next_vertex n 0 p s) ≡ cell_link n 0 (place_of n p s)
      unfolding cell_link next_order next_vertex place_of
      next_zero = rw (place_order, place_vertex)

      -- link i leads to a place
      pub next_place : (i : ℕ) → place_of n (next_order n i p) (next_vertex n i p s) ≡ cell_link n i (place_of n p s)
      unfolding cell_link next_order next_vertex place_of
      next_place i =
          test (eqb i 0)
          (λ e. rw (eqb-true i 0 e) next_zero)
          (λ e. test (eqb i 1)
          (λ f. rw (e, f, place_order, place_vertex, cell_link, next_order, next_vertex))
          (λ f. test (eqb i 2 && eqb n 3)
          (λ g. rw (e, f, g, place_order, place_vertex, cell_link, next_order, next_vertex))
          (λ g. rw (e, f, g, cell_link, next_order, next_vertex))))
