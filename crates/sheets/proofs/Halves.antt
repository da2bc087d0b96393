-- The first places of a cell, those that a sheet holds from one of its darts on, as the rows of the numbering have them: seen from one
-- of them they are the same places (`half_half`, `half_back`), link n of each leads to a first place of the dart over its side's first
-- place (`half_over`), and the steps of a sheet within a cell lead to first places (`half_along`, `half_across`, `half_beside`). How
-- the code works out the sides' first places: `start_order`, `start_vertex`, `start_is`.
use Prim.Native.Nat.{ℕ, ◌*◌, ◌-◌, ◌/◌, ◌%◌, ◌^◌, ◌≤◌, ◌<◌}
use mathlib.Core.Path.{◌≡◌, refl, sym, ap, ◌∙◌}
use mathlib.Core.Logic.{◌≢◌}
use mathlib.Core.Bool.{Bool, true, not, ◌&&◌}
use mathlib.Core.List.{List, [], ◌∷◌}
use native.Mathlib.Omega.{arith}
use lib.Dec.{eqb, ltb}
use borrow.Author.Tests.{eqb-true, ltb-true, ne_eqb, not-true, not-false}
use Rattle.model.specs.Lists.{all_below}
use Rattle.model.specs.Table.{link, walk, live}
use Rattle.model.specs.Cell.{cell_size}
use Rattle.model.specs.Numbering.{corners}
use Rattle.model.specs.Everything.{everything}
use Rattle.model.specs.Meaning.Maps.{Dim, BlockTable}
use Rattle.model.specs.Meaning.Places.{path, place}
use Rattle.model.specs.Meaning.Sheets.{half}
use Rattle.theorems.proofs.Lists.Scan.{test, clash, and_l, and_r, below_at, below_both, below_not}
use Rattle.theorems.proofs.Maps.Dim.{two_cases}
use Rattle.theorems.proofs.Maps.Tables.{map_table}
use Rattle.theorems.proofs.Cells.Rows.{small, row_walk, walk_rows, path_small}
use Rattle.theorems.proofs.Cells.Cell.{word_place}
use Rattle.theorems.proofs.Cells.Chart.{place_chart, place_zero, place_live}
use Rattle.theorems.proofs.Layers.Half.{half_size}
use Rattle.theorems.proofs.Layers.Near.{Near, none, more, near_link}
use Rattle.numbering.specs.Orders.{orders, place_of}
use Rattle.sheets.specs.Spread.{sides, side_start}

-- ---- the rows, computed

-- from the first place p the path to the first place q leads to a first place
in_half : ℕ → ℕ → ℕ → Bool
in_half n p q = ltb (row_walk n (path n q) p) (half n)

-- from the first place p the path to no first place leads to the place 0
none_back : ℕ → ℕ → Bool
none_back n p = all_below (half n) (λ q. not (eqb (row_walk n (path n q) p) 0))

-- by links 0..n-2 the path to the first place q leads to the place p from the first place of the j-th side
from_side : ℕ → ℕ → ℕ → ℕ → Bool
from_side n p j q = small (n - 1) (path n q) && eqb (row_walk n (path n q) (side_start n j)) p

none_from : ℕ → ℕ → Bool
none_from n p = all_below (sides n) (λ j. all_below (half n) (λ q. not (from_side n p j q)))

in_halves : (n : ℕ) → Dim n → all_below (half n) (λ p. all_below (half n) (in_half n p)) ≡ true
unfolding everything half path small row_walk in_half
in_halves n dim = two_cases n dim (λ n. all_below (half n) (λ p. all_below (half n) (in_half n p)) ≡ true) refl refl

backs : (n : ℕ) → Dim n → all_below (half n) (λ p. not (none_back n p)) ≡ true
unfolding everything half path small row_walk none_back
backs n dim = two_cases n dim (λ n. all_below (half n) (λ p. not (none_back n p)) ≡ true) refl refl

froms : (n : ℕ) → Dim n → all_below (half n) (λ p. not (none_from n p)) ≡ true
unfolding everything half path small row_walk from_side none_from side_start place_of
froms n dim = two_cases n dim (λ n. all_below (half n) (λ p. not (none_from n p)) ≡ true) refl refl

starts : (n : ℕ) → Dim n → all_below (sides n) (λ j. ltb (side_start n j) (half n)) ≡ true
unfolding everything half side_start place_of
starts n dim = two_cases n dim (λ n. all_below (sides n) (λ j. ltb (side_start n j) (half n)) ≡ true) refl refl

pub start_low : (n : ℕ) → Dim n → (j : ℕ) → j < sides n → side_start n j < half n
start_low n dim j h = ltb-true _ _ (below_at (λ j. ltb (side_start n j) (half n)) (sides n) (starts n dim) j h)

-- the steps of a sheet within a cell are words of the cell's links, and lead to first places
steps_in : ℕ → List ℕ → Bool
steps_in n w = small n w && ltb (row_walk n w 0) (half n)

steps_in_lem : (n : ℕ) → Dim n → (steps_in n (0 ∷ []) ≡ true) × (steps_in n (1 ∷ 0 ∷ 1 ∷ []) ≡ true)
unfolding everything half small row_walk steps_in
steps_in_lem n dim =
    two_cases n dim (λ n. (steps_in n (0 ∷ []) ≡ true) × (steps_in n (1 ∷ 0 ∷ 1 ∷ []) ≡ true)) (refl, refl) (refl, refl)

step_beside : steps_in 3 (2 ∷ []) ≡ true
unfolding everything half small row_walk steps_in
step_beside = refl

-- how the code works them out
start_row : ℕ → ℕ → Bool
start_row n j =
    ltb (j / 2) (orders n) && (ltb (j % 2 * 2 ^ (n - 1 - j / 2) % 4294967296) (corners n)
    && eqb (place_of n (j / 2) (j % 2 * 2 ^ (n - 1 - j / 2) % 4294967296)) (side_start n j))

start_rows : (n : ℕ) → Dim n → all_below (sides n) (start_row n) ≡ true
unfolding everything start_row side_start place_of orders
start_rows n dim = two_cases n dim (λ n. all_below (sides n) (start_row n) ≡ true) refl refl

module _ (n : ℕ) (dim : Dim n) (j : ℕ) (low : j < sides n) where
  abbrev vertex : ℕ
  vertex = j % 2 * 2 ^ (n - 1 - j / 2) % 4294967296

  start_row_lem : start_row n j ≡ true
  start_row_lem = below_at (start_row n) (sides n) (start_rows n dim) j low

  pub start_order : j / 2 < orders n
  unfolding start_row
  start_order = ltb-true _ _ (and_l (ltb (j / 2) (orders n)) _ start_row_lem)

  pub start_vertex : j % 2 * 2 ^ (n - 1 - j / 2) % 4294967296 < corners n
  unfolding start_row
  start_vertex = ltb-true _ _ (and_l (ltb vertex (corners n)) _ (and_r (ltb (j / 2) (orders n)) _ start_row_lem))

  pub start_is : place_of n (j / 2) (j % 2 * 2 ^ (n - 1 - j / 2) % 4294967296) ≡ side_start n j
  unfolding start_row
  start_is = eqb-true _ _ (and_r (ltb vertex (corners n)) _ (and_r (ltb (j / 2) (orders n)) _ start_row_lem))

module _ (n : ℕ) where
  pub half_solid : n ≡ 3 → half n ≡ 16
  unfolding half
  half_solid e = rw e

  pub half_flat : n ≢ 3 → half n ≡ 4
  unfolding half
  half_flat e = rw (ne_eqb n 3 e, half)

  pub half_in : Dim n → half n ≤ cell_size n
  unfolding half cell_size
  half_in dim = two_cases n dim (λ n. half n ≤ cell_size n) (omega arith) (omega arith)

-- ---- a word of links below n - 1

near_of : (n : ℕ) → 2 ≤ n → (w : List ℕ) → small (n - 1) w ≡ true → Near n w
unfolding small
near_of n two [] h = none
near_of n two (i ∷ w) h =
    let rec = near_of n two w in
    test (ltb i (n - 1))
    (λ e. let low = ltb-true i (n - 1) e in more (omega arith) (rec (rw (e, small) at h)))
    (λ e. absurd (clash h (rw (e, small))))

-- ---- among the darts of a block map

module _ {n : ℕ} {t : List ℕ} (B : BlockTable n t) where
  pub size_half : (p : ℕ) → p < half n → p < cell_size n
  size_half p h = half_size n B.dim p h

  module _ (g : ℕ) (l : live t g ≡ true) where
    along_rows : (p q : ℕ) → p < half n → q < half n → walk t (path n q) (place n t g p) ≡ place n t g (row_walk n (path n q) p)
    along_rows p q hp hq =
        walk_rows n t (place n t g) B.dim (place_chart B g l).follow (path n q) p (path_small n q B.dim (size_half q hq))
        (size_half p hp)

    pub half_half : (p q : ℕ) → p < half n → q < half n → (r : ℕ) × (r < half n) × (place n t (place n t g p) q ≡ place n t g r)
    unfolding place in_half
    half_half p q hp hq = (
      row_walk n (path n q) p,
      ltb-true _ _ (below_both (in_half n) (half n) (half n) (in_halves n B.dim) p q hp hq),
      along_rows p q hp hq,
    )

    pub half_back : (p : ℕ) → p < half n → (q : ℕ) × (q < half n) × (place n t (place n t g p) q ≡ g)
    unfolding place none_back
    half_back p hp =
        let found = not-true _ (below_at (λ p. not (none_back n p)) (half n) (backs n B.dim) p hp) in
        let (q, hq, e) = below_not (λ q. not (eqb (row_walk n (path n q) p) 0)) (half n) found in
        let back = eqb-true (row_walk n (path n q) p) 0 (not-false _ e) in
        (q, hq, along_rows p q hp hq ∙ ap (place n t g) back ∙ sym (place_zero B g l))

    pub half_over : (p : ℕ) → p < half n → (j q : ℕ) × (j < sides n) × (q < half n)
        × (link t n (place n t g p) ≡ place n t (link t n (place n t g (side_start n j))) q)
    unfolding place none_from from_side
    half_over p hp =
        let found = not-true _ (below_at (λ p. not (none_from n p)) (half n) (froms n B.dim) p hp) in
        let (j, hj, e) = below_not (λ j. all_below (half n) (λ q. not (from_side n p j q))) (sides n) found in
        let (q, hq, f) = below_not (λ q. not (from_side n p j q)) (half n) e in
        let both = not-false _ f in
        let start = start_low n B.dim j hj in
        let near = near_of n B.dim.0 (path n q) (and_l (small (n - 1) (path n q)) _ both) in
        let to = eqb-true (row_walk n (path n q) (side_start n j)) p (and_r (small (n - 1) (path n q)) _ both) in
        let at = along_rows (side_start n j) q start hq ∙ ap (place n t g) to in (
          j,
          q,
          hj,
          hq,
          ap (link t n) (sym at)
              ∙ sym (near_link B near (place n t g (side_start n j)) (place_live B g (side_start n j) l (size_half _ start))),
        )

    by_step : (w : List ℕ) → steps_in n w ≡ true → (p : ℕ) × (p < half n) × (walk t w g ≡ place n t g p)
    unfolding steps_in
    by_step w h =
        let low = and_l (small n w) _ h in
        (row_walk n w 0, ltb-true _ _ (and_r (small n w) _ h), word_place (map_table B) g l (B.good g l) w low)

    pub half_along : (p : ℕ) × (p < half n) × (link t 0 g ≡ place n t g p)
    unfolding walk
    half_along = by_step (0 ∷ []) (steps_in_lem n B.dim).0

    pub half_across : (p : ℕ) × (p < half n) × (walk t (1 ∷ 0 ∷ 1 ∷ []) g ≡ place n t g p)
    half_across = by_step (1 ∷ 0 ∷ 1 ∷ []) (steps_in_lem n B.dim).1

    pub half_beside : n ≡ 3 → (p : ℕ) × (p < half n) × (link t 2 g ≡ place n t g p)
    unfolding walk
    half_beside e = by_step (2 ∷ []) (ap (λ (k : ℕ). steps_in k (2 ∷ [])) e ∙ step_beside)
