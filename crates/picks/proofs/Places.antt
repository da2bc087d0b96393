-- The first places of a cell, as they enter the queue: a side's darts are four in a row (`first_side`, `far_side`), link 2 leads from the
-- first eight to the next (`beside_places`).
use Prim.Native.Nat.{ℕ, ◌+◌, ◌<◌}
use mathlib.Core.Path.{◌≡◌, refl, sym, ap, ◌∙◌}
use mathlib.Core.Bool.{Bool, true, ◌&&◌}
use mathlib.Core.List.{List, [], ◌∷◌}
use native.Mathlib.Omega.{arith}
use lib.Dec.{eqb, ltb}
use borrow.Author.Tests.{eqb-true, ltb-true}
use Rattle.model.specs.Lists.{all_below}
use Rattle.model.specs.Table.{link, walk}
use Rattle.model.specs.Cell.{cell_size}
use Rattle.model.specs.Numbering.{cell_link}
use Rattle.model.specs.Everything.{everything}
use Rattle.model.specs.Meaning.Maps.{Dim}
use Rattle.model.specs.Meaning.Places.{place}
use Rattle.model.specs.Meaning.Sheets.{BlockDart, half}
use Rattle.theorems.proofs.Lists.Scan.{and_l, and_r, below_four, below_at}
use Rattle.theorems.proofs.Maps.Dim.{two_cases}
use Rattle.theorems.proofs.Maps.Tables.{map_table}
use Rattle.theorems.proofs.Cells.Rows.{small, row_walk, walk_rows}
use Rattle.theorems.proofs.Cells.Cell.{word_place}
use Rattle.theorems.proofs.Cells.Chart.{place_chart, place_zero, place_live}
use Rattle.sheets.proofs.Halves.{size_half}
use Rattle.picks.specs.Enter.{across, side_at}

-- ---- the rows, computed

abbrev across_word : List ℕ
across_word = 1 ∷ 0 ∷ 1 ∷ []

-- link 2, the opposite edge, link 2
abbrev far_word : List ℕ
far_word = 2 ∷ 1 ∷ 0 ∷ 1 ∷ 2 ∷ []

-- from the place k the side's places are k, k + 1, k + 2 and k + 3
side_row : ℕ → ℕ → Bool
side_row n k = ltb (k + 2) (cell_size n) && (eqb (cell_link n 0 k) (k + 1) && (eqb (row_walk n across_word k) (k + 2) && eqb (cell_link n 0 (k + 2)) (k + 3)))

first_row : (n : ℕ) → Dim n → side_row n 0 ≡ true
unfolding everything side_row row_walk
first_row n dim = two_cases n dim (λ n. side_row n 0 ≡ true) refl refl

far_row : side_row 3 4 ≡ true
unfolding everything side_row row_walk
far_row = refl

across_small : (n : ℕ) → Dim n → small n across_word ≡ true
unfolding everything small
across_small n dim = two_cases n dim (λ n. small n across_word ≡ true) refl refl

far_word_lem : (small 3 far_word ≡ true) × (row_walk 3 far_word 0 ≡ 4)
unfolding everything small row_walk
far_word_lem = (refl, refl)

beside_rows : all_below 8 (λ j. eqb (cell_link 3 2 j) (8 + j)) ≡ true
unfolding everything
beside_rows = refl

-- ---- the darts there

module _ {n : ℕ} {t : List ℕ} {g : ℕ} (G : BlockDart n t g) where
  abbrev at : ℕ → ℕ
  at = place n t g

  -- a first place is a dart
  pub place_dart : (k : ℕ) → k < half n → BlockDart n t (place n t g k)
  place_dart k h = record { table = G.table; lives = place_live G.table g k G.lives (size_half G.table k h) }

  follow : (j k : ℕ) → j < n → k < cell_size n → link t j (at k) ≡ at (cell_link n j k)
  follow = (place_chart G.table g G.lives).follow

  side_places : (k : ℕ) → side_row n k ≡ true → (j : ℕ) → j < 4 → at (k + j) ≡ side_at t (at k) j
  unfolding side_row
  side_places k row = below_four (λ j. at (k + j) ≡ side_at t (at k) j) (ap at (omega arith)) (sym second) (sym third)
      (sym (ap (link t 0) third ∙ follow 0 (k + 2) some inside ∙ ap at (eqb-true _ _ (and_r (eqb (row_walk n across_word k) (k + 2)) _ behind))))
    where
      some : 0 < n
      some = let two = G.table.dim.0 in omega arith

      inside : k + 2 < cell_size n
      inside = ltb-true _ _ (and_l (ltb (k + 2) (cell_size n)) _ row)

      low : k < cell_size n
      low = omega (arith, inside)

      rest : (eqb (cell_link n 0 k) (k + 1) && (eqb (row_walk n across_word k) (k + 2) && eqb (cell_link n 0 (k + 2)) (k + 3))) ≡ true
      rest = and_r (ltb (k + 2) (cell_size n)) _ row

      behind : (eqb (row_walk n across_word k) (k + 2) && eqb (cell_link n 0 (k + 2)) (k + 3)) ≡ true
      behind = and_r (eqb (cell_link n 0 k) (k + 1)) _ rest

      second : link t 0 (at k) ≡ at (k + 1)
      second = follow 0 k some low ∙ ap at (eqb-true _ _ (and_l (eqb (cell_link n 0 k) (k + 1)) _ rest))

      third : across t (at k) ≡ at (k + 2)
      third =
          walk_rows n t at G.table.dim follow across_word k (across_small n G.table.dim) low
          ∙ ap at (eqb-true _ _ (and_l (eqb (row_walk n across_word k) (k + 2)) _ behind))

  pub first_side : (j : ℕ) → j < 4 → place n t g j ≡ side_at t g j
  first_side j h =
      let same : j ≡ 0 + j = omega arith in
      ap at same ∙ side_places 0 (first_row n G.table.dim) j h
      ∙ ap (λ (x : ℕ). side_at t x j) (sym (place_zero G.table g G.lives))

  module _ (three : n ≡ 3) where
    far_place : link t 2 (across t (link t 2 g)) ≡ at 4
    unfolding walk
    far_place =
        let (low, to) = far_word_lem in
        word_place (map_table G.table) g G.lives (G.table.good g G.lives) far_word (rw three low)
        ∙ ap at (ap (λ (k : ℕ). row_walk k far_word 0) three ∙ to)

    pub far_side : (j : ℕ) → j < 4 → place n t g (4 + j) ≡ side_at t (link t 2 (across t (link t 2 g))) j
    far_side j h = side_places 4 (rw three far_row) j h ∙ ap (λ (x : ℕ). side_at t x j) (sym far_place)

    pub beside_places : (j : ℕ) → j < 8 → place n t g (8 + j) ≡ link t 2 (place n t g j)
    unfolding cell_size
    beside_places j h =
        let row : cell_link 3 2 j ≡ 8 + j = eqb-true _ _ (below_at (λ j. eqb (cell_link 3 2 j) (8 + j)) 8 beside_rows j h) in
        let low : j < cell_size n = rw three (omega arith) in
        sym (follow 2 j (omega arith) low ∙ ap at (ap (λ (k : ℕ). cell_link k 2 j) three ∙ row))
