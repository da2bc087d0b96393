-- How a sheet meets a cell: where 13 is not given, in no dart or in exactly 4 (n = 2) or 16 (n = 3) (sheet_share);
-- 13 is given exactly if it meets some cell in more (crosses_share).
use Prim.Native.Nat.{ℕ, ◌≤◌, ◌<◌}
use mathlib.Core.Path.{◌≡◌, sym, ap, ◌∙◌}
use mathlib.Core.Logic.{◌⊎◌, inl, inr, ◌↔◌, ⊎_elim}
use mathlib.Core.Bool.{true, false, ◌&&◌}
use mathlib.Core.List.Memᴰ.{cases_cons as in-cons}
use mathlib.Core.List.Memᴰ.{cast as in-cast}
use mathlib.Core.List.{List, ◌∷◌, Memᴰ as In}
use native.Mathlib.Omega.{arith}
use lib.ListN.{length}
use borrow.Author.Tests.{eqb-true, eq-eqb}
use Rattle.model.specs.Lists.{ones, tabulate_from}
use Rattle.model.specs.Table.{slots, link, live}
use Rattle.model.specs.Reach.{in_set}
use Rattle.model.specs.Cell.{cell_size, cell_of}
use Rattle.model.specs.Numbering.{cell_link}
use Rattle.model.specs.Sheet.{sheet}
use Rattle.model.specs.Split.{crosses}
use Rattle.model.specs.Everything.{everything}
use Rattle.model.specs.Meaning.Lists.{Distinct, more}
use Rattle.model.specs.Meaning.Maps.{Dim, MapTable, BlockTable}
use Rattle.model.specs.Meaning.Places.{place, Chart}
use Rattle.model.specs.Meaning.Sets.{Marked}
use Rattle.model.specs.Meaning.Sheets.{BlockDart, shared, half}
use Rattle.theorems.proofs.Lists.Scan.{test, if_lt, and_l, and_r, and_i, length_tab_from, tab_in, in_tab}
use Rattle.theorems.proofs.Lists.Ones.{ones_of, ones_in}
use Rattle.theorems.proofs.Sets.Pigeon.{distinct_tab}
use Rattle.theorems.proofs.Maps.Tables.{map_table, live_below}
use Rattle.theorems.proofs.Maps.Dim.{two_cases, size_some}
use Rattle.theorems.proofs.Cells.Rows.{rows_in}
use Rattle.theorems.proofs.Cells.Cell.{all_places, place_in, cell_same}
use Rattle.theorems.proofs.Cells.Chart.{place_chart, place_zero, place_one}
use Rattle.theorems.proofs.Layers.Counts.{how_many_least, how_many_most, how_many_none}
use Rattle.theorems.proofs.Layers.Sheet.{sheet_live, sheet_of, crosses_some, crosses_none}
use Rattle.theorems.proofs.Layers.Half.{half_size, in_half_lem, out_crosses}

of_both : (r s : List ℕ) (y : ℕ) → (in_set r y && in_set s y) ≡ true → Marked r y × Marked s y
unfolding in_set
of_both r s y h = (eqb-true _ _ (and_l (in_set r y) (in_set s y) h), eqb-true _ _ (and_r (in_set r y) (in_set s y) h))

-- in the rows, link 1 leads from the first places to another
next_out : (n : ℕ) → Dim n → half n ≤ cell_link n 1 0
unfolding everything half
next_out n dim = two_cases n dim (λ n. half n ≤ cell_link n 1 0) (omega arith) (omega arith)

module _ {n : ℕ} {t : List ℕ} {d : ℕ} (D : BlockDart n t d) where
  abbrev B : BlockTable n t
  B = D.table

  abbrev T : MapTable n t
  T = map_table B

  abbrev S : List ℕ
  S = sheet n t d

  -- seen from a dart g of S
  module _ (g : ℕ) (in_s : Marked S g) where
    lives : live t g ≡ true
    lives = sheet_live D g in_s

    -- the darts of its cell at the first places
    abbrev first : List ℕ
    first = tabulate_from (half n) 0 (place n t g)

    in_both : (y : ℕ) → Marked S y → Marked (cell_of n t g) y → (y < slots t) × ((in_set S y && in_set (cell_of n t g) y) ≡ true)
    unfolding in_set
    in_both y s c = (live_below T y (sheet_live D y s), and_i (eq-eqb _ _ s) (eq-eqb _ _ c))

    place_cell : (k : ℕ) → k < cell_size n → Marked (cell_of n t g) (place n t g k)
    place_cell k low = place_in T g lives k low

    first_both : (y : ℕ) → In y first → (y < slots t) × ((in_set S y && in_set (cell_of n t g) y) ≡ true)
    first_both y i =
        let (k, _, low, at) = in_tab (place n t g) (half n) 0 y i in
        let below : k < half n = omega arith in
        rw at (in_both (place n t g k) (ones_of S _ (in_half_lem B (sheet_of D) g k (ones_in S g in_s) below))
        (place_cell k (half_size n B.dim k below)))

    first_distinct : Distinct first
    first_distinct = distinct_tab (place n t g) (half n) 0 (λ a b ab h e.
        let size : b < cell_size n = half_size n B.dim b (omega arith) in
        let same = place_one B g a b lives (omega arith) size e in
        omega arith)

    first_long : length first ≡ half n
    first_long = length_tab_from (place n t g) (half n) 0

    share_least : half n ≤ shared n t S g
    unfolding shared
    share_least = rw first_long at (how_many_least (slots t) _ first first_distinct first_both)

    -- where no dart of S has its link 1 in S, the other places have no dart of S
    only_first_lem : crosses t S (ones S) ≡ false → (y : ℕ) → Marked S y → Marked (cell_of n t g) y → In y first
    only_first_lem uncrossed y s c =
        let (k, low, at) = all_places T g lives (place_chart B g lives).follow y c in
        if_lt k (half n) (λ b. in-cast at (tab_in (place n t g) (half n) 0 k (omega arith) (omega arith))) (λ b.
        let (x, i, j) = out_crosses B (sheet_of D) g k (ones_in S g in_s) b low (ones_in S _ (rw at at s)) in
        absurd (crosses_none t S uncrossed x i j))

    share_most : crosses t S (ones S) ≡ false → shared n t S g ≤ half n
    unfolding shared
    share_most uncrossed = rw first_long at
        (how_many_most (slots t) _ first (λ y _ h. let (s, c) = of_both S (cell_of n t g) y h in only_first_lem uncrossed y s c))

    -- where g.1 is in S, its place is no first one
    share_more : Marked S (link t 1 g) → half n < shared n t S g
    unfolding shared
    share_more next = rw first_long at (how_many_least (slots t) _ (link t 1 g ∷ first) (more apart first_distinct)
        (λ y i. ⊎_elim (λ (e : y ≡ link t 1 g). rw e both) (first_both y) (in-cons i)))
      where
        chart : Chart n t (place n t g)
        chart = place_chart B g lives

        k : ℕ
        k = cell_link n 1 0

        low : k < cell_size n
        low = rows_in n 1 0 B.dim B.dim.0 (size_some n B.dim)

        at : link t 1 g ≡ place n t g k
        at = ap (link t 1) (place_zero B g lives) ∙ chart.follow 1 0 B.dim.0 (size_some n B.dim)

        apart : In (link t 1 g) first → ⊥
        apart i =
            let (j, _, b, e) = in_tab (place n t g) (half n) 0 (link t 1 g) i in
            let same = place_one B g k j lives low (half_size n B.dim j (omega arith)) (sym at ∙ e) in
            let out = next_out n B.dim in
            omega arith

        both : (link t 1 g < slots t) × ((in_set S (link t 1 g) && in_set (cell_of n t g) (link t 1 g)) ≡ true)
        both = in_both (link t 1 g) next (rw at (place_cell k low))

  -- where 13 is not given
  pub sheet_share : crosses t (sheet n t d) (ones (sheet n t d)) ≡ false → (x : ℕ) → live t x ≡ true
      → (shared n t (sheet n t d) x ≡ 0) ⊎ (shared n t (sheet n t d) x ≡ half n)
  unfolding shared
  sheet_share uncrossed x l = ⊎_elim inl some (how_many_none (slots t) (λ y. in_set S y && in_set (cell_of n t x) y))
    where
      some : (g : ℕ) × (g < slots t) × ((in_set S g && in_set (cell_of n t x) g) ≡ true)
          → (shared n t S x ≡ 0) ⊎ (shared n t S x ≡ half n)
      some (g, _, h) =
          let (s, c) = of_both S (cell_of n t x) g h in
          let least = share_least g s in
          let most = share_most g s uncrossed in
          let same : shared n t S g ≡ shared n t S x = rw (cell_same T x g l c) in
          inr (omega arith)

  pub crosses_share : (crosses t (sheet n t d) (ones (sheet n t d)) ≡ true)
      ↔ ((x : ℕ) × (live t x ≡ true) × (half n < shared n t (sheet n t d) x))
  crosses_share = (
    λ h. let (g, s, next) = (crosses_some t S).0 h in (g, sheet_live D g s, share_more g s next),
    λ (x, l, above). test (crosses t S (ones S)) (λ e. e) (λ e. absurd (⊎_elim (λ (h : shared n t S x ≡ 0). omega arith)
        (λ (h : shared n t S x ≡ half n). omega arith) (sheet_share e x l))),
  )
