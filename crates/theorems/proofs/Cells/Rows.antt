-- The rows of the numbering, as computed: where words lead on them, and so among darts that follow them.
-- Main definitions: `small` (a word of links below n), `row_walk`. Main theorems: `walk_keeps`; `rows_in` and `walk_rows`;
-- `path_small` and `path_leads` (the word to a place); `back_small`, `back_leads` and `back_other` (the word back).
use Prim.Native.Nat.{ℕ, suc, ◌+◌, ◌≤◌, ◌<◌}
use mathlib.Core.Path.{◌≡◌, refl, ap, ◌∙◌}
use mathlib.Core.Logic.{◌≢◌, ⊎_elim}
use mathlib.Core.Bool.{Bool, true, false, not, ◌&&◌, ◌||◌}
use mathlib.Core.List.{List, [], ◌∷◌, reverse}
use native.Mathlib.Omega.{arith}
use lib.Dec.{eqb, ltb}
use borrow.Author.Tests.{eqb-true, eqb-false, eq-eqb, ne_eqb, ltb-true, not-true}
use Rattle.model.specs.Lists.{all_below}
use Rattle.model.specs.Table.{link, walk}
use Rattle.model.specs.Cell.{cell_size}
use Rattle.model.specs.Numbering.{cell_link}
use Rattle.model.specs.Everything.{everything}
use Rattle.model.specs.Meaning.Maps.{Dim}
use Rattle.model.specs.Meaning.Places.{path, place, Follows}
use Rattle.theorems.proofs.Lists.Scan.{test, if_eq, clash, and_l, and_r, or_cases, below_at, below_both}
use Rattle.theorems.proofs.Maps.Dim.{two_cases}

-- ---- words of links below n

unfoldable pub small : ℕ → List ℕ → Bool
small n [] = true
small n (i ∷ w) = elim (ltb i n) [ true ↦ small n w | false ↦ false ]

pub small_cases : (n i : ℕ) (w : List ℕ) → small n (i ∷ w) ≡ true → (i < n) × (small n w ≡ true)
unfolding small
small_cases n i w h =
    test (ltb i n) (λ e. (ltb-true i n e, rw (e, small) at h)) (λ e. absurd (clash h (rw (e, small))))

-- what holds of a dart and is kept by these links holds of where the word leads
pub walk_keeps : (n : ℕ) (t : List ℕ) (P : ℕ → Type 0) → ((x i : ℕ) → i < n → P x → P (link t i x))
    → (w : List ℕ) → small n w ≡ true → (x : ℕ) → P x → P (walk t w x)
unfolding walk
walk_keeps n t P kept [] h x p = p
walk_keeps n t P kept (i ∷ w) h x p =
    let (l, s) = small_cases n i w h in
    walk_keeps n t P kept w s (link t i x) (kept x i l p)

-- ---- words on the rows

unfoldable pub row_walk : ℕ → List ℕ → ℕ → ℕ
row_walk n [] k = k
row_walk n (i ∷ w) k = row_walk n w (cell_link n i k)

-- the rules of a map at the dart k of a cell as it is numbered: its links, its pairs of links, and link 3 for n = 2
link_row : ℕ → ℕ → ℕ → Bool
link_row n k j = ltb (cell_link n j k) (cell_size n) && eqb (cell_link n j (cell_link n j k)) k

pair_row : ℕ → ℕ → ℕ → ℕ → Bool
pair_row n k i j = ltb j (i + 2) || eqb (row_walk n (i ∷ j ∷ i ∷ j ∷ []) k) k

plane_row : ℕ → ℕ → Bool
plane_row n k = not (eqb n 2) || eqb (cell_link n 3 k) k

abbrev link_rows : ℕ → ℕ → Bool
link_rows n k = all_below 4 (link_row n k)

abbrev pair_rows : ℕ → ℕ → Bool
pair_rows n k = all_below 4 (λ i. all_below (suc n) (pair_row n k i))

rows_true : (n : ℕ) → Dim n → all_below (cell_size n) (λ k. link_rows n k && (pair_rows n k && plane_row n k)) ≡ true
unfolding everything row_walk link_row pair_row plane_row
rows_true n dim =
    two_cases n dim (λ n. all_below (cell_size n) (λ k. link_rows n k && (pair_rows n k && plane_row n k)) ≡ true) refl refl

module _ (n k : ℕ) (dim : Dim n) (low : k < cell_size n) where
  rules_row : (link_rows n k && (pair_rows n k && plane_row n k)) ≡ true
  rules_row = below_at (λ k. link_rows n k && (pair_rows n k && plane_row n k)) (cell_size n) (rows_true n dim) k low

  link_row_lem : (j : ℕ) → j < 4 → link_row n k j ≡ true
  link_row_lem j b = below_at (link_row n k) 4 (and_l (link_rows n k) _ rules_row) j b

  pub row_goes : (j : ℕ) → j < 4 → cell_link n j k < cell_size n
  unfolding link_row
  row_goes j b = ltb-true _ _ (and_l (ltb (cell_link n j k) (cell_size n)) _ (link_row_lem j b))

  pub row_comes : (j : ℕ) → j < 4 → cell_link n j (cell_link n j k) ≡ k
  unfolding link_row
  row_comes j b = eqb-true _ _ (and_r (ltb (cell_link n j k) (cell_size n)) _ (link_row_lem j b))

  pub row_cross : (i j : ℕ) → i + 2 ≤ j → j ≤ n → cell_link n j (cell_link n i (cell_link n j (cell_link n i k))) ≡ k
  unfolding pair_row row_walk
  row_cross i j far top =
      let three = dim.1 in
      let pairs = and_l (pair_rows n k) _ (and_r (link_rows n k) _ rules_row) in
      let row = below_both (pair_row n k) 4 (suc n) pairs i j (omega arith) (omega arith) in
      let not_near : ltb j (i + 2) ≡ true → ⊥ = λ e. let near = ltb-true j (i + 2) e in omega arith in
      eqb-true _ _ (⊎_elim (λ e. absurd (not_near e)) (λ e. e) (or_cases (ltb j (i + 2)) _ row))

  pub row_plane : n ≡ 2 → cell_link n 3 k ≡ k
  unfolding plane_row
  row_plane e =
      let row = and_r (pair_rows n k) _ (and_r (link_rows n k) _ rules_row) in
      eqb-true _ _ (⊎_elim (λ q. absurd (eqb-false n 2 (not-true _ q) e)) (λ q. q) (or_cases (not (eqb n 2)) _ row))

pub rows_in : (n i k : ℕ) → Dim n → i < n → k < cell_size n → cell_link n i k < cell_size n
rows_in n i k dim hi hk = let three = dim.1 in row_goes n k dim hk i (omega arith)

-- the links from n on lead to the dart itself
pub free_rows : (n : ℕ) → Dim n → (j k : ℕ) → n ≤ j → cell_link n j k ≡ k
unfolding cell_link
free_rows n dim j k h =
    let last : (eqb j 2 && eqb n 3) ≡ false
    = if_eq j 2 (λ e. rw (eq-eqb j 2 e, ne_eqb n 3 (omega arith))) (λ e. rw (ne_eqb j 2 e)) in
    rw (ne_eqb j 0 (omega arith), ne_eqb j 1 (omega arith), last, cell_link)

pub row_walk_in : (n : ℕ) (w : List ℕ) (k : ℕ) → Dim n → small n w ≡ true → k < cell_size n → row_walk n w k < cell_size n
unfolding row_walk
row_walk_in n [] k dim h l = l
row_walk_in n (i ∷ w) k dim h l =
    let (hi, s) = small_cases n i w h in
    row_walk_in n w (cell_link n i k) dim s (rows_in n i k dim hi l)

-- where darts, by their places, follow the rows, a word leads as it does in the rows
pub walk_rows : (n : ℕ) (t : List ℕ) (c : ℕ → ℕ) → Dim n → Follows n t c
    → (w : List ℕ) (k : ℕ) → small n w ≡ true → k < cell_size n → walk t w (c k) ≡ c (row_walk n w k)
unfolding walk row_walk
walk_rows n t c dim follow [] k h l = refl
walk_rows n t c dim follow (i ∷ w) k h l =
    let (hi, s) = small_cases n i w h in
    ap (walk t w) (follow i k hi l) ∙ walk_rows n t c dim follow w (cell_link n i k) s (rows_in n i k dim hi l)

-- ---- the words to a place, and back

path_row : ℕ → ℕ → Bool
path_row n k = small n (path n k) && eqb (row_walk n (path n k) 0) k

path_true : (n : ℕ) → Dim n → all_below (cell_size n) (path_row n) ≡ true
unfolding everything path small row_walk path_row
path_true n dim = two_cases n dim (λ n. all_below (cell_size n) (path_row n) ≡ true) refl refl

-- a path is a word of the cell's links, and leads from the place 0 to its place
module _ (n k : ℕ) (dim : Dim n) (low : k < cell_size n) where
  path_row_lem : path_row n k ≡ true
  path_row_lem = below_at (path_row n) (cell_size n) (path_true n dim) k low

  pub path_small : small n (path n k) ≡ true
  unfolding path_row
  path_small = and_l (small n (path n k)) _ path_row_lem

  pub path_leads : row_walk n (path n k) 0 ≡ k
  unfolding path_row
  path_leads = eqb-true _ _ (and_r (small n (path n k)) _ path_row_lem)

pub path_zero : (n : ℕ) → Dim n → (t : List ℕ) (d : ℕ) → d ≡ place n t d 0
unfolding place path walk
path_zero n dim t d = two_cases n dim (λ n. d ≡ place n t d 0) refl refl

-- the word back from the place k
abbrev pub path_back : ℕ → ℕ → List ℕ
path_back n k = reverse (path n k)

-- from j it leads to the place 0 if j is k, and to another if not
back_row : ℕ → List ℕ → ℕ → ℕ → Bool
back_row n w k j = elim (eqb j k) [ true ↦ eqb (row_walk n w j) 0 | false ↦ not (eqb (row_walk n w j) 0) ]

back_rows : ℕ → ℕ → List ℕ → Bool
back_rows n k w = small n w && all_below (cell_size n) (back_row n w k)

back_true : (n : ℕ) → Dim n → all_below (cell_size n) (λ k. back_rows n k (path_back n k)) ≡ true
unfolding everything path small row_walk back_row back_rows
back_true n dim = two_cases n dim (λ n. all_below (cell_size n) (λ k. back_rows n k (path_back n k)) ≡ true) refl refl

module _ (n k : ℕ) (dim : Dim n) (low : k < cell_size n) where
  back_rows_lem : back_rows n k (path_back n k) ≡ true
  back_rows_lem = below_at (λ k. back_rows n k (path_back n k)) (cell_size n) (back_true n dim) k low

  pub back_small : small n (path_back n k) ≡ true
  unfolding back_rows
  back_small = and_l (small n (path_back n k)) _ back_rows_lem

  back_row_lem : (j : ℕ) → j < cell_size n → back_row n (path_back n k) k j ≡ true
  unfolding back_rows
  back_row_lem j l = below_at (back_row n (path_back n k) k) (cell_size n) (and_r (small n (path_back n k)) _ back_rows_lem) j l

  pub back_leads : row_walk n (path_back n k) k ≡ 0
  unfolding back_row
  back_leads = eqb-true _ _ (rw (eq-eqb k k refl, back_row) at (back_row_lem k low))

  pub back_other : (j : ℕ) → j < cell_size n → j ≢ k → row_walk n (path_back n k) j ≢ 0
  unfolding back_row
  back_other j l e = eqb-false _ _ (not-true _ (rw (ne_eqb j k e, back_row) at (back_row_lem j l)))
