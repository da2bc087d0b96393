-- The faces of a numbered cell, as computed: the four places round the face of a dart, and what links 0 and 1 make of them.
-- Main theorems: `round_own` (links 0 and 1), `round_one` (no two darts of a cell have the same).
use Prim.Native.Nat.{ℕ, ◌+◌, ◌≤◌, ◌<◌}
use mathlib.Core.Path.{◌≡◌, refl, sym, ap, ap₂, ◌∙◌}
use mathlib.Core.Bool.{Bool, true, false, ◌&&◌}
use mathlib.Core.List.{List, [], ◌∷◌, reverse}
use native.Mathlib.Omega.{arith}
use lib.ListN.{get_or}
use lib.Dec.{eqb, ltb}
use borrow.Author.Tests.{eqb-true, eq-eqb, ltb-true}
use Rattle.model.specs.Lists.{least, all_below, all_of, equal}
use Rattle.model.specs.Faces.{listed_at, onward, sites, pick, round, turned}
use Rattle.model.specs.Cell.{cell_size}
use Rattle.model.specs.Numbering.{cell_link}
use Rattle.model.specs.Everything.{everything}
use Rattle.theorems.proofs.Lists.Scan.{test, clash, and_l, and_r, below_at}
use Rattle.theorems.proofs.Cells.Rows.{row_goes, row_comes, row_cross}

-- ---- lists compared

pub equal_is : (xs ys : List ℕ) → equal xs ys ≡ true → xs ≡ ys
unfolding equal
equal_is [] [] h = refl
equal_is [] (y ∷ ys) h = absurd (clash h refl)
equal_is (x ∷ xs) [] h = absurd (clash h refl)
equal_is (x ∷ xs) (y ∷ ys) h =
    test (eqb x y) (λ e. ap₂ ◌∷◌ (eqb-true x y e) (equal_is xs ys (rw (e, equal) at h))) (λ e. absurd (clash h (rw (e, equal))))

pub equal_same : (xs : List ℕ) → equal xs xs ≡ true
unfolding equal
equal_same [] = refl
equal_same (x ∷ xs) = rw (eq-eqb x x refl, equal) (equal_same xs)

-- ---- a cell's links, by its numbers

module _ (j k : ℕ) (b : j < 4) (low : k < 48) where
  pub link_low : cell_link 3 j k < 48
  unfolding cell_size
  link_low = row_goes 3 k (omega arith, omega arith) low j b

  pub link_comes : cell_link 3 j (cell_link 3 j k) ≡ k
  unfolding cell_size
  link_comes = row_comes 3 k (omega arith, omega arith) low j b

pub link_cross : (i j k : ℕ) → i + 2 ≤ j → j ≤ 3 → k < 48 → cell_link 3 j (cell_link 3 i (cell_link 3 j (cell_link 3 i k))) ≡ k
unfolding cell_size
link_cross i j k far top low = row_cross 3 k (omega arith, omega arith) low i j far top

-- ---- places round a face

-- four numbers, the first two exchanged and the last two; and round the other way from the first
unfoldable pub flipped : ℕ → List ℕ → List ℕ
flipped j xs =
    elim (eqb j 0) [
      | true ↦ get_or xs 1 0 ∷ get_or xs 0 0 ∷ get_or xs 3 0 ∷ get_or xs 2 0 ∷ []
      | false ↦ get_or xs 0 0 ∷ get_or xs 3 0 ∷ get_or xs 2 0 ∷ get_or xs 1 0 ∷ []
    ]

-- what is computed of the dart k
site_row : ℕ → Bool
site_row k =
    all_of (λ i. ltb i 8) (sites k)
    && all_below 2 (λ j. equal (sites (cell_link 3 j k)) (flipped j (sites k)))
    && eqb (least 48 (λ i. equal (sites i) (sites k))) k

rows_true : all_below 48 site_row ≡ true
unfolding everything all_of listed_at onward sites equal flipped site_row
rows_true = refl

module _ (k : ℕ) (low : k < 48) where
  abbrev in_eight : Bool
  in_eight = all_of (λ i. ltb i 8) (sites k)

  abbrev flips : Bool
  flips = all_below 2 (λ j. equal (sites (cell_link 3 j k)) (flipped j (sites k)))

  site_row_lem : (in_eight && flips && eqb (least 48 (λ i. equal (sites i) (sites k))) k) ≡ true
  unfolding site_row
  site_row_lem = below_at site_row 48 rows_true k low

  pub site_low_lem : in_eight ≡ true
  site_low_lem = and_l in_eight flips (and_l (in_eight && flips) _ site_row_lem)

  site_flip : (j : ℕ) → j < 2 → sites (cell_link 3 j k) ≡ flipped j (sites k)
  site_flip j b = equal_is _ _
      (below_at (λ j. equal (sites (cell_link 3 j k)) (flipped j (sites k))) 2 (and_r in_eight flips (and_l (in_eight && flips) _ site_row_lem)) j b)

  site_least : least 48 (λ i. equal (sites i) (sites k)) ≡ k
  site_least = eqb-true _ _ (and_r (in_eight && flips) _ site_row_lem)

site_one : (j k : ℕ) → j < 48 → k < 48 → sites j ≡ sites k → j ≡ k
site_one j k hj hk e = sym (site_least j hj) ∙ ap (λ (s : List ℕ). least 48 (λ i. equal (sites i) s)) e ∙ site_least k hk

-- ---- the vertices there

pick_flip : (row : List ℕ) (k j : ℕ) → pick row (flipped j (sites k)) ≡ flipped j (pick row (sites k))
unfolding pick sites flipped
pick_flip row k j = test (eqb j 0) (λ e. rw (e, flipped)) (λ e. rw (e, flipped))

pub round_own : (row : List ℕ) (j k : ℕ) → j < 2 → k < 48 → round row (cell_link 3 j k) ≡ flipped j (round row k)
unfolding round
round_own row j k b low = ap (pick row) (site_flip k low j b) ∙ pick_flip row k j

-- a row whose first eight numbers are different
module _ (row : List ℕ) (once : (i j : ℕ) → i < 8 → j < 8 → get_or row i 0 ≡ get_or row j 0 → i ≡ j) where
  pick_one : (is js : List ℕ) → all_of (λ i. ltb i 8) is ≡ true → all_of (λ i. ltb i 8) js ≡ true → pick row is ≡ pick row js → is ≡ js
  unfolding pick all_of
  pick_one [] [] p q e = refl
  pick_one [] (j ∷ js) p q e = absurd (let z : ◌≡◌ {A = ℕ} 0 1 = cc in omega arith)
  pick_one (i ∷ is) [] p q e = absurd (let z : ◌≡◌ {A = ℕ} 0 1 = cc in omega arith)
  pick_one (i ∷ is) (j ∷ js) p q e =
      test (ltb i 8) (λ li. test (ltb j 8) (λ lj.
      ap₂ ◌∷◌ (once i j (ltb-true i 8 li) (ltb-true j 8 lj) (cc)) (pick_one is js (rw (li, all_of) at p) (rw (lj, all_of) at q) (cc)))
      (λ lj. absurd (clash q (rw (lj, all_of))))) (λ li. absurd (clash p (rw (li, all_of))))

  pub round_one : (j k : ℕ) → j < 48 → k < 48 → round row j ≡ round row k → j ≡ k
  unfolding round
  round_one j k hj hk e = site_one j k hj hk (pick_one (sites j) (sites k) (site_low_lem j hj) (site_low_lem k hk) e)

-- ---- round a face

-- the list from its second on is read from the next dart; the list backwards from the one after the other edge
pub round_turned : (row : List ℕ) (k : ℕ) → k < 48 → turned (round row k) ≡ round row (cell_link 3 1 (cell_link 3 0 k))
unfolding round pick sites flipped turned
round_turned row k low =
    let two = round_own row 1 (cell_link 3 0 k) (omega arith) (link_low 0 k (omega arith) low) in
    let one = ap (flipped 1) (round_own row 0 k (omega arith) low) in
    sym (two ∙ one)

pub round_back : (row : List ℕ) (k : ℕ) → k < 48 → reverse (round row k) ≡ turned (round row (cell_link 3 1 k))
unfolding round pick sites flipped turned
round_back row k low = sym (ap turned (round_own row 1 k (omega arith) low))
