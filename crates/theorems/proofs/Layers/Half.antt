-- How a sheet meets a cell, seen from one of its darts: it holds the places below `half n` (`in_half_lem`); where it holds
-- another place, some dart of it has its link 1 in it (`out_crosses`). Every other place is near them (`out_turns`).
use Prim.Native.Nat.{ℕ, ◌≤◌, ◌<◌}
use mathlib.Core.Path.{◌≡◌, refl, sym}
use mathlib.Core.Logic.{◌⊎◌, inl, inr, ⊎_elim}
use mathlib.Core.Bool.{Bool, true, ◌&&◌, ◌||◌}
use mathlib.Core.List.Memᴰ.{cast as in-cast}
use mathlib.Core.List.{List, Memᴰ as In}
use native.Mathlib.Omega.{arith}
use lib.Dec.{eqb, ltb}
use borrow.Author.Tests.{eqb-true, ltb-true, le-ltb}
use Rattle.model.specs.Lists.{all_below}
use Rattle.model.specs.Table.{link}
use Rattle.model.specs.Cell.{cell_size}
use Rattle.model.specs.Numbering.{cell_link}
use Rattle.model.specs.Everything.{everything}
use Rattle.model.specs.Meaning.Maps.{BlockTable, Dim}
use Rattle.model.specs.Meaning.Places.{path, place}
use Rattle.model.specs.Meaning.Sheets.{half, Sheet}
use Rattle.theorems.proofs.Lists.Scan.{clash, and_l, and_r, below_at, or_cases}
use Rattle.theorems.proofs.Maps.Dim.{two_cases}
use Rattle.theorems.proofs.Cells.Rows.{rows_in}
use Rattle.theorems.proofs.Cells.Chart.{place_chart}
use Rattle.theorems.proofs.Layers.SplitRole.{keeps_sheet, sheet_walk}

-- ---- the places below `half n`, computed

-- the path to such a place keeps to the sheet
half_path : ℕ → ℕ → Bool
half_path n p = ltb p (cell_size n) && keeps_sheet (path n p)

half_paths : (n : ℕ) → Dim n → all_below (half n) (half_path n) ≡ true
unfolding everything half_path half keeps_sheet path
half_paths n dim = two_cases n dim (λ n. all_below (half n) (half_path n) ≡ true) refl refl

-- from any other place link 1 leads to such a place, or for n = 3 link 1 after link 2 does
turns_in : ℕ → ℕ → Bool
turns_in n p = ltb (cell_link n 1 p) (half n) || (eqb n 3 && ltb (cell_link n 1 (cell_link n 2 p)) (half n))

in_or_turns : ℕ → ℕ → Bool
in_or_turns n p = ltb p (half n) || turns_in n p

in_or_turns_lem : (n : ℕ) → Dim n → all_below (cell_size n) (in_or_turns n) ≡ true
unfolding everything in_or_turns turns_in half
in_or_turns_lem n dim = two_cases n dim (λ n. all_below (cell_size n) (in_or_turns n) ≡ true) refl refl

module _ (n : ℕ) (dim : Dim n) (p : ℕ) where
  path_of_half : p < half n → half_path n p ≡ true
  path_of_half h = below_at (half_path n) (half n) (half_paths n dim) p h

  pub half_size : p < half n → p < cell_size n
  unfolding half_path
  half_size h = ltb-true _ _ (and_l (ltb p (cell_size n)) _ (path_of_half h))

  half_word : p < half n → keeps_sheet (path n p) ≡ true
  unfolding half_path
  half_word h = and_r (ltb p (cell_size n)) _ (path_of_half h)

  -- a place that is none of these is one link 1 away from them, or for n = 3 links 2 and 1
  pub out_turns : half n ≤ p → p < cell_size n → (cell_link n 1 p < half n) ⊎ ((n ≡ 3) × (cell_link n 1 (cell_link n 2 p) < half n))
  unfolding in_or_turns turns_in
  out_turns out h =
      let first = ltb (cell_link n 1 p) (half n) in
      let last = ltb (cell_link n 1 (cell_link n 2 p)) (half n) in
      let either = or_cases (ltb p (half n)) (turns_in n p) (below_at (in_or_turns n) (cell_size n) (in_or_turns_lem n dim) p h) in
      ⊎_elim (λ e. absurd (clash e (le-ltb p (half n) out)))
      (λ e. ⊎_elim (λ a. inl (ltb-true _ _ a))
      (λ a. inr (eqb-true n 3 (and_l (eqb n 3) last a), ltb-true _ _ (and_r (eqb n 3) last a))) (or_cases first _ e)) either

-- ---- the sheet in a cell

module _ {n : ℕ} {t gs : List ℕ} (B : BlockTable n t) (S : Sheet n t gs) where
  pub in_half_lem : (g p : ℕ) → In g gs → p < half n → In (place n t g p) gs
  unfolding place
  in_half_lem g p i h = sheet_walk B S (path n p) g (half_word n B.dim p h) i

  pub out_crosses : (g p : ℕ) → In g gs → half n ≤ p → p < cell_size n → In (place n t g p) gs
      → (x : ℕ) × In x gs × In (link t 1 x) gs
  out_crosses g p i out h k = ⊎_elim
      (λ a. (place n t g p, k, in-cast (follow 1 p B.dim.0 h) (in_half_lem g (cell_link n 1 p) i a)))
      (λ a.
      let three = a.0 in
      let q = cell_link n 2 p in (
        place n t g q,
        in-cast (sym (follow 2 p (omega arith) h)) (S.far (place n t g p) 2 (omega arith) (omega arith) k),
        in-cast (follow 1 q (omega arith) (rows_in n 2 p B.dim (omega arith) h)) (in_half_lem g (cell_link n 1 q) i a.1),
      )) (out_turns n B.dim p out h)
    where
      follow : (j k : ℕ) → j < n → k < cell_size n → link t j (place n t g k) ≡ place n t g (cell_link n j k)
      follow = (place_chart B g (S.lives g i)).follow
