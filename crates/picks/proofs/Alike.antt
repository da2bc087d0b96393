-- The groups of the first places of a cell: their darts have link 1 in a sheet all or none (`alike_place`); where a group of words stands
-- (`group_at`, `group_in`, `group_next`).
use Prim.Native.Nat.{ℕ, ◌+◌, ◌*◌, ◌-◌, ◌≤◌, ◌<◌}
use mathlib.Core.Path.{◌≡◌, refl, sym, ap, ◌∙◌}
use mathlib.Core.Bool.{Bool, true, false, not, ◌||◌}
use mathlib.Core.Logic.{⊎_elim}
use mathlib.Core.List.{List}
use native.Mathlib.Omega.{arith}
use lib.Dec.{eqb, ltb}
use borrow.Author.Tests.{eqb-true, lt-ltb, not-true, not-false}
use Rattle.model.specs.Lists.{all_below}
use Rattle.model.specs.Table.{link}
use Rattle.model.specs.Cell.{cell_size}
use Rattle.model.specs.Numbering.{cell_link}
use Rattle.model.specs.Sheet.{sheet}
use Rattle.model.specs.Everything.{everything}
use Rattle.model.specs.Meaning.Maps.{Dim}
use Rattle.model.specs.Meaning.Sets.{Marked}
use Rattle.model.specs.Meaning.Places.{path, place}
use Rattle.model.specs.Meaning.Sheets.{BlockDart, half}
use Rattle.theorems.proofs.Lists.Scan.{clash, or_cases, below_both, below_not}
use Rattle.theorems.proofs.Lists.Ones.{ones_of, ones_in}
use Rattle.theorems.proofs.Maps.Dim.{two_cases}
use Rattle.theorems.proofs.Cells.Rows.{row_walk, walk_rows, rows_in, path_small}
use Rattle.theorems.proofs.Cells.Chart.{place_chart}
use Rattle.theorems.proofs.Layers.Sheet.{sheet_of}
use Rattle.theorems.proofs.Layers.Half.{in_half_lem}
use Rattle.sheets.proofs.Halves.{size_half}
use Rattle.picks.specs.Queued.{group}

-- ---- the rows, computed

-- link 1 of the place k is no first place seen from link 1 of the place a
none_alike : ℕ → ℕ → ℕ → Bool
none_alike n a k = all_below (half n) (λ q. not (eqb (row_walk n (path n q) (cell_link n 1 a)) (cell_link n 1 k)))

alike_row : ℕ → ℕ → ℕ → Bool
alike_row n c p = not (ltb (group n * c + p) (half n)) || not (none_alike n (group n * c) (group n * c + p))

alike_rows : (n : ℕ) → Dim n → all_below 2 (λ c. all_below (group n) (alike_row n c)) ≡ true
unfolding everything half path row_walk none_alike alike_row
alike_rows n dim = two_cases n dim (λ n. all_below 2 (λ c. all_below (group n) (alike_row n c)) ≡ true) refl refl

two_groups : (n : ℕ) → Dim n → (c p : ℕ) → group n * c + p < half n → c < 2
unfolding half
two_groups n dim = two_cases n dim (λ n. (c p : ℕ) → group n * c + p < half n → c < 2) (λ c p h. omega arith) (λ c p h. omega arith)

-- ---- where a group stands

-- behind h cells a group stands in the next one
pub group_at : (n : ℕ) → Dim n → (c p h : ℕ) → p < group n → half n * h ≤ group n * c + p → group n * c + p < half n * h + half n
    → (e : ℕ) × (group n * c ≡ half n * h + group n * e) × (group n * e + p < half n)
unfolding half
group_at n dim = two_cases n dim (λ n. (c p h : ℕ) → p < group n → half n * h ≤ group n * c + p → group n * c + p < half n * h + half n
    → (e : ℕ) × (group n * c ≡ half n * h + group n * e) × (group n * e + p < half n))
    (λ c p h a b d. (c - h, omega arith, omega arith)) (λ c p h a b d. (c - 2 * h, omega arith, omega arith))

-- in z cells a group that begins ends
pub group_in : (n : ℕ) → Dim n → (c z : ℕ) → group n * c < half n * z → group n * c + group n ≤ half n * z
unfolding half
group_in n dim = two_cases n dim (λ n. (c z : ℕ) → group n * c < half n * z → group n * c + group n ≤ half n * z)
    (λ c z h. omega arith) (λ c z h. omega arith)

pub group_next : (n : ℕ) → Dim n → (c : ℕ) → group n * c + group n ≡ group n * (c + 1)
group_next n dim = two_cases n dim (λ n. (c : ℕ) → group n * c + group n ≡ group n * (c + 1)) (λ c. omega arith) (λ c. omega arith)

-- ---- the darts there

module _ {n : ℕ} {t : List ℕ} {d : ℕ} (D : BlockDart n t d) {g : ℕ} (G : BlockDart n t g) where
  abbrev S : List ℕ
  S = sheet n t d

  follow : (k : ℕ) → k < cell_size n → link t 1 (place n t g k) ≡ place n t g (cell_link n 1 k)
  follow k h = (place_chart G.table g G.lives).follow 1 k (let two = G.table.dim.0 in omega arith) h

  pub alike_place : (c p : ℕ) → p < group n → group n * c + p < half n → Marked (sheet n t d) (link t 1 (place n t g (group n * c)))
      → Marked (sheet n t d) (link t 1 (place n t g (group n * c + p)))
  unfolding alike_row none_alike place
  alike_place c p hp h one =
      let (q, hq, e) = found in
      let to = eqb-true (row_walk n (path n q) (cell_link n 1 a)) (cell_link n 1 k) (not-false _ e) in
      let y = link t 1 (place n t g a) in
      let leads : place n t y q ≡ link t 1 (place n t g k) =
      ap (λ (x : ℕ). place n t x q) (follow a low)
      ∙ walk_rows n t (place n t g) G.table.dim (place_chart G.table g G.lives).follow (path n q) (cell_link n 1 a)
      (path_small n q G.table.dim (size_half G.table q hq)) (rows_in n 1 a G.table.dim one_link low)
      ∙ ap (place n t g) to ∙ sym (follow k (size_half G.table k h)) in
      rw leads at (ones_of S (place n t y q) (in_half_lem D.table (sheet_of D) y q (ones_in S y one) hq))
    where
      a : ℕ
      a = group n * c

      k : ℕ
      k = group n * c + p

      low : a < cell_size n
      low = size_half G.table a (omega arith)

      one_link : 1 < n
      one_link = let two = G.table.dim.0 in omega arith

      row : (not (ltb k (half n)) || not (none_alike n a k)) ≡ true
      row = below_both (alike_row n) 2 (group n) (alike_rows n G.table.dim) c p (two_groups n G.table.dim c p h) hp

      found : (q : ℕ) × (q < half n) × (not (eqb (row_walk n (path n q) (cell_link n 1 a)) (cell_link n 1 k)) ≡ false)
      found = ⊎_elim (λ e. absurd (clash (lt-ltb k (half n) h) (not-true _ e)))
          (λ e. below_not (λ q. not (eqb (row_walk n (path n q) (cell_link n 1 a)) (cell_link n 1 k))) (half n) (not-true _ e))
          (or_cases (not (ltb k (half n))) _ row)
