-- The cells after split: each cell that holds a dart of the sheet becomes two good cells (`two_cells`), every other cell
-- stays (`cell_stays`), and there are no others (`all_cells`).
use Prim.Native.Nat.{ℕ, ◌<◌}
use mathlib.Core.Path.{◌≡◌, sym, ◌∙◌}
use mathlib.Core.Logic.{◌⊎◌, inl, inr, ⊎_elim}
use mathlib.Core.Bool.{true}
use mathlib.Core.List.{List, Memᴰ as In}
use native.Mathlib.Omega.{arith}
use Rattle.model.specs.Table.{link, live}
use Rattle.model.specs.Cell.{cell_size, cell_of}
use Rattle.model.specs.NewDarts.{new_dart}
use Rattle.model.specs.Split.{split_by}
use Rattle.model.specs.Meaning.Maps.{BlockTable}
use Rattle.model.specs.Meaning.Places.{place, AtPlace, Chart}
use Rattle.model.specs.Meaning.Sets.{Marked}
use Rattle.model.specs.Meaning.Splits.{TwoCells, Splitting}
use Rattle.theorems.proofs.Maps.Tables.{map_table}
use Rattle.theorems.proofs.Cells.Cell.{cell_own, cell_live, cell_same, all_places, place_in}
use Rattle.theorems.proofs.Cells.Chart.{chart_place, place_chart}
use Rattle.theorems.proofs.Operations.Frame.{cell_kept}
use Rattle.theorems.proofs.Layers.NewDarts.{Live, old, new}
use Rattle.theorems.proofs.Layers.Splitting.{split_slots, split_kept}
use Rattle.theorems.proofs.Layers.SplitMap.{split_live, live_split}
use Rattle.theorems.proofs.Layers.SplitBlock.{half_dart, InHalf, half_chart, half_own, half_live, half_old, across_out}
use Rattle.theorems.proofs.Layers.SplitBlock.{place_in_half, new_in_half, half_or, split_block}

-- ---- a cell is its places, and its chart

module _ {n : ℕ} {t : List ℕ} (B : BlockTable n t) (d : ℕ) (l : live t d ≡ true) where
  place_marked : (k : ℕ) → k < cell_size n → Marked (cell_of n t d) (place n t d k)
  place_marked = place_in (map_table B) d l

  marked_place : (x : ℕ) → Marked (cell_of n t d) x → AtPlace n t d x
  marked_place = all_places (map_table B) d l (place_chart B d l).follow

module _ {n : ℕ} {u : List ℕ} (U : BlockTable n u) (c : ℕ → ℕ) (chart : Chart n u c) (base : live u (c 0) ≡ true) where
  seen : (k : ℕ) → k < cell_size n → place n u (c 0) k ≡ c k
  seen = chart_place (map_table U) c chart base

  -- of a dart that stands first in its chart
  chart_marked : (d : ℕ) → d ≡ c 0 → (x : ℕ) → (k : ℕ) × (k < cell_size n) × (x ≡ c k) → Marked (cell_of n u d) x
  chart_marked d q x (k, h, e) = rw (q, e, ← seen k h) (place_marked U (c 0) base k h)

  marked_chart : (d : ℕ) → d ≡ c 0 → (x : ℕ) → Marked (cell_of n u d) x → (k : ℕ) × (k < cell_size n) × (x ≡ c k)
  marked_chart d q x m =
      let (k, h, e) = marked_place U (c 0) base x (rw q at m) in
      (k, h, e ∙ seen k h)

-- ---- each split cell becomes two

module _ {n : ℕ} {t gs fs : List ℕ} (C : Splitting n t gs fs) where
  abbrev after : List ℕ
  after = split_by n t gs fs

  abbrev before : BlockTable n t
  before = C.table

  U : BlockTable n after
  U = split_block C

  half_marked : (g : ℕ) → In g gs → (x : ℕ) → InHalf n t gs fs g x → Marked (cell_of n after g) x
  half_marked g i = chart_marked U (half_dart n t gs fs g) (half_chart C g i) (half_live C g i) g (half_own C g i)

  marked_half : (g : ℕ) → In g gs → (x : ℕ) → Marked (cell_of n after g) x → InHalf n t gs fs g x
  marked_half g i = marked_chart U (half_dart n t gs fs g) (half_chart C g i) (half_live C g i) g (half_own C g i)

  pub two_cells : (g : ℕ) → In g gs → TwoCells n t after g
  two_cells g i = record {
    good_here = U.good g l;
    good_across = U.good (link t 0 g) l₀;
    apart = apart;
    shared = shared;
    from = λ x lx m.
        let (p, h, e) = half_old C g i x (marked_half g i x m) lx in
        rw e (place_marked before g lives p h);
  }
    where
      i₀ : In (link t 0 g) gs
      i₀ = C.sheet.along g i

      lives : live t g ≡ true
      lives = C.sheet.lives g i

      l : live after g ≡ true
      l = split_live C g (old lives)

      l₀ : live after (link t 0 g) ≡ true
      l₀ = split_live C (link t 0 g) (old (C.sheet.lives _ i₀))

      apart : (x : ℕ) → Marked (cell_of n after g) x → Marked (cell_of n after (link t 0 g)) x → ⊥
      apart x m m₀ =
          let same = sym (cell_same (map_table U) (link t 0 g) x l₀ m₀) ∙ cell_same (map_table U) g x l m in
          across_out C g i (marked_half g i (link t 0 g) (rw same at (cell_own (map_table U) (link t 0 g) l₀)))

      shared : (x : ℕ) → Marked (cell_of n t g) x → Marked (cell_of n after g) x ⊎ Marked (cell_of n after (link t 0 g)) x
      shared x m =
          let (p, h, e) = marked_place before g lives x m in
          rw e (⊎_elim (λ w. inl (half_marked g i _ w)) (λ w. inr (half_marked (link t 0 g) i₀ _ w)) (place_in_half C g p i h))

  -- the new darts of g are in its cell
  pub new_marked : (r g : ℕ) → r < n → In g gs → Marked (cell_of n after g) (new_dart n gs fs r g)
  new_marked r g b i = half_marked g i _ (new_in_half C r g b i)

  -- ---- every other cell stays

  -- the cell of x holds no dart of the sheet
  abbrev pub Unsplit : ℕ → Type 0
  Unsplit x = (y : ℕ) → Marked (cell_of n t x) y → In y gs → ⊥

  pub cell_stays : (x : ℕ) → live t x ≡ true → Unsplit x → cell_of n after x ≡ cell_of n t x
  cell_stays x l none = cell_kept n t after x (split_slots C) (λ y j m b.
      let top = before.dim.1 in
      split_kept C y j (cell_live (map_table before) x l y m) (omega arith) (λ _. none y m))

  -- and there are no others
  pub all_cells : (x : ℕ) → live after x ≡ true
      → ((live t x ≡ true) × Unsplit x) ⊎ ((g : ℕ) × In g gs × Marked (cell_of n after g) x)
  all_cells x l = cases (live_split C x l)
    where
      cases : Live n t gs fs x → ((live t x ≡ true) × Unsplit x) ⊎ ((g : ℕ) × In g gs × Marked (cell_of n after g) x)
      cases (old l) = half_or C x l (λ g i w. inr (g, i, half_marked g i x w))
          (λ off. inl (l, λ y m i. let (k, h, e) = marked_place before x l y m in off k h (rw e at i)))
      cases (new w) = inr (w.of, w.member, rw w.is (new_marked w.role w.of w.low w.member))
