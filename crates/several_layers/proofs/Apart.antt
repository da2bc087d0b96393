-- Two sheets of a block map that share no cell: once the first is removed, the second is the same set of darts (`sheet_kept`), its
-- cells are the same (`cells_kept`, `in_cells_kept`), and it has its marks 1 and 2 where it had them (`marks_kept`). Removed one after
-- the other they leave what the removal of both at once leaves (`remove_both`), so the order does not matter (`remove_order`).
use Prim.Native.Nat.{ℕ, ◌≤◌, ◌<◌}
use mathlib.Core.Path.{◌≡◌, refl, sym, ◌∙◌}
use mathlib.Core.Logic.{◌≢◌, ◌↔◌}
use mathlib.Core.Bool.{true, false}
use mathlib.Core.List.{List, [], ◌∷◌}
use native.Mathlib.Omega.{arith}
use Rattle.model.specs.Table.{slots, link, walk}
use Rattle.model.specs.Cell.{cell_of}
use Rattle.model.specs.Sheet.{sheet}
use Rattle.model.specs.Remove.{marked, remove_table}
use Rattle.model.specs.Meaning.Maps.{Dim, MapTable}
use Rattle.model.specs.Meaning.Sets.{Marked, LeastSet, ByLink, SheetStep, along, across, beside}
use Rattle.model.specs.Meaning.Sheets.{BlockDart, marks_of, InCells}
use Rattle.model.specs.Meaning.Walks.{Removes}
use Rattle.theorems.proofs.Lists.Scan.{same_test, if_eq}
use Rattle.theorems.proofs.Maps.Dim.{two_cases}
use Rattle.theorems.proofs.Maps.Tables.{map_table, live_below}
use Rattle.theorems.proofs.Sets.Least.{least_set_unique, least_kept, by_link_same, sheet_is}
use Rattle.theorems.proofs.Cells.Rows.{small}
use Rattle.theorems.proofs.Cells.Cell.{cell_own, cell_same}
use Rattle.theorems.proofs.Operations.Frame.{cell_kept}
use Rattle.theorems.proofs.Layers.Sheet.{sheet_own, sheet_live}
use Rattle.theorems.proofs.Layers.Marks.{marks_one, marks_two, marks_cells, sheet_layer}
use Rattle.theorems.proofs.Layers.Remove.{layer_slots_lem, remove_removes, remove_block, remove_live}
use Rattle.several_layers.specs.Classes.{SameMark}
use Rattle.several_layers.specs.Removals.{ShareNoCell, Disjoint, join}
use Rattle.several_layers.proofs.Classes.{step_live}
use Rattle.several_layers.proofs.Joined.{other_out, other_stays, other_walk, RemovedFrom, both_removes, layers_order}

edge_small : (n : ℕ) → Dim n → small n (1 ∷ 0 ∷ 1 ∷ []) ≡ true
unfolding small
edge_small n dim = two_cases n dim (λ n. small n (1 ∷ 0 ∷ 1 ∷ []) ≡ true) refl refl

-- two sheets share no cell exactly if no dart has a mark 1 or 2 of both
pub share_exactly : {n : ℕ} {t : List ℕ} {d e : ℕ} → BlockDart n t d → BlockDart n t e
    → ShareNoCell n t d e ↔ Disjoint (marks_of n t d) (marks_of n t e)
share_exactly D E = (
  λ apart x h k. apart x ((marks_cells D x).0 h) ((marks_cells E x).0 k),
  λ apart x h k. apart x ((marks_cells D x).1 h) ((marks_cells E x).1 k),
)

pub share_turn : (n : ℕ) (t : List ℕ) (d e : ℕ) → ShareNoCell n t d e → ShareNoCell n t e d
share_turn n t d e apart x h k = apart x k h

-- ---- the second sheet, in the table that the removal of the first leaves

module _ {n : ℕ} {t : List ℕ} {d e : ℕ} (D : BlockDart n t d) (E : BlockDart n t e) (apart : ShareNoCell n t d e) where
  abbrev T : MapTable n t
  T = map_table E.table

  abbrev u : List ℕ
  u = remove_table n t d

  abbrev S : List ℕ
  S = sheet n t e

  abbrev a : List ℕ
  a = marks_of n t d

  abbrev b : List ℕ
  b = marks_of n t e

  abbrev R : Removes n t a u
  R = remove_removes D

  disjoint : Disjoint (marks_of n t d) (marks_of n t e)
  disjoint = (share_exactly D E).0 apart

  same_slots : slots u ≡ slots t
  same_slots = layer_slots_lem (sheet_layer D) R

  out : (x : ℕ) → marked b x ≡ true → marked a x ≡ false
  out = other_out (sheet_layer D) (sheet_layer E) disjoint R

  cell_stays : (x j : ℕ) → j < n → marked b x ≡ true → link u j x ≡ link t j x
  cell_stays = other_stays (sheet_layer D) (sheet_layer E) disjoint R

  in_layer : (x : ℕ) → Marked S x → marked b x ≡ true
  in_layer x h = (marks_cells E x).1 (x, h, cell_own T x (sheet_live E x h))

  -- the darts of the second sheet keep link n too: it leads to a dart of that sheet
  sheet_stays : (x j : ℕ) → (j ≤ n) × (2 ≤ j) → Marked S x → link u j x ≡ link t j x
  sheet_stays x j (low, two) h = if_eq j n (λ q. rw q at_n) (λ (q : j ≢ n). cell_stays x j (omega arith) (in_layer x h))
    where
      at_n : link u n x ≡ link t n x
      at_n =
          let step : SheetStep n t x (link t n x) = beside (record { by = n; allowed = (omega arith, omega arith); leads = refl }) in
          let next = step_live E.table x _ (sheet_live E x h) step in
          let inside = (sheet_is n t e).closed x (link t n x) h step (live_below T _ next) in
          R.keeps x (out x (in_layer x h)) (out (link t n x) (in_layer (link t n x) inside))

  edge_stays : (x : ℕ) → Marked S x → walk u (1 ∷ 0 ∷ 1 ∷ []) x ≡ walk t (1 ∷ 0 ∷ 1 ∷ []) x
  edge_stays x h = other_walk (sheet_layer D) (sheet_layer E) disjoint R _ (edge_small n D.table.dim) x (in_layer x h)

  same_steps : (x y : ℕ) → Marked S x → SheetStep n u x y ↔ SheetStep n t x y
  same_steps x y h = (to, from)
    where
      first : link u 0 x ≡ link t 0 x
      first = let two = D.table.dim.0 in cell_stays x 0 (omega arith) (in_layer x h)

      others : ByLink u (λ j. (j ≤ n) × (2 ≤ j)) x y ↔ ByLink t (λ j. (j ≤ n) × (2 ≤ j)) x y
      others = by_link_same t u (λ j. (j ≤ n) × (2 ≤ j)) x (λ j l. sheet_stays x j l h) y

      to : SheetStep n u x y → SheetStep n t x y
      to (along q) = along (q ∙ first)
      to (across q) = across (q ∙ edge_stays x h)
      to (beside s) = beside (others.0 s)

      from : SheetStep n t x y → SheetStep n u x y
      from (along q) = along (q ∙ sym first)
      from (across q) = across (q ∙ sym (edge_stays x h))
      from (beside s) = beside (others.1 s)

  -- it is the same set of darts
  pub sheet_kept : sheet n (remove_table n t d) e ≡ sheet n t e
  sheet_kept =
      let after : LeastSet (slots t) (λ x. x ≡ e) (SheetStep n u) (sheet n u e) = rw same_slots at (sheet_is n u e) in
      least_set_unique after (least_kept (sheet_is n t e) same_steps)

  -- each of its cells is the same
  pub cells_kept : (g : ℕ) → InCells n t (sheet n t e) g → cell_of n (remove_table n t d) g ≡ cell_of n t g
  cells_kept g (h, s, c) = cell_kept n t u g same_slots (λ y j m low.
      let one = cell_same T h g (sheet_live E h s) c in
      cell_stays y j low ((marks_cells E y).1 (h, s, rw one at m)))

  own_cell : (g : ℕ) → Marked S g → cell_of n u g ≡ cell_of n t g
  own_cell g h = cells_kept g (g, h, cell_own T g (sheet_live E g h))

  -- and it has no others
  pub in_cells_kept : (x : ℕ) → InCells n (remove_table n t d) (sheet n (remove_table n t d) e) x ↔ InCells n t (sheet n t e) x
  in_cells_kept x = (
    λ (g, h, c). let s : Marked S g = rw sheet_kept at h in (g, s, rw (own_cell g s) at c),
    λ (g, h, c). (g, rw sheet_kept h, rw (own_cell g h) c),
  )

  -- its seed is a live dart of a block map
  pub seed_kept : BlockDart n (remove_table n t d) e
  seed_kept = record {
    table = remove_block D;
    lives = (remove_live D e).1 (E.lives, out e (in_layer e (sheet_own E)));
  }

  -- so it has the marks 1 and 2 where it had them
  pub marks_kept : SameMark 1 (marks_of n (remove_table n t d) e) (marks_of n t e)
      × SameMark 2 (marks_of n (remove_table n t d) e) (marks_of n t e)
  marks_kept = (
    λ x. (
      λ p. (marks_one E x).1 (after x ((marks_one seed_kept x).0 p)),
      λ p. (marks_one seed_kept x).1 (before x ((marks_one E x).0 p)),
    ),
    λ x. (
      λ p. let (off, cells) = (marks_two seed_kept x).0 p in
          (marks_two E x).1 (λ h. off (before x h), (in_cells_kept x).0 cells),
      λ p. let (off, cells) = (marks_two E x).0 p in
          (marks_two seed_kept x).1 (λ h. off (after x h), (in_cells_kept x).1 cells),
    ),
  )
    where
      after : (x : ℕ) → Marked (sheet n u e) x → Marked S x
      after x h = rw sheet_kept at h

      before : (x : ℕ) → Marked S x → Marked (sheet n u e) x
      before x h = rw sheet_kept h

  pub marked_kept : (x : ℕ) → marked (marks_of n (remove_table n t d) e) x ≡ marked (marks_of n t e) x
  marked_kept x = same_test
      (λ h. (marks_cells E x).1 ((in_cells_kept x).0 ((marks_cells seed_kept x).0 h)))
      (λ h. (marks_cells seed_kept x).1 ((in_cells_kept x).1 ((marks_cells E x).0 h)))

  then_removes : RemovedFrom n (remove_table n t d) (marks_of n t e) (remove_table n (remove_table n t d) e)
  then_removes = record {
    marks = marks_of n u e;
    layer = sheet_layer seed_kept;
    same = marked_kept;
    removes = remove_removes seed_kept;
  }

  -- one after the other they leave what both at once leave
  pub remove_both : Removes n t (join (marks_of n t d) (marks_of n t e)) (remove_table n (remove_table n t d) e)
  remove_both = both_removes (sheet_layer D) (sheet_layer E) disjoint R then_removes

-- ---- either order

module _ {n : ℕ} {t : List ℕ} {d e : ℕ} (D : BlockDart n t d) (E : BlockDart n t e) (apart : ShareNoCell n t d e) where
  pub remove_order : remove_table n (remove_table n t d) e ≡ remove_table n (remove_table n t e) d
  remove_order = layers_order (sheet_layer D) (sheet_layer E) (disjoint D E apart)
      (remove_removes D) (then_removes D E apart) (remove_removes E) (then_removes E D (share_turn n t d e apart))
