-- Table and record of a read, written cell by cell: `cells_none`, `cells_new`, `cells_all`.
use Prim.Native.Nat.{ℕ, ◌+◌, ◌*◌, ◌/◌, ◌%◌, ◌≤◌, ◌<◌}
use mathlib.Core.Path.{◌≡◌, refl, sym, ◌∙◌}
use mathlib.Core.List.{List}
use native.Mathlib.Omega.{arith}
use lib.ListN.{length, get_or, replicate, get_or-replicate}
use Rattle.model.specs.Table.{unused, slots, link}
use Rattle.model.specs.Numbering.{cell_link}
use Rattle.model.specs.Journal.{cursor, changes_from}
use Rattle.model.specs.Faces.{darts, partner, vtk_table}
use Rattle.model.specs.Meaning.Numbers.{JournalRule}
use Rattle.model.specs.Meaning.Vtk.{Readable}
use Rattle.theorems.proofs.Lists.Scan.{below_four}
use Rattle.theorems.proofs.Maps.Rules.{dead_link}
use Rattle.theorems.proofs.Vtk.Table.{read_long, read_cells, read_partner, read_goes, read_stays}
use Rattle.drafts.specs.Drafts.{drafted}
use Rattle.drafts.specs.Passes.{Pass, FourLinks}
use Rattle.drafts.proofs.Passes.{Wrote, pass_start, pass_length, pass_word, pass_over, pass_end}
use Rattle.vtk_table.specs.Cells.{dart_links, Placed, NewCell, NewCells}
use Rattle.vtk_table.proofs.Placing.{placed_all}

-- the same pass, by other words for the same numbers
pub pass_at : {t u j : List ℕ} {x x' at at' : ℕ} {w : List ℕ} → x ≡ x' → at ≡ at' → Pass t u j x at w → Pass t u j x' at' w
pass_at p q P = rw (← p, ← q) P

-- the same triple, by other words for its numbers
pub wrote_as : {e e' old old' new new' at : ℕ} {w w' : List ℕ} → e ≡ e' → old ≡ old' → new ≡ new' → Wrote e old new at w w'
    → Wrote e' old' new' at w w'
wrote_as p q r wrote = rw (← p, ← q, ← r) wrote

-- ---- one cell

module _ {t u thirds : List ℕ} {c : ℕ} (new : NewCell t u thirds c) where
  pub cell_inside : 48 * c + 48 ≤ slots t
  cell_inside = let last = (new.four 47 (omega arith)).inside in omega arith

  module _ {j : List ℕ} {k at : ℕ} {w : List ℕ} (P : Pass t u j (48 * c + k) at w) (up : k ≤ 48) where
    pub cell_long : length w ≡ length j
    cell_long = let inside = cell_inside in pass_length P (omega arith)

    pub cell_word : JournalRule j → at < 1048576
    cell_word rule =
        let inside = cell_inside in
        let word = pass_word P (omega arith) in
        let long = cell_long in
        let few = rule.few in
        omega arith

-- ---- all cells

module _ {t : List ℕ} {rows : List (List ℕ)} {mates : List ℕ} {cells : ℕ} {j : List ℕ}
    (N : NewCells t rows mates cells j)
  where
    readable : Readable t rows
    readable = N.are.readable

    pub cells_none : Pass t (vtk_table t rows) j (48 * 0) (cursor j + 2) j
    cells_none = pass_start (sym (read_long readable)) readable.whole readable.few N.room

    module _ {c at : ℕ} {w : List ℕ} where
      pub cells_long : Pass t (vtk_table t rows) j (48 * c) at w → c ≤ cells → length w ≡ length j
      unfolding darts
      cells_long P up =
          let number = N.number in
          let room = readable.room in
          pass_length P (omega arith)

      pub cells_word : Pass t (vtk_table t rows) j (48 * c) at w → c ≤ cells → at < 1048576
      unfolding darts
      cells_word P up =
          let number = N.number in
          let room = readable.room in
          let word = pass_word P (omega arith) in
          let long = cells_long P up in
          let few = N.rule.few in
          omega arith

    -- the darts of the cell c
    module _ (c : ℕ) (low : c < length rows) (thirds : List ℕ) (sewn : (k : ℕ) → k < 48 → get_or thirds k 0 ≡ partner rows (48 * c + k)) where
      dart_low : (k : ℕ) → k < 48 → 48 * c + k < darts rows
      unfolding darts
      dart_low k h = omega arith

      -- link i of the dart k, in the list and in the new table
      listed : (k : ℕ) → k < 48 → (i : ℕ) → i < 4
          → get_or (dart_links (48 * c) (get_or thirds k 0) k) i 0 ≡ link (vtk_table t rows) i (48 * c + k)
      listed k h = below_four (λ i. get_or (dart_links (48 * c) (get_or thirds k 0) k) i 0 ≡ link (vtk_table t rows) i (48 * c + k))
          (own 0 (omega arith)) (own 1 (omega arith)) (own 2 (omega arith))
          (sewn k h ∙ sym (read_partner readable (48 * c + k) (dart_low k h)))
        where
          own : (i : ℕ) → i < 3 → cell_link 3 i k + 48 * c ≡ link (vtk_table t rows) i (48 * c + k)
          own i index = omega (arith, read_cells readable i c k index low h)

      pub cells_new : NewCell t (vtk_table t rows) thirds c
      cells_new = record { four = four }
        where
          four : (k : ℕ) → k < 48 → FourLinks t (vtk_table t rows) (48 * c + k) (replicate 4 unused) (dart_links (48 * c) (get_or thirds k 0) k)
          four k h = record {
            inside = let inside = dart_low k h in let room = readable.room in omega arith;
            before = λ i b. get_or-replicate 4 i unused 0 b ∙ sym (dead_link t (48 * c + k) (readable.empty (48 * c + k)) i b);
            after = listed k h;
            differ = λ i b q.
                let goes = read_goes readable i (48 * c + k) b (dart_low k h) in
                let room = readable.room in
                let few = readable.few in
                let is = listed k h i b in
                let old = get_or-replicate 4 i unused 0 b in
                omega arith;
          }

    pub cells_all : {at : ℕ} {v w : List ℕ} → Placed t (vtk_table t rows) (4 * (48 * cells)) v → Pass t (vtk_table t rows) j (48 * cells) at w
        → (v ≡ vtk_table t rows) × (w ≡ drafted j (changes_from 0 t (vtk_table t rows)))
    unfolding darts link
    cells_all placed P =
        let number = N.number in
        let room = readable.room in (
          placed_all placed (sym (read_long readable)) (λ y l h.
              let place : 4 * (y / 4) + y % 4 ≡ y = omega arith in
              rw place at (read_stays readable (y % 4) (y / 4) (omega arith) (omega arith))),
          (pass_end (pass_over P (slots t) (omega arith) (omega arith) (λ z l h k b. read_stays readable k z b (omega arith))) N.rule _ refl
              ).draft,
        )
