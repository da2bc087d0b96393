-- The block test says what 01 and 02's R-4 say of a block map, and a cell is good exactly if its places follow the numbering and
-- no side is folded.
-- Main theorems: `good_exactly` and `cell_places` (one cell), `block_exactly` (the test), `least_wrong_lem` and `none_wrong` (the
-- place of refusal 8), `block_of` and `of_block` (what the test says of a table).
use Prim.Native.Nat.{ℕ, ◌<◌}
use mathlib.Core.Path.{◌≡◌, sym, ap, ◌∙◌}
use mathlib.Core.Logic.Iff
use mathlib.Core.Logic.{◌↔◌, ◌≢◌}
use mathlib.Core.Bool.{true}
use mathlib.Core.List.{List}
use native.Mathlib.Omega.{arith}
use borrow.Author.Tests.{eqb-true, eq-eqb}
use Rattle.model.specs.Table.{slots, walk, live}
use Rattle.model.specs.Cell.{cell_size, cell_of, good_cell, in_wrong_cell, least_wrong, is_block}
use Rattle.model.specs.Meaning.Sets.{Marked}
use Rattle.model.specs.Meaning.Maps.{MapTable, BlockTable, GoodCell, Block, LeastFailing}
use Rattle.model.specs.Meaning.Places.{place, AtPlace, Listed}
use Rattle.theorems.proofs.Maps.Failing.{failing, least_failing, none_failing}
use Rattle.theorems.proofs.Maps.Tables.{map_table, live_below}
use Rattle.theorems.proofs.Cells.Rows.{small, row_walk, row_walk_in, walk_rows, path_zero}
use Rattle.theorems.proofs.Cells.Rows.{path_back, back_small, back_leads, back_other}
use Rattle.theorems.proofs.Cells.Cell.{good_cell_lem, cell_own, cell_live, place_in, all_places, good_chart, chart_good}

module _ {n : ℕ} {t : List ℕ} (T : MapTable n t) where
  -- ---- one cell

  module _ (d : ℕ) (live_d : live t d ≡ true) where
    -- two places that were one dart would lead, on the way back from the first, to a place that is d
    listed_apart : Listed n t d → (a b : ℕ) → a < b → b < cell_size n → place n t d a ≡ place n t d b → ⊥
    listed_apart l a b ab hb same = l.other c (let q = later in omega arith) (row_walk_in n back b T.dim low hb) is_first_lem
      where
        ha : a < cell_size n
        ha = omega arith

        back : List ℕ
        back = path_back n a

        low : small n back ≡ true
        low = back_small n a T.dim ha

        goes : (k : ℕ) → k < cell_size n → walk t back (place n t d k) ≡ place n t d (row_walk n back k)
        goes k h = walk_rows n t (place n t d) T.dim l.follow back k low h

        first : walk t back (place n t d a) ≡ d
        first = goes a ha ∙ ap (place n t d) (back_leads n a T.dim ha) ∙ sym (path_zero n T.dim t d)

        c : ℕ
        c = row_walk n back b

        later : c ≢ 0
        later = back_other n a T.dim ha b hb (omega arith)

        is_first_lem : place n t d c ≡ d
        is_first_lem = sym (goes b hb) ∙ ap (walk t back) (sym same) ∙ first

    pub good_exactly : (good_cell n t (cell_of n t d) ≡ true) ↔ Listed n t d
    good_exactly = (to, from)
      where
        to : good_cell n t (cell_of n t d) ≡ true → Listed n t d
        to h =
            let ch = good_chart T d live_d h in
            record {
              follow = ch.follow;
              other = λ k some low e. ch.apart 0 k some low (sym (path_zero n T.dim t d) ∙ sym e);
              straight = λ k low. ((good_cell_lem n t _).0 h).straight _ (place_in T d live_d k low);
            }

        from : Listed n t d → good_cell n t (cell_of n t d) ≡ true
        from l = chart_good T d live_d (record { follow = l.follow; apart = listed_apart l }) l.straight

    pub cell_places : good_cell n t (cell_of n t d) ≡ true → (x : ℕ) → Marked (cell_of n t d) x ↔ AtPlace n t d x
    cell_places h x = (all_places T d live_d (good_chart T d live_d h).follow x, λ (k, low, e). rw e (place_in T d live_d k low))

  -- ---- all cells

  -- "least live slot in a wrong cell"
  pub least_wrong_lem : (d : ℕ) → d < slots t → (least_wrong n t ≡ d) ↔ LeastFailing t (λ x. GoodCell n t (cell_of n t x)) d
  unfolding least_wrong in_wrong_cell failing
  least_wrong_lem = least_failing t (λ x. good_cell n t (cell_of n t x)) _ (λ x _. good_cell_lem n t (cell_of n t x))

  block_cells : ((d : ℕ) → d < slots t → live t d ≡ true → good_cell n t (cell_of n t d) ≡ true) ↔ Block n t
  block_cells = (to, from)
    where
      to : ((d : ℕ) → d < slots t → live t d ≡ true → good_cell n t (cell_of n t d) ≡ true) → Block n t
      to h = record {
        size = λ d l. (good d l).size;
        square = λ d l. (good d l).square d (cell_own T d l);
        corner = λ e d l. (good d l).corner e d (cell_own T d l);
        straight = λ d l. (good d l).straight d (cell_own T d l);
      }
        where
          good : (d : ℕ) → live t d ≡ true → GoodCell n t (cell_of n t d)
          good d l = (good_cell_lem n t (cell_of n t d)).0 (h d (live_below T d l) l)

      from : Block n t → (d : ℕ) → d < slots t → live t d ≡ true → good_cell n t (cell_of n t d) ≡ true
      from b d _ l = (good_cell_lem n t (cell_of n t d)).1 (record {
        size = b.size d l;
        square = λ x m. b.square x (cell_live T d l x m);
        corner = λ e x m. b.corner e x (cell_live T d l x m);
        straight = λ x m. b.straight x (cell_live T d l x m);
      })

  -- no cell is wrong exactly if each is good
  all_good_lem : (least_wrong n t ≡ slots t) ↔ ((d : ℕ) → d < slots t → live t d ≡ true → good_cell n t (cell_of n t d) ≡ true)
  unfolding least_wrong in_wrong_cell failing
  all_good_lem = none_failing t (λ x. good_cell n t (cell_of n t x))

  pub none_wrong : (least_wrong n t ≡ slots t) ↔ Block n t
  none_wrong = Iff.trans all_good_lem block_cells

  pub block_exactly : (is_block n t ≡ true) ↔ Block n t
  unfolding is_block
  block_exactly = (λ h. none_wrong.0 (eqb-true _ _ h), λ b. eq-eqb _ _ (none_wrong.1 b))

-- ---- the block test, of a table as a whole

module _ (n : ℕ) (t : List ℕ) where
  pub block_of : MapTable n t → is_block n t ≡ true → BlockTable n t
  unfolding is_block
  block_of T h = record {
    dim = T.dim;
    whole = T.whole;
    few = T.few;
    map = T.map;
    good = λ d l. (all_good_lem T).0 (eqb-true _ _ h) d (live_below T d l) l;
  }

  pub of_block : BlockTable n t → is_block n t ≡ true
  unfolding is_block
  of_block B = eq-eqb _ _ ((all_good_lem (map_table B)).1 (λ d _ l. B.good d l))
