-- remove: its table is as document 01 says (remove_removes), and a block map (remove_block), with no side folded
-- (remove_straight). The new link n of a remaining dart is mutual (remove_mutual), and leads to the dart itself where the walk
-- turns at a free side (remove_turns).
use Prim.Native.Nat.{ℕ, ◌+◌, ◌*◌, ◌≤◌, ◌<◌}
use mathlib.Core.Path.{◌≡◌, refl, sym, ap, ◌∙◌}
use mathlib.Core.Logic.{inl, inr, ◌≢◌, ◌↔◌}
use mathlib.Core.Bool.{true, false}
use mathlib.Core.List.{List}
use native.Mathlib.Omega.{arith}
use lib.ListN.{length}
use borrow.Author.Tests.{eq-eqb, ne_eqb}
use Rattle.model.specs.Table.{unused, slots, link, walk, live}
use Rattle.model.specs.Cell.{cell_size}
use Rattle.model.specs.Remove.{opposite, marked, outside, removed_link, removed, remove_table}
use Rattle.model.specs.Sew.{side}
use Rattle.model.specs.Meaning.Maps.{MapTable, Straight, BlockTable, Rule}
use Rattle.model.specs.Meaning.Places.{place}
use Rattle.model.specs.Meaning.Sets.{Marked}
use Rattle.model.specs.Meaning.Sheets.{BlockDart, marks_of}
use Rattle.model.specs.Meaning.Walks.{Layer, Reaches, arrived, FirstOutside, Removes}
use Rattle.theorems.proofs.Lists.Scan.{test, if_eq, if_lt, clash}
use Rattle.theorems.proofs.Maps.Rules.{live_in, dead_by, link_out, length_retable, link_retable, slots_retable}
use Rattle.theorems.proofs.Maps.Dim.{size_some}
use Rattle.theorems.proofs.Maps.Tables.{map_table, live_below, rule_at}
use Rattle.theorems.proofs.Cells.Chart.{Ruled, ruled_table, live_of, of_live, live_same}
use Rattle.theorems.proofs.Cells.Chart.{block_by, Charted, place_chart, place_zero, place_live, place_keep, chart_kept}
use Rattle.theorems.proofs.Sewing.Side.{live_before, on_side, side_within, side_shrinks}
use Rattle.theorems.proofs.Operations.Frame.{outside_stops}
use Rattle.theorems.proofs.Layers.Walk.{outside_unique, stays_outside, walk_ends, walk_live, walk_back, walk_far, walk_turns}
use Rattle.theorems.proofs.Layers.Mirror.{walk_own}
use Rattle.theorems.proofs.Layers.Marks.{sheet_layer}

-- ---- the links of the new table

module _ (n : ℕ) (t m : List ℕ) (x : ℕ) where
  pub gone_link : (j : ℕ) → marked m x ≡ true → removed_link n t m x j ≡ unused
  unfolding removed_link
  gone_link j e = rw (e, removed_link)

  pub stays_link : (j : ℕ) → marked m x ≡ false → j ≢ n → removed_link n t m x j ≡ link t j x
  unfolding removed_link
  stays_link j e ne = rw (e, ne_eqb j n ne, removed_link)

  pub found_link : marked m x ≡ false → removed_link n t m x n ≡ outside n t m (slots t) (link t n x)
  unfolding removed_link
  found_link e = rw (e, eq-eqb n n refl, removed_link)

module _ {n : ℕ} {t m : List ℕ} (L : Layer n t m) where
  abbrev whole : length t ≡ 4 * slots t
  whole = L.table.whole

  low : n < 4
  low = let dim = L.table.dim in omega arith

  -- an unused slot is not marked, and its link n does not lead to a marked one
  unmarked : (x : ℕ) → live t x ≡ false → marked m x ≡ false
  unmarked x dead = test (marked m x) (λ e. absurd (clash (L.lives x e) dead)) (λ e. e)

  pub next_lives : (x : ℕ) → marked m (link t n x) ≡ true → live t x ≡ true
  next_lives x e = live_before (map_table L.table) x n low (L.lives (link t n x) e)

  -- link j of x is v, where the rule gives v, and v is `unused` past the slots
  new_link_lem : (x j v : ℕ) → j < 4 → removed_link n t m x j ≡ v → (slots t ≤ x → unused ≡ v) → link (removed n t m) j x ≡ v
  unfolding removed
  new_link_lem x j v b e beyond = if_lt x (slots t) (λ low. link_retable t (removed_link n t m) whole x j low b ∙ e)
      (λ out. link_out (removed n t m) x fits (rw same out) j ∙ beyond out)
    where
      same : slots (removed n t m) ≡ slots t
      same = slots_retable t (removed_link n t m) whole

      fits : length (removed n t m) ≡ 4 * slots (removed n t m)
      fits = rw same (length_retable t (removed_link n t m) whole ∙ whole)

  layer_removes : Removes n t m (removed n t m)
  unfolding removed
  layer_removes = record {
    long = length_retable t (removed_link n t m) whole;
    gone = λ x j b e. new_link_lem x j unused b (gone_link n t m x j e) (λ _. refl);
    found = λ x out e.
        let l = next_lives x e in
        let at = link_retable t (removed_link n t m) whole x n (live_in t x whole l) low ∙ found_link n t m x out in
        rw at (walk_ends L x l out);
    stays = λ x j b ne e. new_link_lem x j (link t j x) b (stays_link n t m x j e ne) (λ out. sym (link_out t x whole out j));
    keeps = λ x e next.
        let stops = outside_stops n t m (slots t) (link t n x) next in
        new_link_lem x n (link t n x) low (found_link n t m x e ∙ stops) (λ out. sym (link_out t x whole out n));
  }

-- ---- what follows of any such table

module _ {n : ℕ} {t m u : List ℕ} (L : Layer n t m) (R : Removes n t m u) where
  abbrev B : BlockTable n t
  B = L.table

  -- a dart that is live and not taken away
  abbrev Remains : ℕ → Type 0
  Remains x = (live t x ≡ true) × (marked m x ≡ false)

  pub layer_slots_lem : slots u ≡ slots t
  unfolding slots
  layer_slots_lem = rw R.long

  -- the new link n of a remaining dart is the first dart outside on the walk; where that begins outside, it is the old one
  pub layer_walk : (x : ℕ) → marked m x ≡ false → FirstOutside n t m (link u n x) (link t n x)
  layer_walk x out = test (marked m (link t n x)) (R.found x out) (λ e.
      let same = R.keeps x out e in
      record { reached = arrived (sym same); outside = ap (marked m) same ∙ e })

  new_remains : (x : ℕ) → Remains x → Remains (link u n x)
  new_remains x (l, out) = let w = layer_walk x out in (walk_live L x l out w, w.outside)

  layer_mutual : (x : ℕ) → live t x ≡ true → marked m x ≡ false → link u n (link u n x) ≡ x
  layer_mutual x l out =
      let w = layer_walk x out in
      outside_unique (layer_walk (link u n x) w.outside) (walk_back L x l out w)

  link_remains : (x j : ℕ) → j < 4 → j ≢ n → Remains x → Remains (link t j x)
  link_remains x j b ne (l, out) = if_lt j n (λ h. ((rule_at (map_table B) x l).goes j b, stays_outside L x j h l out)) (λ h.
      let dim = B.dim in
      let three : j ≡ 3 = omega arith in
      rw (three, (rule_at (map_table B) x l).plane (omega arith)) (l, out))

  new_far : (x j : ℕ) → j + 2 ≤ n → Remains x → link u n (link t j x) ≡ link t j (link u n x)
  new_far x j far (l, out) =
      let four = low L in
      let next = link_remains x j (omega arith) (omega arith) (l, out) in
      outside_unique (layer_walk (link t j x) next.1) (walk_far L x l out j far (layer_walk x out))

  stays : (x j : ℕ) → j < 4 → j ≢ n → Remains x → link u j x ≡ link t j x
  stays x j b ne r = R.stays x j b ne r.1

  -- a slot that was unused stays so
  stays_unused : (x : ℕ) → live t x ≡ false → live u x ≡ false
  stays_unused x dead = live_same t u x (λ j b. if_eq j n (λ e. rw e (R.keeps x out next)) (λ ne. R.stays x j b ne out)) ∙ dead
    where
      out : marked m x ≡ false
      out = unmarked L x dead

      next : marked m (link t n x) ≡ false
      next = test (marked m (link t n x)) (λ e. absurd (clash (next_lives L x e) dead)) (λ e. e)

  ruled : Ruled n u Remains
  ruled = record {
    few = rw layer_slots_lem B.few;
    inside = λ x r. rw layer_slots_lem (live_in t x B.whole r.0);
    other = λ x _. test (live t x) (λ l. test (marked m x) (λ e. inr (gone x e)) (λ e. inl (l, e))) (λ l. inr (stays_unused x l));
    goes = λ x j b r. if_eq j n (λ e. rw e (new_remains x r)) (λ ne. rw (stays x j b ne r) (link_remains x j b ne r));
    comes = λ x j b r. if_eq j n (λ e. rw e (layer_mutual x r.0 r.1))
        (λ ne. rw (stays x j b ne r, stays (link t j x) j b ne (link_remains x j b ne r)) ((rule x r).comes j b));
    cross = λ x i j far le r.
        if_eq j n (λ e. rw e (cross_n x i (omega arith) r)) (λ ne. cross_stays x i j far (omega arith) r);
    plane = λ x two r. stays x 3 (omega arith) (omega arith) r ∙ (rule x r).plane two;
  }
    where
      rule : (x : ℕ) → Remains x → Rule n t x
      rule x r = rule_at (map_table B) x r.0

      gone : (x : ℕ) → marked m x ≡ true → live u x ≡ false
      gone x e = let at : (j : ℕ) → j < 4 → link u j x ≡ unused = λ j b. R.gone x j b e in
          dead_by u x (at 0 (omega arith)) (at 1 (omega arith)) (at 2 (omega arith)) (at 3 (omega arith))

      cross_n : (x i : ℕ) → i + 2 ≤ n → Remains x → link u n (link u i (link u n (link u i x))) ≡ x
      cross_n x i far r =
          let four = low L in
          let next = new_remains x r in
          let back = link_remains (link u n x) i (omega arith) (omega arith) next in
          rw (
            stays x i (omega arith) (omega arith) r,
            new_far x i far r,
            stays (link t i (link u n x)) i (omega arith) (omega arith) back,
            (rule (link u n x) next).comes i (omega arith),
          ) (layer_mutual x r.0 r.1)

      cross_stays : (x i j : ℕ) → i + 2 ≤ j → j < n → Remains x → link u j (link u i (link u j (link u i x))) ≡ x
      cross_stays x i j far b r =
          let four = low L in
          let first = link_remains x i (omega arith) (omega arith) r in
          let second = link_remains (link t i x) j (omega arith) (omega arith) first in
          let third = link_remains (link t j (link t i x)) i (omega arith) (omega arith) second in
          rw (
            stays x i (omega arith) (omega arith) r,
            stays (link t i x) j (omega arith) (omega arith) first,
            stays (link t j (link t i x)) i (omega arith) (omega arith) second,
            stays (link t i (link t j (link t i x))) j (omega arith) (omega arith) third,
          )
          ((rule x r).cross i j far (omega arith))

  layer_table : MapTable n u
  layer_table = ruled_table B.dim (rw layer_slots_lem (R.long ∙ B.whole)) ruled

  -- the live slots are the remaining ones
  pub layer_live : (x : ℕ) → (live u x ≡ true) ↔ ((live t x ≡ true) × (marked m x ≡ false))
  layer_live x = (λ l. of_live n u Remains ruled x (live_below layer_table x l) l, live_of n u Remains ruled x)

  -- "Prove that remove then never makes one": the side of a remaining dart is what it was, and where the walk from the dart
  -- ends in that side, it ends at the dart
  layer_straight : (x : ℕ) → live u x ≡ true → Straight n u x
  layer_straight x l m =
      let (lx, out) = (layer_live x).0 l in
      let top = B.dim.1 in
      let on = on_side (map_table B) x lx in
      let remains : (y : ℕ) → Marked (side n t n x) y → Remains y
      = side_within n t x Remains (lx, out) (λ y j near r. link_remains y j (omega arith) (omega arith) r) in
      let within = side_shrinks on u (λ y j near h. stays y j (omega arith) (omega arith) (remains y h)) in
      walk_own B x (link u n x) lx (within (link u n x) m) (layer_walk x out).reached

  layer_block : BlockTable n u
  layer_block = block_by layer_table (λ x l. charted x ((layer_live x).0 l)) layer_straight
    where
      charted : (x : ℕ) → Remains x → Charted n u x
      charted x (l, out) =
          let some = size_some n B.dim in
          let at : (k : ℕ) → k < cell_size n → Remains (place n t x k)
          = λ k b. (place_live B x k l b, place_keep B (λ y. marked m y ≡ false) (λ y j. stays_outside L y j) x k l b out) in
          record {
            c = place n t x;
            chart = chart_kept B u (place n t x) (place_chart B x l)
                (λ i k b low. stays (place n t x k) i (omega arith) (omega arith) (at k low));
            base = (layer_live (place n t x 0)).1 (at 0 some);
            k = 0;
            low = some;
            is = place_zero B x l;
          }

  layer_turns : (x y : ℕ) → live t x ≡ true → marked m x ≡ false → Reaches n t m y (link t n x) → marked m y ≡ true
      → link t n (walk t (opposite n) y) ≡ walk t (opposite n) y → link u n x ≡ x
  layer_turns x y l out p e free = outside_unique (layer_walk x out) (walk_turns L x l out y p e free)

  layer_all : ((x : ℕ) → live t x ≡ true → marked m x ≡ true) → (x : ℕ) → live u x ≡ false
  layer_all all x = test (live u x) (λ e. let r = (layer_live x).0 e in absurd (clash (all x r.0) r.1)) (λ e. e)

-- ---- remove, with the marks of a sheet

module _ {n : ℕ} {t : List ℕ} {d : ℕ} (D : BlockDart n t d) where
  abbrev L : Layer n t (marks_of n t d)
  L = sheet_layer D

  pub remove_removes : Removes n t (marks_of n t d) (remove_table n t d)
  unfolding remove_table
  remove_removes = layer_removes L

  pub remove_block : BlockTable n (remove_table n t d)
  remove_block = layer_block L remove_removes

  -- no side of what is left is folded
  pub remove_straight : (x : ℕ) → live (remove_table n t d) x ≡ true → Straight n (remove_table n t d) x
  remove_straight = layer_straight L remove_removes

  -- the walk from a remaining dart ends, at a live dart: its new link n
  pub remove_walk : (x : ℕ) → live t x ≡ true → marked (marks_of n t d) x ≡ false
      → FirstOutside n t (marks_of n t d) (link (remove_table n t d) n x) (link t n x)
      × (live t (link (remove_table n t d) n x) ≡ true)
  remove_walk x l out = let w = layer_walk L remove_removes x out in (w, walk_live L x l out w)

  pub remove_live : (x : ℕ) → (live (remove_table n t d) x ≡ true) ↔ ((live t x ≡ true) × (marked (marks_of n t d) x ≡ false))
  remove_live = layer_live L remove_removes

  pub remove_mutual : (x : ℕ) → live t x ≡ true → marked (marks_of n t d) x ≡ false
      → link (remove_table n t d) n (link (remove_table n t d) n x) ≡ x
  remove_mutual = layer_mutual L remove_removes

  -- where the walk from x meets a dart y whose opposite side is n-free, x becomes n-free
  pub remove_turns : (x y : ℕ) → live t x ≡ true → marked (marks_of n t d) x ≡ false
      → Reaches n t (marks_of n t d) y (link t n x) → marked (marks_of n t d) y ≡ true
      → link t n (walk t (opposite n) y) ≡ walk t (opposite n) y → link (remove_table n t d) n x ≡ x
  remove_turns = layer_turns L remove_removes

  -- "Removing all is accepted."
  pub remove_all : ((x : ℕ) → live t x ≡ true → marked (marks_of n t d) x ≡ true) → (x : ℕ) → live (remove_table n t d) x ≡ false
  remove_all = layer_all L remove_removes
