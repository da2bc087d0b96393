-- insert in R-5's words, where no check but 15 refuses it (`Inserts`): `insert_links` has the links, `insert_stays` all else,
-- `layer_in_order`, `insert_lowest` and `layer_apart` the new darts and their slots, `insert_lives` the number of live slots,
-- `insert_changes` that of the entries changed; `insert_keeps`: the table stays a block map; `insert_sheet` and `insert_cells` have
-- the sheet through the new crossing edges, `insert_back` that remove there gives back the old table.
use Prim.Native.Nat.{ℕ, ◌+◌, ◌*◌, ◌-◌, ◌≤◌, ◌<◌}
use mathlib.Core.Path.{◌≡◌, sym, ap, ◌∙◌, subst}
use mathlib.Core.Logic.Iff
use mathlib.Core.Logic.{◌≢◌, ◌↔◌, ⊎_elim}
use mathlib.Core.Bool.{true}
use mathlib.Core.List.{List, Memᴰ as In}
use native.Mathlib.Omega.{arith}
use lib.ListN.{length, get_or}
use lib.Seq.{get_or-take}
use Rattle.model.specs.Lists.{count, index_of}
use Rattle.model.specs.Table.{unused, slots, link, live, unused_slots, live_count}
use Rattle.model.specs.Cell.{cell_of}
use Rattle.model.specs.Journal.{changes_from}
use Rattle.model.specs.Sheet.{sheet}
use Rattle.model.specs.Remove.{marked, remove_table}
use Rattle.model.specs.NewDarts.{new_dart, slots_for}
use Rattle.model.specs.Wall.{next}
use Rattle.model.specs.Insert.{insert_table}
use Rattle.model.specs.Meaning.Lists.{Rising}
use Rattle.model.specs.Meaning.Slots.{Lowest, LowestUnused}
use Rattle.model.specs.Meaning.Maps.{BlockTable, Dim}
use Rattle.model.specs.Meaning.Sets.{Marked}
use Rattle.model.specs.Meaning.Sheets.{BlockDart, marks_of, InCells}
use Rattle.model.specs.Meaning.Splits.{IsNew}
use Rattle.model.specs.Meaning.Walls.{Inserts, wall_darts, layer_slots, layer_dart, InsertLinks}
use Rattle.theorems.proofs.Lists.Scan.{if_lt, clash}
use Rattle.theorems.proofs.Lists.Ones.{index_in, get_or_in, ones_in, ones_of}
use Rattle.theorems.proofs.Sets.Sizes.{length_ones}
use Rattle.theorems.proofs.Maps.Dim.{two_cases, dim_cases}
use Rattle.theorems.proofs.Maps.Rules.{link_out}
use Rattle.theorems.proofs.Maps.Tables.{map_table, rule_at}
use Rattle.theorems.proofs.Cells.Cell.{cell_live}
use Rattle.theorems.proofs.Operations.Changes.{changed_links, changed_one, changed_none}
use Rattle.theorems.proofs.Operations.Frame.{insert_frame, cell_kept}
use Rattle.theorems.proofs.Operations.Slots.{ones_rising, Filled, lowest_slots, lowest_first}
use Rattle.theorems.proofs.Operations.Slots.{filled_count, filled_changes}
use Rattle.theorems.proofs.Layers.Marks.{marks_cells}
use Rattle.theorems.proofs.Layers.NewDarts.{old, new, new_slot, new_in, new_one, slot_new, live_which}
use Rattle.theorems.proofs.Layers.Roles.{role_dart}
use Rattle.theorems.proofs.Insert.Wall.{wall_some, wall_bits, drawn_of, clear_of, joined_of}
use Rattle.theorems.proofs.Insert.Laid.{Laying, laying_of, spread, laid_slots, laid_length, laid_whole, laid_wall, laid_kept}
use Rattle.theorems.proofs.Insert.Role.{letter, spell, role_to, role_word, role_link}
use Rattle.theorems.proofs.Insert.Table.{laid_table, laid_live, live_laid}
use Rattle.theorems.proofs.Insert.Cells.{laid_block}
use Rattle.theorems.proofs.Insert.Sheet.{crossing_new, crossing_dart, crossing_sheet, crossing_cells}
use Rattle.theorems.proofs.Insert.Back.{remove_back}

module _ (n : ℕ) (t m : List ℕ) where
  pub wall_rising : Rising (wall_darts n t m)
  wall_rising = ones_rising m 0

  wall_number : length (wall_darts n t m) ≡ count 1 m
  wall_number = length_ones m 0

-- ---- the links

module _ {n : ℕ} {t m : List ℕ} (I : Inserts n t m) where
  abbrev B : BlockTable n t
  B = I.table

  abbrev dim : Dim n
  dim = B.dim

  given : Laying n t (wall_darts n t m) (layer_slots n t m) (next n t m)
  given = laying_of I

  on_wall : (h : ℕ) → Marked m h → In h (wall_darts n t m)
  on_wall = ones_in m

  top : n < 4
  top = let high = dim.1 in omega arith

  some : 0 < n
  some = let low = dim.0 in omega arith

  pub insert_links : (h : ℕ) → Marked m h
      → InsertLinks n t (insert_table n t m) (next n t m) (layer_dart n t m 0) (layer_dart n t m 1) (layer_dart n t m 2) h
  unfolding insert_table role_to role_word role_dart spell letter
  insert_links h k = record {
    h_n = laid_wall given h i;
    p_n = ap (link u n) (sym (laid_wall given h i)) ∙ (rule_at (laid_table given) h lives).comes n top;
    p_0 = ⊎_elim (λ e. at e 1 0 (omega arith) (omega arith)) (λ e. at e 1 0 (omega arith) (omega arith)) (dim_cases n dim);
    plane_p_1 = λ e. at e 1 1 (omega arith) (omega arith);
    plane_q_1 = λ e. at e 2 1 (omega arith) (omega arith);
    plane_q_0 = λ e. at e 2 0 (omega arith) (omega arith);
    plane_q_2 = λ e. at e 2 2 (omega arith) (omega arith);
    plane_p_3 = λ e. at e 1 3 (omega arith) (omega arith);
    plane_q_3 = λ e. at e 2 3 (omega arith) (omega arith);
    p_1 = λ e. at e 1 1 (omega arith) (omega arith);
    p_2 = λ e. at e 1 2 (omega arith) (omega arith);
    q_2 = λ e. at e 2 2 (omega arith) (omega arith);
    q_0 = λ e. at e 2 0 (omega arith) (omega arith);
    q_1 = λ e. at e 2 1 (omega arith) (omega arith);
    r_1 = λ e. at e 3 1 (omega arith) (omega arith);
    q_3 = λ e. at e 2 3 (omega arith) (omega arith);
    r_0 = λ e. at e 3 0 (omega arith) (omega arith);
    r_2 = λ e. at e 3 2 (omega arith) (omega arith);
    r_3 = λ e. at e 3 3 (omega arith) (omega arith);
  }
    where
      i : In h (wall_darts n t m)
      i = on_wall h k

      u : List ℕ
      u = insert_table n t m

      role : ℕ → ℕ → ℕ
      role = role_dart n (wall_darts n t m) (layer_slots n t m)

      lives : live u h ≡ true
      lives = laid_live given h (old ((drawn_of I).lives h k))

      -- link j of the role r, by the rows of the dimension d
      at : {d : ℕ} → n ≡ d → (r j : ℕ) → r ≤ n → j < 4
          → link u j (role r h) ≡ role (role_to d r j) (spell t (next n t m) (role_word d r j) h)
      at e r j b low = subst (λ (d : ℕ). link u j (role r h) ≡ role (role_to d r j) (spell t (next n t m) (role_word d r j) h)) e
          (role_link given r h j b i low)

  -- link n of the wall's darts and the new slots change, and no other entry
  pub insert_stays : (x j : ℕ) → j < 4 → (In x (layer_slots n t m) → ⊥) → (j ≡ n → Marked m x → ⊥)
      → link (insert_table n t m) j x ≡ link t j x
  unfolding insert_table
  insert_stays x j b out k = if_lt x (slots t)
      (λ low. insert_frame t B.whole x low n _ (layer_slots n t m) (next n t m) out j b (λ e i. k e (ones_of m x i)))
      (λ high.
      let same = laid_slots given in
      link_out (insert_table n t m) x (laid_whole given) (omega arith) j ∙ sym (link_out t x B.whole high j))

  pub insert_length : length (insert_table n t m) ≡ length t
  unfolding insert_table
  insert_length = laid_length given

  -- ---- the new darts

  -- "Each wall dart h, rising, gets 2 new darts p, q in 2D, 3 (also r) in 3D, in the lowest unused slots in that order"
  pub layer_in_order : (k h : ℕ) → k < n → Marked m h
      → layer_dart n t m k h ≡ get_or (unused_slots t) (n * index_of h (wall_darts n t m) + k) unused
  unfolding new_dart slots_for
  layer_in_order k h b i =
      let low = new_slot (spread given) k h b (on_wall h i) in
      let room = I.room in
      get_or-take (n * length (wall_darts n t m)) (unused_slots t) _ unused (omega arith)

  pub insert_lowest : Lowest t (layer_slots n t m)
  unfolding slots_for
  insert_lowest = lowest_slots t (n * length (wall_darts n t m))

  pub insert_number : length (layer_slots n t m) ≡ n * count 1 m
  insert_number = I.room ∙ ap (λ (k : ℕ). n * k) (wall_number n t m)

  -- n darts for each, all distinct, and one in each new slot
  pub layer_apart : (k l g h : ℕ) → k < n → l < n → Marked m g → Marked m h
      → layer_dart n t m k g ≡ layer_dart n t m l h → (k ≡ l) × (g ≡ h)
  layer_apart k l g h bk bl ig ih e = new_one (spread given) k l g h bk bl (on_wall g ig) (on_wall h ih) e

  pub layer_in_slot : (k h : ℕ) → k < n → Marked m h → In (layer_dart n t m k h) (layer_slots n t m)
  layer_in_slot k h b i = new_in (spread given) k h b (on_wall h i)

  pub slot_has_layer : (x : ℕ) → In x (layer_slots n t m) → IsNew n (wall_darts n t m) (layer_slots n t m) x
  slot_has_layer = slot_new (spread given)

  -- a dart of the wall, the first of it
  wall_first : Marked m (get_or (wall_darts n t m) 0 0)
  wall_first = ones_of m _ (get_or_in (wall_darts n t m) 0 0 (wall_some I))

  -- "place: first new slot"
  pub insert_place : LowestUnused t (get_or (layer_slots n t m) 0 0)
  insert_place =
      let there = index_in (layer_slots n t m) _ (layer_in_slot 0 _ some wall_first) in
      lowest_first insert_lowest (omega arith)

  -- the live slots after are those before and the new ones
  pub insert_filled : Filled t (insert_table n t m) (layer_slots n t m)
  unfolding insert_table
  insert_filled = record {
    same = laid_slots given;
    kept = λ x l. laid_live given x (old l);
    made = λ x i. laid_live given x (new (slot_new (spread given) x i));
    only = λ x l. live_which (spread given) x (live_laid given x l);
  }

  -- "count: darts added"
  pub insert_lives : live_count (insert_table n t m) ≡ live_count t + n * count 1 m
  insert_lives = filled_count insert_lowest.vacant insert_filled ∙ ap (λ (k : ℕ). live_count t + k) insert_number

  -- ---- a block map

  pub insert_keeps : BlockTable n (insert_table n t m)
  unfolding insert_table
  insert_keeps = laid_block given (clear_of I)

  -- every old cell stays
  pub insert_cell_stays : (x : ℕ) → live t x ≡ true → cell_of n (insert_table n t m) x ≡ cell_of n t x
  unfolding insert_table
  insert_cell_stays x l = cell_kept n t (insert_table n t m) x (laid_slots given) (λ y j k b.
      let high = top in
      laid_kept given y j (cell_live (map_table B) x l y k) (omega arith) (λ e. absurd (omega arith)))

  -- ---- the sheet through the new crossing edges

  pub insert_dart : (h : ℕ) → Marked m h → BlockDart n (insert_table n t m) (layer_dart n t m (n - 1) h)
  unfolding insert_table
  insert_dart h i = subst (BlockDart n (insert_table n t m)) (crossing_new given h)
      (crossing_dart given (clear_of I) (joined_of I) h (on_wall h i))

  -- it has the last new dart of each wall dart, and no other
  pub insert_sheet : (h : ℕ) → Marked m h → (x : ℕ)
      → Marked (sheet n (insert_table n t m) (layer_dart n t m (n - 1) h)) x ↔ ((g : ℕ) × Marked m g × (x ≡ layer_dart n t m (n - 1) g))
  unfolding insert_table
  insert_sheet h i x =
      let s = crossing_sheet given (joined_of I) h (on_wall h i) x in
      let at = crossing_new given h in (
        λ k.
            let (g, j, e) = s.0 (subst (λ (d : ℕ). Marked (sheet n (insert_table n t m) d) x) (sym at) k) in
            (g, ones_of m g j, e ∙ crossing_new given g),
        λ (g, j, e). subst (λ (d : ℕ). Marked (sheet n (insert_table n t m) d) x) at
            (s.1 (g, on_wall g j, e ∙ sym (crossing_new given g))),
      )

  -- its cells are the new darts; so are its marks 1 and 2
  insert_marks : (h : ℕ) → Marked m h → (x : ℕ)
      → (marked (marks_of n (insert_table n t m) (layer_dart n t m (n - 1) h)) x ≡ true) ↔ In x (layer_slots n t m)
  unfolding insert_table
  insert_marks h i x = subst (λ (d : ℕ). (marked (marks_of n (insert_table n t m) d) x ≡ true) ↔ In x (layer_slots n t m))
      (crossing_new given h) (crossing_cells given (clear_of I) (joined_of I) h (on_wall h i) x)

  pub insert_cells : (h : ℕ) → Marked m h → (x : ℕ)
      → InCells n (insert_table n t m) (sheet n (insert_table n t m) (layer_dart n t m (n - 1) h)) x ↔ In x (layer_slots n t m)
  insert_cells h i x =
      let cells = marks_cells (insert_dart h i) x in
      Iff.trans (cells.1, cells.0) (insert_marks h i x)

  -- "Removing the sheet through the new crossing edges must .. give back the old table entry for entry"
  pub insert_back : (h : ℕ) → Marked m h → remove_table n (insert_table n t m) (layer_dart n t m (n - 1) h) ≡ t
  unfolding insert_table
  insert_back h i = remove_back given (clear_of I) (joined_of I) h (on_wall h i)

  -- ---- the entries changed

  -- link n of a wall dart led to a live dart, and leads to a new one
  insert_moves : (h : ℕ) → Marked m h → link t n h ≢ link (insert_table n t m) n h
  insert_moves h k e =
      let lives = (rule_at (map_table B) h ((drawn_of I).lives h k)).goes n top in
      let new = insert_lowest.vacant.dead _ (layer_in_slot 0 h some k) in
      clash lives (ap (live t) (e ∙ (insert_links h k).h_n) ∙ new)

  pub insert_differs : t ≢ insert_table n t m
  insert_differs e = insert_moves (get_or (wall_darts n t m) 0 0) wall_first (ap (λ (l : List ℕ). link l n (get_or (wall_darts n t m) 0 0)) e)

  slot_unmarked : (x : ℕ) → In x (layer_slots n t m) → get_or m x 0 ≡ 0
  slot_unmarked x i = ⊎_elim (λ z. z) (λ k. absurd (clash ((drawn_of I).lives x k) (insert_lowest.vacant.dead x i))) (wall_bits I x)

  other_changes : (x : ℕ) → x < slots t → (In x (layer_slots n t m) → ⊥) → changed_links t (insert_table n t m) x ≡ get_or m x 0
  other_changes x low out = ⊎_elim
      (λ z. changed_none t _ x (λ j b. insert_stays x j b out (λ _ k. absurd (omega arith))) ∙ sym z)
      (λ k. changed_one t _ x n top (insert_moves x k) (λ j b e. insert_stays x j b out (λ q _. e q)) ∙ sym k) (wall_bits I x)

  -- four entries of each new dart, and link n of each wall dart: 9 or 13 for each wall dart
  pub insert_changes : length (changes_from 0 t (insert_table n t m)) ≡ (4 * n + 1) * count 1 m
  insert_changes =
      let all = filled_changes (map_table B) (map_table insert_keeps) insert_length insert_lowest.vacant insert_filled
      m I.long (wall_bits I) slot_unmarked other_changes in
      all ∙ ap (λ (k : ℕ). 4 * k + count 1 m) insert_number ∙ weighed (count 1 m)
    where
      weighed : (k : ℕ) → 4 * (n * k) + k ≡ (4 * n + 1) * k
      weighed = two_cases n dim (λ n. (k : ℕ) → 4 * (n * k) + k ≡ (4 * n + 1) * k) (λ k. omega arith) (λ k. omega arith)
