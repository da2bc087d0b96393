-- split d in 01's words, where no check but 15 refuses it (`Splits`): `split_links` has the links, `split_stays` all else,
-- `new_in_order`, `split_lowest` and `new_apart` the new darts and their slots, `split_lives` the number of live slots,
-- `split_changes` that of the entries changed, `split_two_cells`, `split_cell_stays` and `split_all_cells` the cells.
use Prim.Native.Nat.{ℕ, ◌+◌, ◌*◌, ◌≤◌, ◌<◌}
use mathlib.Core.Path.{◌≡◌, sym, ap, ◌∙◌}
use mathlib.Core.Logic.{◌⊎◌, inl, inr, ◌≢◌, ⊎_elim}
use mathlib.Core.Bool.{true}
use mathlib.Core.List.{List, Memᴰ as In}
use native.Mathlib.Omega.{arith}
use lib.ListN.{length, get_or}
use lib.Seq.{get_or-take}
use Rattle.model.specs.Lists.{count, index_of}
use Rattle.model.specs.Table.{unused, slots, link, live, walk, unused_slots, live_count}
use Rattle.model.specs.Cell.{cell_of}
use Rattle.model.specs.Journal.{changes_from}
use Rattle.model.specs.Sheet.{sheet}
use Rattle.model.specs.NewDarts.{new_dart, slots_for}
use Rattle.model.specs.Split.{split_table}
use Rattle.model.specs.Meaning.Lists.{Rising}
use Rattle.model.specs.Meaning.Slots.{Lowest, LowestUnused}
use Rattle.model.specs.Meaning.Maps.{BlockTable}
use Rattle.model.specs.Meaning.Sets.{Marked}
use Rattle.model.specs.Meaning.Splits.{Splits, sheet_darts, new_slots, new_of, Unsplit, SplitLinks, TwoCells, Splitting, IsNew}
use Rattle.theorems.proofs.Lists.Scan.{if_lt, clash}
use Rattle.theorems.proofs.Lists.Ones.{index_in, ones_in, ones_of}
use Rattle.theorems.proofs.Sets.Sizes.{length_ones}
use Rattle.theorems.proofs.Maps.Dim.{two_cases}
use Rattle.theorems.proofs.Maps.Rules.{link_out}
use Rattle.theorems.proofs.Maps.Tables.{map_table, rule_at}
use Rattle.theorems.proofs.Operations.Changes.{changed_links, changed_one, changed_none}
use Rattle.theorems.proofs.Operations.Frame.{split_frame}
use Rattle.theorems.proofs.Operations.Slots.{ones_rising, Filled, lowest_slots, lowest_first}
use Rattle.theorems.proofs.Operations.Slots.{filled_count, filled_changes}
use Rattle.theorems.proofs.Layers.Sheet.{sheet_own, sheet_least, sheet_live}
use Rattle.theorems.proofs.Layers.NewDarts.{old, new, new_slot, new_in, new_one, slot_new, live_which}
use Rattle.theorems.proofs.Layers.Splitting.{splits_splitting, spread, split_slots, split_whole}
use Rattle.theorems.proofs.Layers.Roles.{role_dart}
use Rattle.theorems.proofs.Layers.SplitRole.{role_to, role_word, role_link, role_plane}
use Rattle.theorems.proofs.Layers.SplitMap.{split_live, live_split}
use Rattle.theorems.proofs.Layers.SplitBlock.{split_block}
use Rattle.theorems.proofs.Layers.SplitCells.{two_cells, new_marked, cell_stays, all_cells}

module _ (n : ℕ) (t : List ℕ) (d : ℕ) where
  pub darts_rising : Rising (sheet_darts n t d)
  darts_rising = ones_rising (sheet n t d) 0

  pub darts_number : length (sheet_darts n t d) ≡ count 1 (sheet n t d)
  darts_number = length_ones (sheet n t d) 0

-- ---- the links

module _ {n : ℕ} {t : List ℕ} {d : ℕ} (s : Splits n t d) where
  abbrev B : BlockTable n t
  B = s.dart.table

  given : Splitting n t (sheet_darts n t d) (new_slots n t d)
  given = splits_splitting s

  pub split_links : (g : ℕ) → Marked (sheet n t d) g
      → SplitLinks n t (split_table n t d) (new_of n t d 0) (new_of n t d 1) (new_of n t d 2) g
  unfolding split_table role_to role_word role_dart walk
  split_links g m = record {
    g_0 = role_link given 0 g 0 (omega arith) i (omega arith);
    a_0 = role_link given 1 g 0 low i (omega arith);
    a_1 = role_link given 1 g 1 low i (omega arith);
    b_1 = role_link given 2 g 1 two i (omega arith);
    b_0 = role_link given 2 g 0 two i (omega arith);
    a_2 = role_link given 1 g 2 low i (omega arith);
    plane_b_2 = λ e. role_link given 2 g 2 two i (omega arith) ∙ rw e;
    plane_a_3 = λ e. role_plane given 1 g e low i;
    plane_b_3 = λ e. role_plane given 2 g e two i;
    a_3 = λ e. role_link given 1 g 3 low i (omega arith);
    b_2 = λ e. role_link given 2 g 2 two i (omega arith) ∙ rw e;
    b_3 = λ e. role_link given 2 g 3 two i (omega arith);
    c_0 = λ e. role_link given 3 g 0 (omega arith) i (omega arith);
    c_1 = λ e. role_link given 3 g 1 (omega arith) i (omega arith);
    c_2 = λ e. role_link given 3 g 2 (omega arith) i (omega arith);
    c_3 = λ e. role_link given 3 g 3 (omega arith) i (omega arith);
  }
    where
      i : In g (sheet_darts n t d)
      i = ones_in (sheet n t d) g m

      two : 2 ≤ n
      two = B.dim.0

      low : 1 ≤ n
      low = omega arith

  -- "All else stays": link 0 of the darts of S and the new slots change, and no other entry
  pub split_stays : (x j : ℕ) → j < 4 → (In x (new_slots n t d) → ⊥) → (j ≡ 0 → Marked (sheet n t d) x → ⊥)
      → link (split_table n t d) j x ≡ link t j x
  unfolding split_table
  split_stays x j b out k = if_lt x (slots t)
      (λ low. split_frame t B.whole x low n _ (new_slots n t d) out j b (λ e i. k e (ones_of (sheet n t d) x i)))
      (λ high.
      let same = split_slots given in
      link_out (split_table n t d) x (split_whole given) (omega arith) j ∙ sym (link_out t x B.whole high j))

  pub split_length : length (split_table n t d) ≡ length t
  unfolding split_table
  split_length = let same = split_slots given in split_whole given ∙ ap (λ (k : ℕ). 4 * k) same ∙ sym B.whole

  -- ---- the new darts

  -- "gets new darts a, b (for n = 3 also c) in the lowest unused slots in that order"
  pub new_in_order : (r g : ℕ) → r < n → Marked (sheet n t d) g
      → new_of n t d r g ≡ get_or (unused_slots t) (n * index_of g (sheet_darts n t d) + r) unused
  unfolding new_dart slots_for
  new_in_order r g b m =
      let low = new_slot (spread given) r g b (ones_in _ g m) in
      let room = s.room in
      get_or-take (n * length (sheet_darts n t d)) (unused_slots t) _ unused (omega arith)

  pub split_lowest : Lowest t (new_slots n t d)
  unfolding slots_for
  split_lowest = lowest_slots t (n * length (sheet_darts n t d))

  pub split_number : length (new_slots n t d) ≡ n * count 1 (sheet n t d)
  split_number = s.room ∙ ap (λ (k : ℕ). n * k) (darts_number n t d)

  -- n darts for each, all distinct, and one in each new slot
  pub new_apart : (r q g h : ℕ) → r < n → q < n → Marked (sheet n t d) g → Marked (sheet n t d) h
      → new_of n t d r g ≡ new_of n t d q h → (r ≡ q) × (g ≡ h)
  new_apart r q g h br bq mg mh e = new_one (spread given) r q g h br bq (ones_in _ g mg) (ones_in _ h mh) e

  pub new_in_slot : (r g : ℕ) → r < n → Marked (sheet n t d) g → In (new_of n t d r g) (new_slots n t d)
  new_in_slot r g b m = new_in (spread given) r g b (ones_in _ g m)

  pub slot_has_new : (x : ℕ) → In x (new_slots n t d) → IsNew n (sheet_darts n t d) (new_slots n t d) x
  slot_has_new = slot_new (spread given)

  -- "Place: first new slot"
  pub split_place : LowestUnused t (get_or (new_slots n t d) 0 0)
  split_place =
      let two = B.dim.0 in
      let some = index_in (new_slots n t d) _ (new_in_slot 0 d (omega arith) (sheet_own s.dart)) in
      lowest_first split_lowest (omega arith)

  -- the live slots after are those before and the new ones
  pub split_filled : Filled t (split_table n t d) (new_slots n t d)
  unfolding split_table
  split_filled = record {
    same = split_slots given;
    kept = λ x l. split_live given x (old l);
    made = λ x i. split_live given x (new (slot_new (spread given) x i));
    only = λ x l. live_which (spread given) x (live_split given x l);
  }

  pub split_lives : live_count (split_table n t d) ≡ live_count t + n * count 1 (sheet n t d)
  split_lives = filled_count split_lowest.vacant split_filled ∙ ap (λ (k : ℕ). live_count t + k) split_number

  pub split_keeps : BlockTable n (split_table n t d)
  unfolding split_table
  split_keeps = split_block given

  -- ---- the entries changed

  slot_unmarked : (x : ℕ) → In x (new_slots n t d) → get_or (sheet n t d) x 0 ≡ 0
  slot_unmarked x i =
      ⊎_elim (λ z. z) (λ m. absurd (clash (sheet_live s.dart x m) (split_lowest.vacant.dead x i)))
      ((sheet_least s.dart).bits x)

  -- of a slot that is no new one: link 0, if it is a dart of S
  other_changes : (x : ℕ) → x < slots t → (In x (new_slots n t d) → ⊥)
      → changed_links t (split_table n t d) x ≡ get_or (sheet n t d) x 0
  other_changes x low out = ⊎_elim
      (λ z. changed_none t _ x (λ j b. split_stays x j b out (λ _ m. absurd (omega arith))) ∙ sym z)
      (λ m. changed_one t _ x 0 (omega arith) (moved m) (λ j b e. split_stays x j b out (λ q _. e q)) ∙ sym m)
      ((sheet_least s.dart).bits x)
    where
      moved : Marked (sheet n t d) x → link t 0 x ≢ link (split_table n t d) 0 x
      moved m e =
          let two = B.dim.0 in
          let lives = (rule_at (map_table B) x (sheet_live s.dart x m)).goes 0 (omega arith) in
          let new = split_lowest.vacant.dead _ (new_in_slot 0 x (omega arith) m) in
          clash lives (ap (live t) (e ∙ (split_links x m).g_0) ∙ new)

  -- four entries of each new dart, and link 0 of each dart of S: 9 or 13 for each dart of S
  pub split_changes : length (changes_from 0 t (split_table n t d)) ≡ (4 * n + 1) * count 1 (sheet n t d)
  split_changes =
      let S = sheet_least s.dart in
      let all = filled_changes (map_table B) (map_table split_keeps) split_length split_lowest.vacant split_filled
      (sheet n t d) S.long S.bits slot_unmarked other_changes in
      all ∙ ap (λ (k : ℕ). 4 * k + count 1 (sheet n t d)) split_number ∙ weighed (count 1 (sheet n t d))
    where
      weighed : (k : ℕ) → 4 * (n * k) + k ≡ (4 * n + 1) * k
      weighed = two_cases n B.dim (λ n. (k : ℕ) → 4 * (n * k) + k ≡ (4 * n + 1) * k)
          (λ k. omega arith) (λ k. omega arith)

  -- ---- the cells

  pub split_two_cells : (g : ℕ) → Marked (sheet n t d) g → TwoCells n t (split_table n t d) g
  unfolding split_table
  split_two_cells g m = two_cells given g (ones_in _ g m)

  pub split_new_cell : (r g : ℕ) → r < n → Marked (sheet n t d) g → Marked (cell_of n (split_table n t d) g) (new_of n t d r g)
  unfolding split_table
  split_new_cell r g b m = new_marked given r g b (ones_in _ g m)

  pub split_cell_stays : (x : ℕ) → live t x ≡ true → Unsplit n t d x → cell_of n (split_table n t d) x ≡ cell_of n t x
  unfolding split_table
  split_cell_stays x l none = cell_stays given x l (λ y m i. none y m (ones_of _ y i))

  pub split_all_cells : (x : ℕ) → live (split_table n t d) x ≡ true
      → ((live t x ≡ true) × Unsplit n t d x) ⊎ ((g : ℕ) × Marked (sheet n t d) g × Marked (cell_of n (split_table n t d) g) x)
  unfolding split_table
  split_all_cells x l = ⊎_elim (λ (lives, none). inl (lives, λ y m s. none y m (ones_in _ y s)))
      (λ (g, i, m). inr (g, ones_of _ g i, m)) (all_cells given x l)
