-- add in 01's words, of a map with room for a cell: `add_links` has the links of the new cell, `add_stays` all else,
-- `new_dart_lem` and `add_lowest` its slots, `add_cell` and `add_cell_stays` the cells, `add_lives` the number of live slots,
-- `add_changes` that of the entries changed.
use Prim.Native.Nat.{ℕ, ◌+◌, ◌*◌, ◌≤◌, ◌<◌}
use mathlib.Core.Path.{◌≡◌, sym, ap, ◌∙◌}
use mathlib.Core.Logic.{◌⊎◌, inl, inr, ⊎_elim}
use mathlib.Core.Bool.{true}
use mathlib.Core.List.{List, Memᴰ as In}
use native.Mathlib.Nat.{le_refl}
use native.Mathlib.Omega.{arith}
use lib.ListN.{length, get_or}
use lib.Seq.{get_or-take}
use Rattle.model.specs.Lists.{index_of}
use Rattle.model.specs.Table.{unused, slots, link, live, unused_slots, live_count}
use Rattle.model.specs.Cell.{cell_size, cell_of, good_cell}
use Rattle.model.specs.Journal.{changes_from}
use Rattle.model.specs.Numbering.{cell_link}
use Rattle.model.specs.Add.{add_slots, added_link, added, add_table}
use Rattle.model.specs.Meaning.Slots.{Lowest, LowestUnused, added_dart}
use Rattle.model.specs.Meaning.Maps.{MapTable, Straight}
use Rattle.theorems.proofs.Lists.Scan.{if_lt, clash}
use Rattle.theorems.proofs.Lists.Ones.{get_or_in, get_or_index, index_in, in_or}
use Rattle.theorems.proofs.Maps.Dim.{size_some}
use Rattle.theorems.proofs.Maps.Rules.{link_out, live_by, slots_retable, length_retable}
use Rattle.theorems.proofs.Cells.Rows.{rows_in, free_rows}
use Rattle.theorems.proofs.Cells.Cell.{cell_live}
use Rattle.theorems.proofs.Cells.Chart.{live_same, chart_cell}
use Rattle.theorems.proofs.Cells.Add.{add_new, add_table_lem}
use Rattle.theorems.proofs.Operations.Frame.{add_frame, cell_kept}
use Rattle.theorems.proofs.Operations.Slots.{Filled, lowest_slots, lowest_first, rising_at}
use Rattle.theorems.proofs.Operations.Slots.{filled_count, filled_only}

-- "8 or 48"
pub cell_sizes : (n : ℕ) → (n ≡ 2 → cell_size n ≡ 8) × (n ≡ 3 → cell_size n ≡ 48)
unfolding cell_size
cell_sizes n = (λ e. rw e, λ e. rw e)

module _ {n : ℕ} {t : List ℕ} (T : MapTable n t) (room : length (add_slots n t) ≡ cell_size n) where
  -- "one free cell in the lowest unused slots, its k-th dart in the k-th of them"
  pub add_lowest : Lowest t (add_slots n t)
  unfolding add_slots
  add_lowest = lowest_slots t (cell_size n)

  pub new_dart_lem : (k : ℕ) → k < cell_size n → added_dart n t k ≡ get_or (unused_slots t) k unused
  unfolding add_slots
  new_dart_lem k h = get_or-take (cell_size n) (unused_slots t) k unused h

  new_in : (k : ℕ) → k < cell_size n → In (added_dart n t k) (add_slots n t)
  new_in k h = get_or_in (add_slots n t) k unused (omega arith)

  -- its links follow the numbering
  pub add_links : (j k : ℕ) → j < 4 → k < cell_size n → link (add_table n t) j (added_dart n t k) ≡ added_dart n t (cell_link n j k)
  unfolding add_table
  add_links = add_new T add_lowest.vacant room

  -- and the links from n on lead to the dart itself
  pub add_free : (j k : ℕ) → n ≤ j → j < 4 → k < cell_size n → link (add_table n t) j (added_dart n t k) ≡ added_dart n t k
  add_free j k top b h = add_links j k b h ∙ ap (added_dart n t) (free_rows n T.dim j k top)

  pub add_made : MapTable n (add_table n t)
  unfolding add_table
  add_made = add_table_lem T add_lowest.vacant room

  pub add_length : length (add_table n t) ≡ length t
  unfolding add_table added
  add_length = length_retable t (added_link n t (add_slots n t)) T.whole

  add_slots_lem : slots (add_table n t) ≡ slots t
  unfolding add_table added
  add_slots_lem = slots_retable t (added_link n t (add_slots n t)) T.whole

  -- "Place: first slot"
  pub add_place : LowestUnused t (get_or (add_slots n t) 0 0)
  add_place = let some = size_some n T.dim in lowest_first add_lowest (omega arith)

  pub add_stays : (x j : ℕ) → j < 4 → (In x (add_slots n t) → ⊥) → link (add_table n t) j x ≡ link t j x
  unfolding add_table
  add_stays x j b out = if_lt x (slots t) (λ low. add_frame t T.whole x low n (add_slots n t) out j b)
      (λ high.
      let same = add_slots_lem in
      link_out (add_table n t) x add_made.whole (omega arith) j ∙ sym (link_out t x T.whole high j))

  -- the live slots after are those before and the new cell's
  pub add_filled : Filled t (add_table n t) (add_slots n t)
  unfolding add_table
  add_filled = record { same = add_slots_lem; kept = kept; made = made; only = only }
    where
      same : (x : ℕ) → (In x (add_slots n t) → ⊥) → live (add_table n t) x ≡ live t x
      same x out = live_same t (add_table n t) x (λ j b. add_stays x j b out)

      kept : (x : ℕ) → live t x ≡ true → live (add_table n t) x ≡ true
      kept x l = same x (λ i. clash l (add_lowest.vacant.dead x i)) ∙ l

      made : (x : ℕ) → In x (add_slots n t) → live (add_table n t) x ≡ true
      made x i =
          let k = index_of x (add_slots n t) in
          let low : k < cell_size n = let h = index_in (add_slots n t) x i in omega arith in
          let two = T.dim.0 in
          let to = add_lowest.vacant.inside _ (new_in (cell_link n 0 k) (rows_in n 0 k T.dim (omega arith) low)) in
          let few = T.few in
          let at_k = get_or_index (add_slots n t) x unused i in
          live_by (add_table n t) x (λ q.
          let none = sym (add_links 0 k (omega arith) low) ∙ ap (link (add_table n t) 0) at_k ∙ q in
          omega arith)

      only : (x : ℕ) → live (add_table n t) x ≡ true → (live t x ≡ true) ⊎ In x (add_slots n t)
      only x l = ⊎_elim inr (λ out. inl (sym (same x out) ∙ l)) (in_or (add_slots n t) x)

  -- the new darts are a good cell, and every other cell stays
  pub add_cell : (k : ℕ) → k < cell_size n → good_cell n (add_table n t) (cell_of n (add_table n t) (added_dart n t k)) ≡ true
  add_cell =
      let base = add_filled.made _ (new_in 0 (size_some n T.dim)) in
      chart_cell add_made (added_dart n t) (record { follow = follow; apart = apart }) base straight
    where
      follow : (j k : ℕ) → j < n → k < cell_size n → link (add_table n t) j (added_dart n t k) ≡ added_dart n t (cell_link n j k)
      follow j k b h = let top = T.dim.1 in add_links j k (omega arith) h

      apart : (a b : ℕ) → a < b → b < cell_size n → added_dart n t a ≡ added_dart n t b → ⊥
      apart a b ab h e = let rise = rising_at add_lowest.rising a b unused ab (omega arith) in omega arith

      straight : (k : ℕ) → k < cell_size n → Straight n (add_table n t) (added_dart n t k)
      straight k h _ = let top = T.dim.1 in add_free n k (le_refl n) (omega arith) h

  pub add_cell_stays : (x : ℕ) → live t x ≡ true → cell_of n (add_table n t) x ≡ cell_of n t x
  add_cell_stays x l = cell_kept n t (add_table n t) x add_filled.same (λ y j m b.
      let top = T.dim.1 in
      add_stays y j (omega arith) (λ i. clash (cell_live T x l y m) (add_lowest.vacant.dead y i)))

  pub add_lives : live_count (add_table n t) ≡ live_count t + cell_size n
  add_lives = filled_count add_lowest.vacant add_filled ∙ ap (λ (k : ℕ). live_count t + k) room

  -- all four entries of each
  pub add_changes : length (changes_from 0 t (add_table n t)) ≡ 4 * cell_size n
  add_changes =
      filled_only T add_made add_length add_lowest.vacant add_filled add_stays ∙ ap (λ (k : ℕ). 4 * k) room
