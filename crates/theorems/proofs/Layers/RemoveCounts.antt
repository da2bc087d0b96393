-- remove in numbers: the darts that it takes away (`removed_number`, `remove_lives`), and the entries that it changes
-- (`remove_changes`), where the mark 3 tells which darts remain with another link n (`marks_borders`).
use Prim.Native.Nat.{ℕ, ◌+◌, ◌*◌, ◌<◌}
use mathlib.Core.Path.{◌≡◌, refl, sym, ap, ◌∙◌}
use mathlib.Core.Logic.{inr, ⊎_elim, ◌≢◌}
use mathlib.Core.Bool.{Bool, true, false, not, ◌&&◌}
use mathlib.Core.List.{List, [], ◌∷◌}
use native.Mathlib.Omega.{arith}
use lib.ListN.{length, get_or}
use lib.Dec.{eqb}
use borrow.Author.Tests.{eq-eqb, ne_eqb}
use Rattle.model.specs.Lists.{count, how_many}
use Rattle.model.specs.Table.{slots, link, live, live_count}
use Rattle.model.specs.Journal.{changes_from}
use Rattle.model.specs.Remove.{cell_mark, marked, count_marked, remove_table}
use Rattle.model.specs.Meaning.Maps.{Dim}
use Rattle.model.specs.Meaning.Sheets.{BlockDart, marks_of}
use Rattle.model.specs.Meaning.Walks.{Layer, Removes, borders}
use Rattle.theorems.proofs.Lists.Scan.{test, if_eq, clash}
use Rattle.theorems.proofs.Maps.Dim.{two_cases}
use Rattle.theorems.proofs.Maps.Tables.{map_table, live_below, rule_at}
use Rattle.theorems.proofs.Layers.Counts.{bit, total, total_shift, how_many_same, how_many_total, total_how_many}
use Rattle.theorems.proofs.Layers.Counts.{changed, changed_of, changed_not, changed_at, changes_total}
use Rattle.theorems.proofs.Layers.Marks.{marks_three, marks_cells, marks_outside, sheet_layer}
use Rattle.theorems.proofs.Layers.Remove.{layer_slots_lem, layer_live, remove_removes}

-- ---- the darts taken away

-- the mark v, by its places
count_sum : (v : ℕ) (m : List ℕ) → count v m ≡ total (length m) 0 (λ x. bit (eqb (get_or m x 0) v))
unfolding count total
count_sum v [] = refl
count_sum v (y ∷ m) =
    let rec = count_sum v m in
    let next = total_shift (length m) 0 (λ x. bit (eqb (get_or (y ∷ m) x 0) v)) in
    test (eqb y v) (λ e. rw (e, count) (omega arith)) (λ e. rw (e, count) (omega arith))

count_many : (v : ℕ) (m : List ℕ) → count v m ≡ how_many (length m) (λ x. eqb (get_or m x 0) v)
count_many v m = count_sum v m ∙ sym (how_many_total (length m) (λ x. eqb (get_or m x 0) v))

one_or_two : (m : List ℕ) (x : ℕ) → bit (marked m x) ≡ 1 * bit (eqb (get_or m x 0) 1) + bit (eqb (get_or m x 0) 2)
unfolding marked cell_mark
one_or_two m x = if_eq (get_or m x 0) 1 (λ e. rw e) (λ e. rw (ne_eqb (get_or m x 0) 1 e) (omega arith))

layer_count : {n : ℕ} {t m : List ℕ} → Layer n t m → count_marked m ≡ how_many (slots t) (marked m)
unfolding count_marked
layer_count {n} {t} {m} L =
    let one = count_many 1 m in
    let two = count_many 2 m in
    let both = total_how_many 1 (length m) (λ x. bit (marked m x)) (λ x. eqb (get_or m x 0) 1) (λ x. eqb (get_or m x 0) 2)
    (λ x _. one_or_two m x) in
    let same = how_many_total (length m) (marked m) in
    rw (← L.long) (omega arith)

module _ {n : ℕ} {t m u : List ℕ} (L : Layer n t m) (R : Removes n t m u) where
  -- a slot is live still, or taken away
  still_or_gone : (x : ℕ) → bit (live t x) ≡ 1 * bit (live u x) + bit (marked m x)
  still_or_gone x = test (marked m x)
      (λ e. rw (e, L.lives x e, dead x (λ r. clash e r.1)))
      (λ e. test (live t x) (λ l. rw (e, l, (layer_live L R x).1 (l, e))) (λ l. rw (e, l, dead x (λ r. clash r.0 l))))
    where
      dead : (x : ℕ) → ((live t x ≡ true) × (marked m x ≡ false) → ⊥) → live u x ≡ false
      dead x h = test (live u x) (λ l. absurd (h ((layer_live L R x).0 l))) (λ l. l)

  layer_lives : live_count t ≡ live_count u + count_marked m
  unfolding live_count how_many
  layer_lives = rw (layer_count L, layer_slots_lem L R)
      (how_many_total (slots t) (live t)
      ∙ total_how_many 1 (slots t) (λ x. bit (live t x)) (live u) (marked m) (λ x _. still_or_gone x) ∙ omega arith)

-- ---- the entries changed

-- of four tests, those but the n-th fail
abbrev OnlyAt : (ℕ → Bool) → ℕ → Type 0
OnlyAt c n = (j : ℕ) → j < 4 → j ≢ n → c j ≡ false

only_n : (n : ℕ) → Dim n → (c : ℕ → Bool) → OnlyAt c n → bit (c 0) + bit (c 1) + bit (c 2) + bit (c 3) ≡ bit (c n)
only_n n dim c = two_cases n dim (λ n. OnlyAt c n → bit (c 0) + bit (c 1) + bit (c 2) + bit (c 3) ≡ bit (c n))
    (λ h. rw (h 0 (omega arith) (omega arith), h 1 (omega arith) (omega arith), h 3 (omega arith) (omega arith)) (omega arith))
    (λ h. rw (h 0 (omega arith) (omega arith), h 1 (omega arith) (omega arith), h 2 (omega arith) (omega arith)) (omega arith))

module _ {n : ℕ} {t m u : List ℕ} (L : Layer n t m) (R : Removes n t m u) where
  -- a dart taken away changes its four links, a remaining one its link n if this led to a dart taken away
  slot_changes : (x : ℕ) → changed_at t u x ≡ 4 * bit (marked m x) + bit (borders n t m x)
  unfolding changed_at borders
  slot_changes x = test (marked m x)
      (λ e. rw (e, gone e 0 (omega arith), gone e 1 (omega arith), gone e 2 (omega arith), gone e 3 (omega arith)))
      (λ e.
      let others : OnlyAt (changed t u x) n = λ j b ne. changed_not t u x j (sym (R.stays x j b ne e)) in
      rw e (only_n n L.table.dim (changed t u x) others ∙ ap bit (at_n e) ∙ omega arith))
    where
      gone : marked m x ≡ true → (j : ℕ) → j < 4 → changed t u x j ≡ true
      gone e j b = changed_of t u x j (λ same.
          let new = R.gone x j b e in
          let below = live_below (map_table L.table) (link t j x) ((rule_at (map_table L.table) x (L.lives x e)).goes j b) in
          let few = L.table.few in
          omega arith)

      at_n : marked m x ≡ false → changed t u x n ≡ marked m (link t n x)
      at_n e = test (marked m (link t n x))
          (λ next. changed_of t u x n (λ same. clash (ap (marked m) (sym same) ∙ next) (R.found x e next).outside) ∙ sym next)
          (λ next. changed_not t u x n (sym (R.keeps x e next)) ∙ sym next)

  layer_changes : length (changes_from 0 t u) ≡ 4 * count_marked m + how_many (slots t) (borders n t m)
  layer_changes = rw (layer_count L) (changes_total t u L.table.whole R.long
      ∙ total_how_many 4 (slots t) (changed_at t u) (marked m) (borders n t m) (λ x _. slot_changes x))

-- ---- remove

module _ {n : ℕ} {t : List ℕ} {d : ℕ} (D : BlockDart n t d) where
  abbrev m : List ℕ
  m = marks_of n t d

  -- "Count: darts removed": those with the mark 1 or 2
  pub removed_number : count_marked (marks_of n t d) ≡ how_many (slots t) (marked (marks_of n t d))
  removed_number = layer_count (sheet_layer D)

  pub remove_lives : live_count t ≡ live_count (remove_table n t d) + count_marked (marks_of n t d)
  remove_lives = layer_lives (sheet_layer D) (remove_removes D)

  -- a dart has the mark 3 exactly if it remains and its link n led to a dart removed
  pub marks_borders : (x : ℕ) → borders n t (marks_of n t d) x ≡ eqb (get_or (marks_of n t d) x 0) 3
  unfolding borders
  marks_borders x = if_eq (get_or m x 0) 3 touched apart
    where
      touched : get_or m x 0 ≡ 3 → (not (marked m x) && marked m (link t n x)) ≡ eqb (get_or m x 0) 3
      touched e =
          let (_, _, into) = (marks_three D x).0 e in
          rw ((marks_outside D x).1 (inr e), (marks_cells D (link t n x)).1 into, eq-eqb (get_or m x 0) 3 e)

      apart : get_or m x 0 ≢ 3 → (not (marked m x) && marked m (link t n x)) ≡ eqb (get_or m x 0) 3
      apart ne = test (marked m x) (λ e. rw (e, ne_eqb (get_or m x 0) 3 ne)) (λ e. test (marked m (link t n x))
          (λ next. absurd (⊎_elim ((sheet_layer D).touched x next) ne ((marks_outside D x).0 e)))
          (λ next. rw (e, next, ne_eqb (get_or m x 0) 3 ne)))

  -- four entries of each dart removed, and link n of each dart that touches the layer, with the mark 3
  pub remove_changes : length (changes_from 0 t (remove_table n t d))
      ≡ 4 * count_marked (marks_of n t d) + count 3 (marks_of n t d)
  remove_changes =
      let touching = rw (sheet_layer D).long at (count_many 3 m) in
      let same = how_many_same (slots t) (borders n t m) (λ x. eqb (get_or m x 0) 3) (λ x _. marks_borders x) in
      let all = layer_changes (sheet_layer D) (remove_removes D) in
      omega arith
