-- The record of remove, slot by slot: what happens at a slot (`bare_stays`, `edge_one`, `gone_four`), and the pass from
-- `clearing_start` by `clearing_over`, `clearing_stays` and `clearing_more` to `clearing_end`.
use Prim.Native.Nat.{ℕ, ◌+◌, ◌≤◌, ◌<◌}
use mathlib.Core.Path.{◌≡◌, refl, sym, ap, ◌∙◌}
use mathlib.Core.Logic.{inl, inr, ⊎_elim, ◌≢◌}
use mathlib.Core.Bool.{true, false}
use mathlib.Core.List.{List}
use native.Mathlib.Omega.{arith}
use lib.ListN.{length, get_or, replicate, get_or-replicate}
use Rattle.model.specs.Table.{unused, slots, link}
use Rattle.model.specs.Journal.{cursor, changes_from}
use Rattle.model.specs.Remove.{marked, outside, removed_link, removed, remove_table}
use Rattle.model.specs.Meaning.Sheets.{BlockDart, marks_of}
use Rattle.model.specs.Meaning.Walks.{Layer, Removes}
use Rattle.theorems.proofs.Lists.Scan.{test, if_eq, clash}
use Rattle.theorems.proofs.Maps.Rules.{link_retable}
use Rattle.theorems.proofs.Maps.Tables.{map_table, live_below, rule_at}
use Rattle.theorems.proofs.Layers.Marks.{marks_three, marks_cells, marks_outside, sheet_layer}
use Rattle.theorems.proofs.Layers.Remove.{found_link, remove_removes}
use Rattle.scans.specs.Clear.{Skips}
use Rattle.reading.specs.Four.{four}
use Rattle.reading.proofs.Four.{four_at}
use Rattle.drafts.specs.Drafts.{drafted}
use Rattle.drafts.specs.Passes.{Pass, OneLink, FourLinks}
use Rattle.drafts.proofs.Passes.{pass_start, pass_stays, pass_over, pass_word, pass_length, pass_end}
use Rattle.call_remove.specs.Removing.{OfSheet, Removing, Clearing}

-- ---- a slot of the table, by its mark

module _ {n : ℕ} {t : List ℕ} {d : ℕ} (D : BlockDart n t d) where
  abbrev m : List ℕ
  m = marks_of n t d

  abbrev u : List ℕ
  u = removed n t (marks_of n t d)

  L : Layer n t m
  L = sheet_layer D

  R : Removes n t m u
  unfolding remove_table
  R = remove_removes D

  bottom : n < 4
  bottom = let dim = L.table.dim in omega arith

  edge_leads : (x : ℕ) → get_or m x 0 ≡ 3 → marked m (link t n x) ≡ true
  edge_leads x e = let (_, _, into) = (marks_three D x).0 e in (marks_cells D (link t n x)).1 into

  mark_out : (x : ℕ) → get_or m x 0 ≡ 3 → marked m x ≡ false
  mark_out x e = (marks_outside D x).1 (inr e)

  mark_in : (x : ℕ) → get_or m x 0 ≢ 0 → get_or m x 0 ≢ 3 → marked m x ≡ true
  mark_in x zero three = test (marked m x) (λ e. e) (λ e. absurd (⊎_elim zero three ((marks_outside D x).0 e)))

  -- without a mark it stays
  bare : (x : ℕ) → get_or m x 0 ≡ 0 → (k : ℕ) → k < 4 → link u k x ≡ link t k x
  bare x e k low = if_eq k n (λ is. rw is (R.keeps x out next)) (λ ne. R.stays x k low ne out)
    where
      out : marked m x ≡ false
      out = (marks_outside D x).1 (inl e)

      next : marked m (link t n x) ≡ false
      next = test (marked m (link t n x)) (λ h. absurd (L.touched x h e)) (λ h. h)

  -- with the mark 3 it changes its link n alone
  edge : (x : ℕ) → x < slots t → get_or m x 0 ≡ 3 → (old new : ℕ) → old ≡ link t n x
      → new ≡ outside n t m (slots t) (link t n x) → OneLink t u x n old new
  edge x inside e old new is found =
      let out = mark_out x e in
      let led = edge_leads x e in
      record {
        inside = inside;
        index = bottom;
        before = is;
        after = found ∙ sym at;
        differ = λ q. clash (ap (marked m) (sym q ∙ is) ∙ led) (ap (marked m) (found ∙ sym at) ∙ (R.found x out led).outside);
        others = λ j low ne. R.stays x j low ne out;
      }
    where
      at : link u n x ≡ outside n t m (slots t) (link t n x)
      at = unfold removed in link_retable t (removed_link n t m) L.table.whole x n inside bottom ∙ found_link n t m x (mark_out x e)

  -- with the mark 1 or 2 it becomes unused
  gone : (x : ℕ) → x < slots t → get_or m x 0 ≢ 0 → get_or m x 0 ≢ 3 → (old : List ℕ) → old ≡ four (λ j. link t j x)
      → FourLinks t u x old (replicate 4 unused)
  gone x inside zero three old is = record {
    inside = inside;
    before = λ j low. before j low;
    after = λ j low. get_or-replicate 4 j unused 0 low ∙ sym (R.gone x j low e);
    differ = λ j low q.
        let is = before j low in
        let none = get_or-replicate 4 j unused 0 low in
        let T = map_table L.table in
        let below = live_below T (link t j x) ((rule_at T x (L.lives x e)).goes j low) in
        let few = L.table.few in
        omega arith;
  }
    where
      e : marked m x ≡ true
      e = mark_in x zero three

      before : (j : ℕ) → j < 4 → get_or old j 0 ≡ link t j x
      before j low = rw is (four_at (λ j. link t j x) j low)

module _ {n : ℕ} {t m : List ℕ} (S : OfSheet n t m) where
  pub of_layer : Layer n t m
  of_layer = rw S.marks (L S.dart)

  pub of_long : length t ≡ length (removed n t m)
  of_long = sym (rw S.marks (R S.dart).long)

  module _ (x : ℕ) where
    pub edge_out : get_or m x 0 ≡ 3 → marked m x ≡ false
    edge_out = rw S.marks (mark_out S.dart x)

    pub bare_stays : get_or m x 0 ≡ 0 → (k : ℕ) → k < 4 → link (removed n t m) k x ≡ link t k x
    bare_stays = rw S.marks (bare S.dart x)

    pub edge_one : x < slots t → get_or m x 0 ≡ 3 → (old new : ℕ) → old ≡ link t n x
        → new ≡ outside n t m (slots t) (link t n x) → OneLink t (removed n t m) x n old new
    edge_one = rw S.marks (edge S.dart x)

    pub gone_four : x < slots t → get_or m x 0 ≢ 0 → get_or m x 0 ≢ 3 → (old : List ℕ) → old ≡ four (λ j. link t j x)
        → FourLinks t (removed n t m) x old (replicate 4 unused)
    gone_four = rw S.marks (gone S.dart x)

-- ---- the pass

module _ {n : ℕ} {t m j : List ℕ} where
  pub clearing_start : Removing n t m j → Clearing n t m j 0 (cursor j + 2) j
  clearing_start G =
      let B = (of_layer G.sheet).table in
      record {
        sheet = G.sheet;
        few = G.rule.few;
        pass = pass_start (of_long G.sheet) B.whole B.few G.room;
      }

  module _ {x at : ℕ} {w : List ℕ} (C : Clearing n t m j x at w) where
    pub clearing_length : x ≤ slots t → length w ≡ length j
    clearing_length = pass_length C.pass

    -- the next triple's word
    pub clearing_word : x ≤ slots t → at ≤ 1048576
    clearing_word inside =
        let word = pass_word C.pass inside in
        let long = clearing_length inside in
        let few = C.few in
        omega arith

    pub clearing_stays : x < slots t → get_or m x 0 ≡ 0 → Clearing n t m j (x + 1) at w
    clearing_stays inside e = record { sheet = C.sheet; few = C.few; pass = pass_stays C.pass inside (bare_stays C.sheet x e) }

    -- over marks that are 0
    pub clearing_over : {y : ℕ} → Skips m x y → Clearing n t m j y at w
    clearing_over {y} s =
        let long = (of_layer C.sheet).long in
        let within = s.within in
        record {
          sheet = C.sheet;
          few = C.few;
          pass = pass_over C.pass y s.onward (omega arith) (λ z low high. bare_stays C.sheet z (s.clear z low high));
        }

    pub clearing_more : {at' : ℕ} {w' : List ℕ} → Pass t (removed n t m) j (x + 1) at' w' → Clearing n t m j (x + 1) at' w'
    clearing_more P = record { sheet = C.sheet; few = C.few; pass = P }

  pub clearing_end : Removing n t m j → {at : ℕ} {w : List ℕ} → Clearing n t m j (slots t) at w
      → w ≡ drafted j (changes_from 0 t (removed n t m))
  clearing_end G C = (pass_end C.pass G.rule _ refl).draft
