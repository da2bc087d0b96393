-- The record of add, drafted slot by slot: `drafting_none`, `drafting_more`, `drafting_all`.
use Prim.Native.Nat.{ℕ, ◌+◌, ◌≤◌, ◌<◌}
use mathlib.Core.Path.{◌≡◌, refl, sym, ap, ◌∙◌}
use mathlib.Core.List.{List, [], ◌∷◌, Memᴰ as In}
use native.Mathlib.Omega.{arith}
use lib.ListN.{get_or, replicate, get_or-replicate}
use lib.Seq.{get_or-take}
use Rattle.model.specs.Lists.{index_of}
use Rattle.model.specs.Table.{unused, slots, link}
use Rattle.model.specs.Numbering.{cell_link}
use Rattle.model.specs.Journal.{cursor, changes_from}
use Rattle.model.specs.Add.{add_slots, add_table}
use Rattle.model.specs.Meaning.Slots.{added_dart}
use Rattle.theorems.proofs.Lists.Scan.{if_eq, if_lt, below_four}
use Rattle.theorems.proofs.Lists.Ones.{get_or_in, get_or_index, index_in}
use Rattle.theorems.proofs.Sets.Closure.{get_or_any}
use Rattle.theorems.proofs.Maps.Rules.{dead_link}
use Rattle.theorems.proofs.Cells.Rows.{row_goes}
use Rattle.theorems.proofs.Operations.Slots.{rising_at}
use Rattle.theorems.proofs.Operations.Added.{add_lowest, add_links, add_stays, add_length}
use Rattle.drafts.specs.Drafts.{drafted}
use Rattle.drafts.specs.Passes.{Pass, FourLinks}
use Rattle.drafts.proofs.Passes.{pass_start, pass_over, pass_end}
use Rattle.call_add.specs.NewCell.{NewCell}

module _ {n : ℕ} {t words : List ℕ} {size : ℕ} {j : List ℕ} (C : NewCell n t words size j) where
  abbrev word : ℕ → ℕ
  word k = get_or words k 0

  pub word_new : (k : ℕ) → k < size → word k ≡ added_dart n t k
  word_new k low =
      let long = C.long in
      get_or_any words k 0 unused (omega arith) ∙ sym (get_or-take size words k unused low)
      ∙ ap (λ (l : List ℕ). get_or l k unused) C.listed

  word_in : (k : ℕ) → k < size → In (word k) (add_slots n t)
  word_in k low =
      let whole = C.whole in
      let enough = C.enough in
      rw (word_new k low) (get_or_in (add_slots n t) k unused (omega arith))

  pub word_inside : (k : ℕ) → k < size → word k < slots t
  word_inside k low = (add_lowest C.table C.enough).vacant.inside (word k) (word_in k low)

  rises : (k l : ℕ) → k < l → l < size → word k < word l
  rises k l kl low =
      let whole = C.whole in
      let enough = C.enough in
      let up = rising_at (add_lowest C.table C.enough).rising k l unused kl (omega arith) in
      let a = word_new k (omega arith) in
      let b = word_new l low in
      omega arith

  -- each new slot is a word
  place : (x : ℕ) → In x (add_slots n t) → (k : ℕ) × (k < size) × (word k ≡ x)
  place x i =
      let whole = C.whole in
      let enough = C.enough in
      let low = index_in (add_slots n t) x i in
      (index_of x (add_slots n t), omega arith, word_new _ (omega arith) ∙ get_or_index (add_slots n t) x unused i)

  goes : (i k : ℕ) → i < 4 → k < size → cell_link n i k < size
  goes i k index low = rw C.whole (row_goes n k C.table.dim (rw C.whole at low) i index)

  -- the k-th slot: four links, none of which it had
  pub new_links : (k : ℕ) → k < size → {a b c d : ℕ} → a ≡ word (cell_link n 0 k) → b ≡ word (cell_link n 1 k)
      → c ≡ word (cell_link n 2 k) → d ≡ word (cell_link n 3 k)
      → FourLinks t (add_table n t) (word k) (replicate 4 unused) (a ∷ b ∷ c ∷ d ∷ [])
  new_links k low {a} {b} {c} {d} at_0 at_1 at_2 at_3 = record {
    inside = word_inside k low;
    before = λ i h. get_or-replicate 4 i unused 0 h ∙ sym (dead_link t (word k)
        ((add_lowest C.table C.enough).vacant.dead (word k) (word_in k low)) i h);
    after = λ i h. listed i h ∙ follows i h;
    differ = λ i h q.
        let few = C.table.few in
        let inside = word_inside (cell_link n i k) (goes i k h low) in
        let is = listed i h in
        let old = get_or-replicate 4 i unused 0 h in
        omega arith;
  }
    where
      listed : (i : ℕ) → i < 4 → get_or (a ∷ b ∷ c ∷ d ∷ []) i 0 ≡ word (cell_link n i k)
      listed i h = below_four (λ i. get_or (a ∷ b ∷ c ∷ d ∷ []) i 0 ≡ word (cell_link n i k)) at_0 at_1 at_2 at_3 i h

      follows : (i : ℕ) → i < 4 → word (cell_link n i k) ≡ link (add_table n t) i (word k)
      follows i h =
          let whole = C.whole in
          word_new (cell_link n i k) (goes i k h low) ∙ sym (add_links C.table C.enough i k h (omega arith))
          ∙ ap (link (add_table n t) i) (sym (word_new k low))

-- the first k slots are drafted, up to the slot `from`
pub record Drafting (n : ℕ) (t words : List ℕ) (size : ℕ) (j : List ℕ) (k at : ℕ) (w : List ℕ) : Type 0 where
  pub from : ℕ
  pub pass : Pass t (add_table n t) j from at w
  pub behind : (l : ℕ) → l < k → get_or words l 0 < from
  pub ahead : (l : ℕ) → k ≤ l → l < size → from ≤ get_or words l 0
  pub inside : from ≤ slots t

module _ {n : ℕ} {t words : List ℕ} {size : ℕ} {j : List ℕ} (C : NewCell n t words size j) where
  pub drafting_none : Drafting n t words size j 0 (cursor j + 2) j
  drafting_none = record {
    from = 0;
    pass = pass_start (sym (add_length C.table C.enough)) C.table.whole C.table.few C.room;
    behind = λ l h. absurd (omega arith);
    ahead = λ l a h. omega arith;
    inside = omega arith;
  }

  module _ {k at : ℕ} {w : List ℕ} (D : Drafting n t words size j k at w) where
    -- the slots from `from` on, before y, are not new, where the next new one is not below y
    stays : (y : ℕ) → ((l : ℕ) → k ≤ l → l < size → y ≤ word C l) → (z : ℕ) → D.from ≤ z → z < y
        → (i : ℕ) → i < 4 → link (add_table n t) i z ≡ link t i z
    stays y next z low high i h = add_stays C.table C.enough z i h (λ m.
        let (l, few, is) = place C z m in
        if_lt l k (λ b. let before = D.behind l b in omega arith) (λ b. let after = next l b few in omega arith))

    -- the pass comes to the k-th slot
    pub drafting_at : k < size → Pass t (add_table n t) j (word C k) at w
    drafting_at h =
        let inside = word_inside C k h in
        pass_over D.pass (word C k) (D.ahead k (omega arith) h) (omega arith)
        (stays (word C k) (λ l low few. if_eq k l (λ e. let same = ap (word C) e in omega arith) (λ e.
        let up = rises C k l (omega arith) few in
        omega arith)))

    pub drafting_more : k < size → (w' : List ℕ) → Pass t (add_table n t) j (word C k + 1) (at + 12) w'
        → Drafting n t words size j (k + 1) (at + 12) w'
    drafting_more h w' P = record {
      from = word C k + 1;
      pass = P;
      behind = λ l low. if_eq l k (λ e. let same = ap (word C) e in omega arith) (λ e.
          let up = rises C l k (omega arith) h in
          omega arith);
      ahead = λ l low few. let up = rises C k l (omega arith) few in omega arith;
      inside = let inside = word_inside C k h in omega arith;
    }

    pub drafting_all : size ≤ k → w ≡ drafted j (changes_from 0 t (add_table n t))
    drafting_all h =
        (pass_end (pass_over D.pass (slots t) D.inside (omega arith)
        (stays (slots t) (λ l low few. absurd (omega arith)))) C.rule _ refl).draft
