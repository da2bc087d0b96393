-- The rising pass that drafts a record: a listed change is the record. It begins with `pass_start`, goes over slots that stay by
-- `pass_stays` and `pass_over`, over one with a change by `link_met` or `slot_met`, and has the whole draft by `pass_end`.
use Prim.Native.Nat.{ℕ, zero, suc, ◌+◌, ◌*◌, ◌-◌, ◌≤◌, ◌<◌}
use mathlib.Core.Path.{◌≡◌, sym, ap, ◌∙◌}
use mathlib.Core.Logic.{◌≢◌}
use mathlib.Core.List.{List, [], ◌∷◌, ◌++◌}
use native.Mathlib.Numerals.{add-one}
use native.Mathlib.Omega.{arith}
use lib.ListN.{length, get_or}
use Rattle.model.specs.Table.{unused, slots, link}
use Rattle.model.specs.Journal.{Change, cursor, changes_from}
use Rattle.model.specs.Meaning.Numbers.{JournalRule}
use Rattle.drafts.specs.Drafts.{drafted, changes_below}
use Rattle.drafts.specs.Passes.{Room, Met, Pass, OneLink, FourLinks, Drafted}
use Rattle.drafts.proofs.Changes.{below_none, below_all, below_most, below_other, below_count, below_alike}
use Rattle.drafts.proofs.Drafts.{draft_none, draft_keeps}

-- what `write_triple` ensures
abbrev pub Wrote : (e old new at : ℕ) (w w' : List ℕ) → Type 0
Wrote e old new at w w' = (j : List ℕ) (cs : List Change) → w ≡ drafted j cs → at ≡ cursor j + (3 * length cs + 2)
    → w' ≡ drafted j (cs ++ record { entry = e; old = old; new = new } ∷ [])

-- ---- entries

module _ {t u j : List ℕ} (long : length t ≡ length u) where
  met_on : {e e' at : ℕ} {w : List ℕ} → changes_below e' t u ≡ changes_below e t u → Met t u j e at w → Met t u j e' at w
  met_on {e} {e'} {at} {w} b m = record {
    draft = m.draft ∙ ap (drafted j) (sym b);
    word = m.word ∙ ap (λ (cs : List Change). cursor j + (3 * length cs + 2)) (sym b);
  }

  met_length : (e at : ℕ) (w : List ℕ) → Room t u j → e ≤ length t → Met t u j e at w → length w ≡ length j
  met_length e at w room h m =
      let most = below_most t u long e h in
      ap length m.draft ∙ (draft_keeps j (changes_below e t u) (omega arith)).1

  -- the next entry is a change from old to new
  module _ (e at : ℕ) (w : List ℕ) (inside : e < length t) (m : Met t u j e at w) (old new : ℕ)
      (before : old ≡ get_or t e unused) (after : new ≡ get_or u e unused) (differ : old ≢ new)
    where
      differs : get_or t e unused ≡ get_or u e unused → ⊥
      differs p = differ (before ∙ p ∙ sym after)

      pub met_room : Room t u j → at + 4 ≤ length w
      met_room room =
          let l = met_length e at w room (omega arith) m in
          let most = below_most t u long (suc e) inside in
          let more = below_count t u long e inside unused differs in
          let word = m.word in
          omega arith

      pub met_more : (w' : List ℕ) → Wrote e old new at w w' → Met t u j (e + 1) (at + 3) w'
      met_more w' wrote =
          let b = below_other t u long e inside unused differs in
          let more = below_count t u long e inside unused differs in
          let word = m.word in
          rw add-one (record {
            draft = rw (before, after) at (wrote j (changes_below e t u) m.draft m.word) ∙ ap (drafted j) (sym b);
            word = omega arith;
          })

-- ---- slots

pub pass_start : {t u j : List ℕ} → length t ≡ length u → length t ≡ 4 * slots t → slots t ≤ 65536 → Room t u j
    → Pass t u j 0 (cursor j + 2) j
pass_start {t} {u} {j} long fits few room =
    let none = below_none t u long in
    record {
      long = long;
      fits = fits;
      few = few;
      room = room;
      met = record { draft = sym (ap (drafted j) none ∙ draft_none j); word = rw none };
    }

module _ {t u j : List ℕ} {x at : ℕ} {w : List ℕ} (P : Pass t u j x at w) where
  pub pass_length : x ≤ slots t → length w ≡ length j
  pass_length h = let fits = P.fits in met_length P.long (4 * x) at w P.room (omega arith) P.met

  -- the next triple begins in the journal
  pub pass_word : x ≤ slots t → at < length w
  pass_word h =
      let fits = P.fits in
      let long = pass_length h in
      let most = below_most t u P.long (4 * x) (omega arith) in
      let word = P.met.word in
      let room = P.room in
      omega arith

  onward : {x' at' : ℕ} {w' : List ℕ} → Met t u j (4 * x') at' w' → Pass t u j x' at' w'
  onward m = record { long = P.long; fits = P.fits; few = P.few; room = P.room; met = m }

  pub pass_stays : x < slots t → ((k : ℕ) → k < 4 → link u k x ≡ link t k x) → Pass t u j (x + 1) at w
  unfolding link
  pass_stays inside same =
      let fits = P.fits in
      let next : 4 * (x + 1) ≡ 4 * x + 4 = omega arith in
      onward (rw next (met_on P.long
      (below_alike t u P.long (4 * x) 4 unused (omega arith) (λ k low. sym (same k low))) P.met))

-- the slots from x on, m of them, stay
pass_skips : {t u j : List ℕ} {x at : ℕ} {w : List ℕ} (m : ℕ) → Pass t u j x at w → x + m ≤ slots t
    → ((y : ℕ) → x ≤ y → y < x + m → (k : ℕ) → k < 4 → link u k y ≡ link t k y) → Pass t u j (x + m) at w
pass_skips {x = x} zero P inside same = let here : x + zero ≡ x = omega arith in rw here P
pass_skips {x = x} (suc m) P inside same =
    let next : x + suc m ≡ x + m + 1 = omega arith in
    rw next (pass_stays (pass_skips m P (omega arith) (λ y low high. same y low (omega arith))) (omega arith)
    (same (x + m) (omega arith) (omega arith)))

pub pass_over : {t u j : List ℕ} {x at : ℕ} {w : List ℕ} → Pass t u j x at w → (y : ℕ) → x ≤ y → y ≤ slots t
    → ((z : ℕ) → x ≤ z → z < y → (k : ℕ) → k < 4 → link u k z ≡ link t k z) → Pass t u j y at w
pass_over {x = x} P y on inside same =
    let sum : x + (y - x) ≡ y = omega arith in
    rw sum at (pass_skips (y - x) P (omega arith) (λ z low high. same z low (omega arith)))

module _ {t u j : List ℕ} {x at : ℕ} {w : List ℕ} (P : Pass t u j x at w) where
  -- ---- one link

  module _ {i old new : ℕ} (one : OneLink t u x i old new) where
    -- the links before it stay
    front : Met t u j (4 * x + i) at w
    unfolding link
    front =
        let fits = P.fits in
        let inside = one.inside in
        let index = one.index in
        met_on P.long
        (below_alike t u P.long (4 * x) i unused (omega arith) (λ k h. sym (one.others k (omega arith) (λ e. omega arith)))) P.met

    entry_inside : 4 * x + i < length t
    entry_inside = let fits = P.fits in let inside = one.inside in let index = one.index in omega arith

    -- what `write_triple` requires
    pub link_room : at + 4 ≤ length w
    unfolding link
    link_room = met_room P.long (4 * x + i) at w entry_inside front old new one.before one.after one.differ P.room

    pub link_met : (w' : List ℕ) → Wrote (4 * x + i) old new at w w' → Pass t u j (x + 1) (at + 3) w'
    unfolding link
    link_met w' wrote =
        let fits = P.fits in
        let inside = one.inside in
        let index = one.index in
        let next : 4 * (x + 1) ≡ 4 * x + i + 1 + (3 - i) = omega arith in
        let more = met_more P.long (4 * x + i) at w entry_inside front old new one.before one.after one.differ w' wrote in
        onward P (rw next (met_on P.long
        (below_alike t u P.long (4 * x + i + 1) (3 - i) unused (omega arith)
        (λ k h.
        let place : 4 * x + i + 1 + k ≡ 4 * x + (i + 1 + k) = omega arith in
        rw place (sym (one.others (i + 1 + k) (omega arith) (λ e. omega arith))))) more))

  -- ---- four links

  module _ {old new : List ℕ} (four : FourLinks t u x old new) where
    pub slot_none : Met t u j (4 * x + 0) (at + 3 * 0) w
    slot_none =
        let e : 4 * x + 0 ≡ 4 * x = omega arith in
        let a : at + 3 * 0 ≡ at = omega arith in
        rw (e, a) P.met

    -- the links below k are met
    module _ (k : ℕ) (low : k < 4) (v : List ℕ) (m : Met t u j (4 * x + k) (at + 3 * k) v) where
      slot_inside : 4 * x + k < length t
      slot_inside = let fits = P.fits in let inside = four.inside in omega arith

      -- what `write_triple` requires
      pub slot_room : at + 3 * k + 4 ≤ length v
      unfolding link
      slot_room = met_room P.long (4 * x + k) (at + 3 * k) v slot_inside m (get_or old k 0) (get_or new k 0) (four.before k low)
          (four.after k low) (four.differ k low) P.room

      pub slot_more : (v' : List ℕ) → Wrote (4 * x + k) (get_or old k 0) (get_or new k 0) (at + 3 * k) v v'
          → Met t u j (4 * x + (k + 1)) (at + 3 * (k + 1)) v'
      unfolding link
      slot_more v' wrote =
          let e : 4 * x + (k + 1) ≡ 4 * x + k + 1 = omega arith in
          let a : at + 3 * (k + 1) ≡ at + 3 * k + 3 = omega arith in
          rw (e, a) (met_more P.long (4 * x + k) (at + 3 * k) v slot_inside m (get_or old k 0) (get_or new k 0) (four.before k low)
          (four.after k low) (four.differ k low) v' wrote)

    pub slot_length : (k : ℕ) → k ≤ 4 → (a : ℕ) (v : List ℕ) → Met t u j (4 * x + k) a v → length v ≡ length j
    slot_length k low a v m =
        let fits = P.fits in
        let inside = four.inside in
        met_length P.long (4 * x + k) a v P.room (omega arith) m

    pub slot_met : (v : List ℕ) → Met t u j (4 * x + 4) (at + 3 * 4) v → Pass t u j (x + 1) (at + 12) v
    slot_met v m =
        let e : 4 * (x + 1) ≡ 4 * x + 4 = omega arith in
        onward P (rw e m)

-- ---- the end

pub pass_end : {t u j : List ℕ} {at : ℕ} {w : List ℕ} → Pass t u j (slots t) at w → JournalRule j
    → (k : ℕ) → k ≡ length (changes_from 0 t u) → Drafted t u j k w
pass_end {t} {u} {j} P rule k count =
    let all = below_all t u P.long in
    record {
      long = P.long;
      rule = rule;
      room = P.room;
      count = count;
      draft = P.met.draft ∙ ap (drafted j) (ap (λ (e : ℕ). changes_below e t u) (sym P.fits) ∙ all);
    }
