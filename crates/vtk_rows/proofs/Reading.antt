-- A row read number by number: `going_start`, `going_more`; and what it comes to: `going_read`.
use Prim.Native.Nat.{ℕ, suc, ◌+◌, ◌-◌, ◌≤◌, ◌<◌}
use mathlib.Core.Path.{◌≡◌, refl, sym, ap, ◌∙◌}
use mathlib.Core.List.{List}
use mathlib.Core.Option.{some}
use native.Mathlib.Omega.{arith}
use native.Mathlib.Numerals.{add-one}
use lib.ListN.{length, get_or, drop, set, length-set}
use borrow.Rule.Slice.PartMut.{put_mid, same_len_mid, mid_len}
use Rattle.std.proofs.Common.{get_or-drop, get_or-take}
use Rattle.std.proofs.lemmas.Slice.{between-put_mid, take-put_mid_below, drop-put_mid}
use lib.Seq.{drop-cons, drop-drop, get_or-set_same, get_or-set_other}
use Rattle.model.specs.Vtk.{words, Counted, counted, numbers}
use Rattle.theorems.proofs.Lists.Scan.{if_eq}
use Rattle.theorems.proofs.Vtk.Form.{numbers_long}
use Rattle.vtk_words.specs.Words.{number_at}
use Rattle.vtk_words.proofs.Counting.{FirstNumber, numbers_first, drop_more}
use Rattle.vtk_rows.specs.Rows.{RowAt, Put, RowRead}

-- i numbers of a row are read, and the next stands at p
pub record Going (text : List ℕ) (at : ℕ) (row before after : List ℕ) (base p i : ℕ) : Type 0 where
  pub behind : words (drop p text) ≡ drop i (words (drop at text))
  pub read : numbers (8 - i) (words (drop p text)) ≡ some (drop i row)
  pub stands : Put before after base i row

module _ (text : List ℕ) (at : ℕ) (row before : List ℕ) (base : ℕ) where
  pub going_start : RowAt text at row → Going text at row before before base at 0
  going_start h = record {
    behind = refl;
    read = h.read;
    stands = record { same = refl; put = λ j l. absurd (omega arith); below = λ x l. refl; above = λ x l. refl };
  }

  module _ (after : List ℕ) (p i : ℕ) (low : i < 8) (g : Going text at row before after base p i) where
    first_number : RowAt text at row → FirstNumber (7 - i) (words (drop p text)) (get_or row i 0) (drop (suc i) row)
    first_number h =
        let more : 8 - i ≡ suc (7 - i) = omega arith in
        let long = numbers_long 8 (words (drop at text)) row h.read in
        let read = g.read in
        numbers_first (7 - i) (words (drop p text)) (get_or row i 0) (drop (suc i) row) (rw (more, drop-cons row i 0 (omega arith)) at read)

    -- the next word is a number of the row
    pub going_next : RowAt text at row → (c : Counted) × (counted (words (drop p text)) ≡ some c) × (c.value < length text)
    going_next h = let f = first_number h in (record { value = get_or row i 0; rest = f.rest }, f.is, h.few i low)

    pub going_more : RowAt text at row → (v end : ℕ) → counted (words (drop p text)) ≡ some (number_at text v end)
        → base + i < length after → Going text at row before (set after (base + i) v) base end (i + 1)
    going_more h v end first room =
        let f = first_number h in
        let same : record { value = get_or row i 0; rest = f.rest } ≡ number_at text v end = cc f.is in
        let value : get_or row i 0 ≡ v = ap (λ (c : Counted). c.value) same in
        let rest : f.rest ≡ words (drop end text) = ap (λ (c : Counted). c.rest) same in
        let less : 8 - suc i ≡ 7 - i = omega arith in
        record {
          behind =
              sym (drop_more (words (drop p text)) (number_at text v end) first 0) ∙ ap (drop 1) g.behind
              ∙ drop-drop 1 i (words (drop at text));
          read = rw (add-one i, less, ← rest) f.read;
          stands = record {
            same = simp length-set g.stands.same;
            put = λ j l. if_eq j i (λ e. rw (e, get_or-set_same after (base + i) v 0 room, value))
                (λ e. get_or-set_other after (base + i) (base + j) v 0 (λ q. e (omega arith)) ∙ g.stands.put j (omega arith));
            below = λ x l. get_or-set_other after (base + i) x v 0 (λ q. absurd (omega arith)) ∙ g.stands.below x l;
            above = λ x l. get_or-set_other after (base + i) x v 0 (λ q. absurd (omega arith)) ∙ g.stands.above x (omega arith);
          };
        }

-- eight words of a buffer that are lent, and given back
module _ (text : List ℕ) (at : ℕ) (row rows : List ℕ) (base : ℕ) (room : base + 8 ≤ length rows) where
  abbrev lent : ℕ
  lent = base + 8 - base

  given_back : {before after : List ℕ} → length after ≡ 8 → Put before after 0 8 row → Put rows (put_mid base lent rows after) base 8 row
  given_back {before} {after} eight P =
      let all = put_mid base lent rows after in
      record {
        same = same_len_mid base lent rows after (eight ∙ sym (mid_len base (base + 8) rows room ∙ omega arith));
        put = λ j l.
            sym (get_or-drop base all j 0) ∙ sym (get_or-take lent (drop base all) j 0 (omega arith))
            ∙ ap (λ (xs : List ℕ). get_or xs j 0) (between-put_mid base lent rows after (base + 8) (omega arith) (omega arith))
            ∙ ap (λ (y : ℕ). get_or after y 0) (omega arith) ∙ P.put j l;
        below = λ x l.
            sym (get_or-take base all x 0 l) ∙ ap (λ (xs : List ℕ). get_or xs x 0) (take-put_mid_below base lent rows after base (omega arith) (omega arith))
            ∙ get_or-take base rows x 0 l;
        above = λ x l.
            let there : base + 8 + (x - (base + 8)) ≡ x = omega arith in
            ap (λ (y : ℕ). get_or all y 0) (sym there) ∙ sym (get_or-drop (base + 8) all (x - (base + 8)) 0)
            ∙ ap (λ (xs : List ℕ). get_or xs (x - (base + 8)) 0) (drop-put_mid base lent rows after (base + 8) (omega arith) (omega arith) (omega arith))
            ∙ get_or-drop (base + 8) rows (x - (base + 8)) 0 ∙ ap (λ (y : ℕ). get_or rows y 0) there;
      }

  pub going_read : {before after : List ℕ} {p i : ℕ} → length after ≡ 8 → i ≡ 8 → Going text at row before after 0 p i
      → RowRead text at row rows (put_mid base lent rows after) base p
  going_read eight all g = let h = rw all at g in record { behind = h.behind; stands = given_back eight h.stands }
