-- The record of marked darts that link i sews or frees: what happens at a slot (`marked_one`, `unmarked_stays`), and the pass from
-- `marked_start` by `marked_more` and over slots that are `Skipped` to `marked_end`.
use Prim.Native.Nat.{ℕ, ◌+◌, ◌*◌, ◌≤◌, ◌<◌}
use mathlib.Core.Path.{◌≡◌, refl, sym, ◌∙◌}
use mathlib.Core.Bool.{Bool, true, false}
use mathlib.Core.List.{List}
use native.Mathlib.Omega.{arith}
use lib.ListN.{length}
use Rattle.model.specs.Table.{slots, link}
use Rattle.model.specs.Journal.{cursor, changes_from}
use Rattle.model.specs.Meaning.Sets.{Marked}
use Rattle.theorems.proofs.Lists.Scan.{if_eq}
use Rattle.scans.specs.Clear.{Clear, Skips}
use Rattle.drafts.specs.Drafts.{drafted}
use Rattle.drafts.specs.Passes.{Pass, OneLink}
use Rattle.drafts.proofs.Passes.{pass_start, pass_stays, pass_over, pass_word, pass_length, pass_end}
use Rattle.marked_links.specs.Marked.{Freed, before, after, MarkedRecord, MarkedPass}

slots_same : (t v : List ℕ) → length v ≡ length t → slots v ≡ slots t
unfolding slots
slots_same t v long = rw long

module _ {t v m : List ℕ} {i : ℕ} (F : Freed t v m i) where
  pub slots_before : (sews : Bool) → slots (before sews t v) ≡ slots t
  slots_before true = slots_same t v F.long
  slots_before false = refl

  fits_before : (sews : Bool) → length (before sews t v) ≡ 4 * slots (before sews t v)
  fits_before true = rw (slots_same t v F.long) (F.long ∙ F.fits)
  fits_before false = F.fits

  long_after : (sews : Bool) → length (before sews t v) ≡ length (after sews t v)
  long_after true = F.long
  long_after false = sym F.long

  module _ (x : ℕ) (inside : x < slots t) where
    -- a marked dart changes its link i alone
    pub marked_one : (sews : Bool) (y : ℕ) → y ≡ link t i x → Marked m x
        → OneLink (before sews t v) (after sews t v) x i (elim sews [ true ↦ x | false ↦ y ]) (elim sews [ true ↦ y | false ↦ x ])
    marked_one true y is h = record {
      inside = rw (slots_before true) inside;
      index = F.index;
      before = sym (F.free x inside h);
      after = is;
      differ = λ q. F.sewn x inside h (sym is ∙ sym q);
      others = λ k low ne. sym (F.other x k inside low ne);
    }
    marked_one false y is h = record {
      inside = inside;
      index = F.index;
      before = is;
      after = sym (F.free x inside h);
      differ = λ q. F.sewn x inside h (sym is ∙ q);
      others = λ k low ne. F.other x k inside low ne;
    }

    same : (Marked m x → ⊥) → (k : ℕ) → k < 4 → link v k x ≡ link t k x
    same out k low = if_eq k i (λ e. rw e (F.rest x inside out)) (λ ne. F.other x k inside low ne)

    pub unmarked_stays : (sews : Bool) → (Marked m x → ⊥) → (k : ℕ) → k < 4
        → link (after sews t v) k x ≡ link (before sews t v) k x
    unmarked_stays true out k low = sym (same out k low)
    unmarked_stays false out k low = same out k low

module _ {sews : Bool} {t v m : List ℕ} {i : ℕ} {j : List ℕ} where
  pub marked_start : MarkedRecord sews t v m i j → MarkedPass sews t v m i j 0 (cursor j + 2) j
  marked_start T =
      let F = T.freed in
      let same = slots_before F sews in
      let few = F.few in
      record {
        freed = F;
        few = T.rule.few;
        pass = pass_start (long_after F sews) (fits_before F sews) (omega arith) T.room;
      }

  module _ {x at : ℕ} {w : List ℕ} (T : MarkedPass sews t v m i j x at w) where
    -- the next triple's word, and the journal's length
    pub marked_word : x ≤ slots t → at < length w
    marked_word inside = let same = slots_before T.freed sews in pass_word T.pass (omega arith)

    pub marked_length : x ≤ slots t → length w ≡ length j
    marked_length inside = let same = slots_before T.freed sews in pass_length T.pass (omega arith)

    pub marked_stays : x < slots t → (Marked m x → ⊥) → MarkedPass sews t v m i j (x + 1) at w
    marked_stays inside out = let same = slots_before T.freed sews in record {
      freed = T.freed;
      few = T.few;
      pass = pass_stays T.pass (omega arith) (unmarked_stays T.freed x inside sews out);
    }

    -- over slots that are not marked
    pub marked_over : (y : ℕ) → x ≤ y → y ≤ slots t → Clear m x y → MarkedPass sews t v m i j y at w
    marked_over y low high clear = let same = slots_before T.freed sews in record {
      freed = T.freed;
      few = T.few;
      pass = pass_over T.pass y low (omega arith)
          (λ z after before. unmarked_stays T.freed z (omega arith) sews (λ h. let zero = clear z after before in omega arith));
    }

    pub marked_more : {at' : ℕ} {w' : List ℕ} → Pass (before sews t v) (after sews t v) j (x + 1) at' w'
        → MarkedPass sews t v m i j (x + 1) at' w'
    marked_more P = record { freed = T.freed; few = T.few; pass = P }

  pub marked_end : MarkedRecord sews t v m i j → {at : ℕ} {w : List ℕ} → MarkedPass sews t v m i j (slots t) at w
      → w ≡ drafted j (changes_from 0 (before sews t v) (after sews t v))
  marked_end T {at} {w} P =
      let all = rw (← slots_before T.freed sews) at P.pass in
      (pass_end all T.rule _ refl).draft

-- ---- slots skipped

-- the pass has met the slots below y, and none from there to before x is marked
pub record Skipped (sews : Bool) (t v m : List ℕ) (i : ℕ) (j : List ℕ) (x at : ℕ) (w : List ℕ) : Type 0 where
  pub y : ℕ
  pub inside : y ≤ slots t
  pub skips : Skips m y x
  pub met : MarkedPass sews t v m i j y at w

module _ {sews : Bool} {t v m : List ℕ} {i : ℕ} {j : List ℕ} {x at : ℕ} {w : List ℕ} (S : Skipped sews t v m i j x at w) where
  pub skipped_here : x ≤ slots t → MarkedPass sews t v m i j x at w
  skipped_here high = marked_over S.met x S.skips.onward high S.skips.clear

  pub skipped_all : slots t ≤ x → MarkedPass sews t v m i j (slots t) at w
  skipped_all high =
      marked_over S.met (slots t) S.inside (omega arith) (λ z low below. S.skips.clear z low (omega arith))
