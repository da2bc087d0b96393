-- "Removing the sheet through the new crossing edges must, given journal room, give back the old table entry for entry" (02, R-5):
-- `remove_accepted`, of a table that insert made; `insert_restored`, after an accepted insert. `restored_words`: the room that it needs.
use Prim.Native.Nat.{ℕ, ◌+◌, ◌*◌, ◌-◌, ◌≤◌, ◌<◌}
use mathlib.Core.Path.{◌≡◌, refl, ap, ◌∙◌, subst}
use mathlib.Core.Logic.{inr}
use mathlib.Core.List.{List, []}
use native.Mathlib.Omega.{arith}
use lib.ListN.{length}
use Rattle.model.specs.Lists.{count}
use Rattle.model.specs.Table.{slots}
use Rattle.model.specs.Remove.{remove_table}
use Rattle.model.specs.Insert.{insert_table}
use Rattle.model.specs.Journal.{cursor, changes_from, record_of, record_length}
use Rattle.model.specs.Calls.{remove_call, insert_call}
use Rattle.model.specs.Runs.{Op, do_call, keeping, effect}
use Rattle.model.specs.Meaning.Ends.{lent}
use Rattle.model.specs.Meaning.Numbers.{JournalRule}
use Rattle.model.specs.Meaning.Sets.{Marked}
use Rattle.model.specs.Meaning.Walls.{Inserts, layer_dart}
use Rattle.theorems.proofs.Operations.Changes.{changes_turn}
use Rattle.theorems.proofs.Insert.Inserted.{insert_dart, insert_back, insert_changes}
use Rattle.theorems.proofs.History.Record.{length_record}
use Rattle.theorems.proofs.Calls.Pass.{insert_passed}
use Rattle.theorems.proofs.Calls.Ends.{op_effect}
use Rattle.theorems.proofs.Calls.Removals.{remove_numbers}

module _ {n : ℕ} {t w : List ℕ} (I : Inserts n t w) where
  abbrev u : List ℕ
  u = insert_table n t w

  -- the record of remove has as many words as that of insert
  pub restored_words : (tag : ℕ) → length (record_of tag (changes_from 0 u t)) ≡ record_length ((4 * n + 1) * count 1 w)
  restored_words tag = length_record tag (changes_from 0 u t) ∙ ap record_length (changes_turn 0 u t ∙ insert_changes I)

  -- remove at the last new dart of a wall dart h, with marks m and a journal j
  module _ (h : ℕ) (on : Marked w h) (m j : List ℕ) (tag : ℕ) (long : length m ≡ slots u) (rule : JournalRule j)
      (room : length (record_of tag (changes_from 0 u t)) ≤ length j - cursor j) where
    abbrev d : ℕ
    d = layer_dart n t w (n - 1) h

    not_short : length j - cursor j < length (record_of tag (changes_from 0 u (remove_table n u d))) → ⊥
    not_short g =
        let short = subst (λ (v : List ℕ). length j - cursor j < length (record_of tag (changes_from 0 u v))) (insert_back I h on) g in
        omega arith

    remove_number : (remove_call n u m j tag d).number ≡ 0
    remove_number =
        (remove_numbers (insert_dart I h on) m j tag 0).1 (inr (λ g. g long, inr (λ g. g rule, inr (not_short, refl))))

    pub remove_accepted : ((remove_call n u m j tag d).number ≡ 0) × ((remove_call n u m j tag d).table ≡ t)
    unfolding do_call effect
    remove_accepted = (remove_number, (op_effect n (lent u m j) tag (Op.remove d) remove_number).1 ∙ insert_back I h on)

-- on any wall w, marks m and journals j and k, with any tags: u is the table after insert, d the last new dart of the wall dart h
pub insert_restored : (n : ℕ) (t w j : List ℕ) (tag : ℕ) → (insert_call n t w j tag).number ≡ 0 → (h : ℕ) → Marked w h
    → let u = (insert_call n t w j tag).table in
    let d = layer_dart n t w (n - 1) h in
    (m k : List ℕ) (back : ℕ) → length m ≡ slots u → JournalRule k
    → length (record_of back (changes_from 0 u t)) ≤ length k - cursor k
    → ((remove_call n u m k back d).number ≡ 0) × ((remove_call n u m k back d).table ≡ t)
unfolding do_call keeping effect
insert_restored n t w j tag accepted h on =
    let r = op_effect n (lent t [] j) tag (Op.insert w) accepted in
    rw r.1 (remove_accepted (insert_passed n t j w r.0) h on)
