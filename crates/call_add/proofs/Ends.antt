-- How add ends: refused by a check (`add_refused`), else by what is left of it, `commit` (`add_goes`); and what it knows on the way:
-- whether the unused slots that it lists are enough (`room_test`), what the record is written from (`new_cell`), and its draft
-- (`cell_drafted`).
use Prim.Native.Nat.{ℕ, ◌*◌, ◌≤◌, ◌<◌}
use mathlib.Core.Path.{◌≡◌, sym, ap, ◌∙◌}
use mathlib.Core.List.{List, []}
use native.Mathlib.Omega.{arith}
use lib.ListN.{length, get_or, take}
use lib.Seq.{get_or-take}
use lib.Dec.{eqb}
use Rattle.model.specs.Table.{unused_slots}
use Rattle.model.specs.Cell.{cell_size}
use Rattle.model.specs.Journal.{changes_from}
use Rattle.model.specs.Add.{add_slots, add_table}
use Rattle.model.specs.Checks.{pass, must, in_order, add_room_ok, add_checks}
use Rattle.model.specs.Calls.{refused, commit, add_call}
use Rattle.model.specs.Meaning.Maps.{MapTable}
use Rattle.model.specs.Meaning.Numbers.{JournalRule}
use Rattle.theorems.proofs.Maps.Dim.{size_some}
use Rattle.theorems.proofs.Operations.Added.{add_length, add_changes}
use Rattle.scans.specs.Lowest.{Lists}
use Rattle.drafts.specs.Drafts.{drafted}
use Rattle.drafts.specs.Passes.{Room, Drafted}
use Rattle.std.specs.Prelude.{Err}
use Rattle.answers.specs.Answers.{Refused, outcome}
use Rattle.answers.specs.Openings.{refusing}
use Rattle.call_add.specs.NewCell.{NewCell}
use Rattle.call_add.proofs.Drafting.{word_inside}

module _ (n : ℕ) (t j : List ℕ) (tag : ℕ) where
  pub add_refused : (e : Refused) → in_order (add_checks n t j) ≡ refusing e → outcome (Err e) t [] j ≡ add_call n t j tag
  unfolding add_call refused
  add_refused e h = rw (h, add_call)

  pub add_goes : in_order (add_checks n t j) ≡ pass
      → add_call n t j tag ≡ commit t (add_table n t) [] j tag (get_or (add_slots n t) 0 0) (λ cs. cell_size n)
  unfolding add_call
  add_goes e = rw (e, add_call)

-- ---- the slots listed

module _ (n : ℕ) (t : List ℕ) {want r : ℕ} {words₀ words : List ℕ} (size : want ≡ cell_size n)
    (listed : Lists (take want (unused_slots t)) r words₀ words)
  where
    pub room_test : must (eqb r want) 14 ≡ add_room_ok n t
    unfolding add_room_ok add_slots
    room_test = rw (listed.size, size)

    module _ (T : MapTable n t) (all : r ≡ want) where
      listed_slots : take want words ≡ add_slots n t
      unfolding add_slots
      listed_slots = ap (λ (k : ℕ). take k words) (sym all) ∙ listed.front ∙ rw size

      enough : length (add_slots n t) ≡ cell_size n
      unfolding add_slots
      enough = rw (← size) (sym listed.size ∙ all)

      -- "Place: first slot."
      pub first_slot : get_or words 0 0 ≡ get_or (add_slots n t) 0 0
      first_slot =
          let some = size_some n T.dim in
          sym (get_or-take want words 0 0 (omega arith)) ∙ ap (λ (l : List ℕ). get_or l 0 0) listed_slots

      pub changes_number : 4 * want ≡ length (changes_from 0 t (add_table n t))
      changes_number = rw size (sym (add_changes T enough))

      pub new_cell : (j : List ℕ) → want ≤ length words → JournalRule j → Room t (add_table n t) j → NewCell n t words want j
      new_cell j long rule room = record {
        table = T;
        whole = size;
        enough = enough;
        listed = listed_slots;
        long = long;
        rule = rule;
        room = room;
      }

module _ {n : ℕ} {t words : List ℕ} {size : ℕ} {j : List ℕ} (C : NewCell n t words size j) where
  pub cell_drafted : (w : List ℕ) → w ≡ drafted j (changes_from 0 t (add_table n t)) → Drafted t (add_table n t) j (4 * size) w
  cell_drafted w draft = record {
    long = sym (add_length C.table C.enough);
    rule = C.rule;
    room = C.room;
    count = rw C.whole (sym (add_changes C.table C.enough));
    draft = draft;
  }

  pub first_few : get_or words 0 0 < 65536
  first_few =
      let some = size_some n C.table.dim in
      let whole = C.whole in
      let inside = word_inside C 0 (omega arith) in
      let few = C.table.few in
      omega arith
