-- How unsew ends: refused by a check (`unsew_refused`), else by what is left of it, `commit` (`unsew_goes`); and what it knows on the way:
-- by which test 11 goes (`sewn_test`), that the table and the journal fit (`table_rule`, `journal_rule`), what the record is drafted from (`unsewn_record`) and is (`unsewn_drafted`).
use Prim.Native.Nat.{ℕ, ◌≤◌}
use mathlib.Core.Path.{◌≡◌, sym, ap}
use mathlib.Core.Bool.{Bool, false, not}
use mathlib.Core.List.{List, []}
use lib.ListN.{length}
use lib.Dec.{eqb}
use Rattle.model.specs.Table.{slots, link}
use Rattle.model.specs.Journal.{changes_from}
use Rattle.model.specs.Sew.{unsew_table}
use Rattle.model.specs.Checks.{pass, must, in_order, table_ok, sewn_ok, unsew_checks}
use Rattle.model.specs.Calls.{refused, commit, unsew_call}
use Rattle.model.specs.Meaning.Sets.{Marked}
use Rattle.model.specs.Meaning.Numbers.{JournalRule}
use Rattle.theorems.proofs.Calls.Checks.{passed_at}
use Rattle.theorems.proofs.Calls.Pass.{journal_pass, UnsewPassed, unsew_side}
use Rattle.drafts.specs.Drafts.{drafted}
use Rattle.drafts.specs.Passes.{Room, Drafted}
use Rattle.marked_links.specs.Marked.{MarkedRecord}
use Rattle.answers.specs.Answers.{Refused, outcome}
use Rattle.call_unsew.specs.Marking.{Marking, Unsewn}
use Rattle.call_unsew.proofs.Freeing.{unsewn_freed, unsewn_number}
use Rattle.std.specs.Prelude.{Err}
use Rattle.answers.specs.Openings.{refusing}

module _ (n : ℕ) (t j : List ℕ) (tag i d : ℕ) where
  pub unsew_refused : (r : Refused) → in_order (unsew_checks n t j i d) ≡ refusing r
      → outcome (Err r) t [] j ≡ unsew_call n t j tag i d
  unfolding unsew_call refused
  unsew_refused r h = rw (h, unsew_call)

  pub unsew_goes : in_order (unsew_checks n t j i d) ≡ pass
      → unsew_call n t j tag i d ≡ commit t (unsew_table n t i d) [] j tag 0 (λ cs. length cs)
  unfolding unsew_call
  unsew_goes e = rw (e, unsew_call)

pub sewn_test : (t : List ℕ) (i d : ℕ) {b : Bool} → b ≡ eqb (link t i d) d → must (not b) 11 ≡ sewn_ok t i d
unfolding sewn_ok
sewn_test t i d is = ap (λ b. must (not b) 11) is

pub table_rule : (n : ℕ) (t j : List ℕ) (i d : ℕ) → in_order (unsew_checks n t j i d) ≡ pass → table_ok t ≡ pass
unfolding unsew_checks
table_rule n t j i d h = passed_at (unsew_checks n t j i d) h 1

pub journal_rule : (n : ℕ) (t j : List ℕ) (i d : ℕ) → in_order (unsew_checks n t j i d) ≡ pass → JournalRule j
unfolding unsew_checks
journal_rule n t j i d h = journal_pass j (passed_at (unsew_checks n t j i d) h 2)

-- ---- the darts are marked

module _ {n : ℕ} {t : List ℕ} {i d : ℕ} (passed : UnsewPassed n t i d) {m₀ m : List ℕ} {r : ℕ}
    (clear : (x : ℕ) → Marked m₀ x → ⊥) (wide : slots t ≤ length m₀) (M : Marking (Unsewn n t i d) m₀ m r)
  where
    pub changes_number : r ≡ length (changes_from 0 t (unsew_table n t i d))
    changes_number = unsewn_number (unsew_side passed) passed.sewn clear wide M

    module _ {j : List ℕ} (rule : JournalRule j) (room : Room t (unsew_table n t i d) j) where
      pub unsewn_record : MarkedRecord false t (unsew_table n t i d) m i j
      unsewn_record = record { freed = unsewn_freed (unsew_side passed) passed.sewn clear wide M; rule = rule; room = room }

      pub unsewn_drafted : {w : List ℕ} → w ≡ drafted j (changes_from 0 t (unsew_table n t i d))
          → Drafted t (unsew_table n t i d) j r w
      unsewn_drafted draft = record {
        long = sym (unsewn_freed (unsew_side passed) passed.sewn clear wide M).long;
        rule = rule;
        room = room;
        count = changes_number;
        draft = draft;
      }
