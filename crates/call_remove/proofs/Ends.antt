-- How remove ends: refused by the checks up to 8 (`remove_refused`), else by what is left of it, `commit` (`remove_goes`); and what it
-- knows on the way: how many entries it changes (`changes_number`), what the record is drafted from (`removing`), and its draft
-- (`layer_drafted`).
use Prim.Native.Nat.{ℕ, ◌+◌, ◌*◌}
use mathlib.Core.Path.{◌≡◌, sym}
use mathlib.Core.List.{List}
use lib.ListN.{length}
use Rattle.model.specs.Lists.{count}
use Rattle.model.specs.Journal.{changes_from}
use Rattle.model.specs.Remove.{count_marked, removed, remove_table}
use Rattle.model.specs.Checks.{in_order, layer_checks}
use Rattle.model.specs.Calls.{refused, commit, remove_call}
use Rattle.theorems.proofs.Layers.RemoveCounts.{remove_changes}
use Rattle.drafts.specs.Drafts.{drafted}
use Rattle.drafts.specs.Passes.{Room, Drafted}
use Rattle.answers.specs.Answers.{Refused, outcome}
use Rattle.answers.proofs.Layered.{Sheeted, given}
use Rattle.call_remove.specs.Removing.{OfSheet, Removing}
use Rattle.call_remove.proofs.Clearings.{of_long}
use Rattle.std.specs.Prelude.{Err}
use Rattle.answers.specs.Openings.{refusing}

pub remove_refused : (n : ℕ) (t m j : List ℕ) (tag d : ℕ) (r : Refused) → in_order (layer_checks n t m j d) ≡ refusing r
    → outcome (Err r) t m j ≡ remove_call n t m j tag d
unfolding remove_call refused
remove_refused n t m j tag d r h = rw (h, remove_call)

module _ {n d : ℕ} {t m j s : List ℕ} (H : Sheeted n t m j d s) where
  pub remove_goes : (tag : ℕ) → remove_call n t m j tag d ≡ commit t (removed n t s) s j tag 0 (λ cs. count_marked s)
  unfolding remove_call remove_table
  remove_goes tag = rw H.marked (rw (H.passed, remove_call))

  of_sheet : OfSheet n t s
  of_sheet = record { d = d; dart = (given H).dart; marks = H.marked }

  pub changes_number : {darts edge : ℕ} → darts ≡ count_marked s → edge ≡ count 3 s
      → 4 * darts + edge ≡ length (changes_from 0 t (removed n t s))
  unfolding remove_table
  changes_number inner three = rw (inner, three, H.marked) (sym (remove_changes (given H).dart))

  pub removing : Room t (removed n t s) j → Removing n t s j
  removing room = record { sheet = of_sheet; rule = (given H).rule; room = room }

pub layer_drafted : {n : ℕ} {t s j : List ℕ} → Removing n t s j → (k : ℕ) → k ≡ length (changes_from 0 t (removed n t s))
    → (w : List ℕ) → w ≡ drafted j (changes_from 0 t (removed n t s)) → Drafted t (removed n t s) j k w
layer_drafted G k count w draft =
    record { long = of_long G.sheet; rule = G.rule; room = G.room; count = count; draft = draft }
