-- How an operation ends whose checks have passed, by the test whether the record of its k changes fits: refused by 15
-- (`commit_full`), or carried out (`commit_done`).
use Prim.Native.Nat.{ℕ, ◌-◌}
use mathlib.Core.Path.{◌≡◌}
use mathlib.Core.Bool.{Bool, true, false}
use mathlib.Core.List.{List}
use lib.ListN.{length}
use lib.Dec.{leb}
use Rattle.model.specs.Journal.{Change, cursor, changes_from, record_of, record_length, written}
use Rattle.model.specs.Calls.{Outcome, refused, commit}
use Rattle.theorems.proofs.History.Record.{length_record}
use Rattle.std.specs.Prelude.{Err}
use Rattle.refusals.specs.declared.Reason.TheVariants.{NoRoom}
use Rattle.refusals.specs.declared.Refused.{Refused}
use Rattle.refusals.specs.Numbers.{alone}
use Rattle.answers.specs.Answers.{outcome, accepted}

module _ (t u m j : List ℕ) (tag p : ℕ) (size : List Change → ℕ) {k : ℕ} {fits : Bool} {call : Outcome}
    (goes : call ≡ commit t u m j tag p size)
    (count : k ≡ length (changes_from 0 t u)) (tested : fits ≡ leb (record_length k) (length j - cursor j))
  where
    record_tested : fits ≡ leb (length (record_of tag (changes_from 0 t u))) (length j - cursor j)
    record_tested = rw (length_record tag (changes_from 0 t u), ← count) tested

    pub commit_full : {e : Refused} → fits ≡ false → e ≡ alone NoRoom → outcome (Err e) t m j ≡ call
    unfolding commit refused
    commit_full h is = rw goes (rw (← record_tested, h, commit, is))

    pub commit_done : {t' j' : List ℕ} {place number : ℕ} → fits ≡ true
        → (t' ≡ u) × (j' ≡ written j (record_of tag (changes_from 0 t u))) → place ≡ p → number ≡ size (changes_from 0 t u)
        → outcome (accepted place number) t' m j' ≡ call
    unfolding commit
    commit_done h left at is = rw goes (rw (← record_tested, h, commit, left.0, left.1, at, is))
