-- What an operation needs at its end: its record has room (`fits_room`), and putting the record that was written gives the new
-- table (`written_fits`, `written_put`).
use Prim.Native.Nat.{ℕ, ◌+◌, ◌-◌, ◌≤◌}
use mathlib.Core.Path.{◌≡◌, sym, ap, ◌∙◌}
use mathlib.Core.Bool.{Bool, true}
use mathlib.Core.List.{List}
use native.Mathlib.Omega.{arith}
use lib.ListN.{length}
use lib.Dec.{leb}
use borrow.Author.Tests.{leb-true}
use Rattle.model.specs.Journal.{cursor, changes_from, changes_at, put, record_of, record_length, written}
use Rattle.theorems.proofs.History.Record.{put_new_changes}
use Rattle.theorems.proofs.History.Sound.{sound_redo}
use Rattle.journal.specs.Records.{within}
use Rattle.drafts.proofs.Drafts.{written_length, written_read}
use Rattle.journal.proofs.Breaks.{sound_within}

-- k changes lead from t to u, and of them `record_fits` gave true
pub fits_room : (t u j : List ℕ) (k : ℕ) → k ≡ length (changes_from 0 t u)
    → (r : Bool) → r ≡ leb (record_length k) (length j - cursor j) → r ≡ true
    → cursor j + record_length (length (changes_from 0 t u)) ≤ length j
fits_room t u j k count r tested h = let l = leb-true (record_length k) (length j - cursor j) (sym tested ∙ h) in omega arith

-- ---- the operation's end: in the journal v the record of the k changes from t to u stands at the word a

module _ (t u j : List ℕ) (long : length t ≡ length u) (low : 2 ≤ cursor j)
    (room : cursor j + record_length (length (changes_from 0 t u)) ≤ length j)
    (tag a k : ℕ) (v : List ℕ) (start : a ≡ cursor j) (count : k ≡ length (changes_from 0 t u))
    (closed : v ≡ written j (record_of tag (changes_from 0 t u)))
  where
    read : changes_at v a k ≡ changes_from 0 t u
    read = rw (closed, start, count) (written_read j (changes_from 0 t u) tag low room)

    -- what `put_record` requires
    pub written_fits : (a + record_length k ≤ length v) × (within (length t) (changes_at v a k) ≡ true)
    written_fits =
        let l = ap length closed ∙ written_length j (changes_from 0 t u) tag room in
        (omega arith, rw read (sound_within true t 0 (changes_from 0 t u) (sound_redo t u long)))

    -- by what it ensures: the table is the new one
    pub written_put : (t' : List ℕ) → t' ≡ put true (changes_at v a k) t → t' ≡ u
    unfolding put
    written_put t' h = h ∙ rw read (put_new_changes t u long)
