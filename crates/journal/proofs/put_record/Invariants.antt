-- `put_record` meets its contract. The loop's invariant: what is left to be put leads to what the whole record leads to, and
-- lies within the table and the journal.
use mathlib.Core.Path.{◌≡◌}
use mathlib.Core.Bool.{true}
use lib.ListN.{length}
use Rattle.model.specs.Journal.{changes_at, put}
use Rattle.journal.specs.Records.{within}
use Rattle.journal.proofs.Puts.{rest_from}
use Rattle.journal.proofs.put_record.Given as goal

abbrev pub invariant-loop-turn : goal.invariant-loop-turn
invariant-loop-turn l =
    (put l.redo (rest_from l.journal l.a l.k l.turn) l.table ≡ put l.redo (changes_at l.journal l.a l.k) l.initial.table)
    × (within (length l.table) (rest_from l.journal l.a l.k l.turn) ≡ true)
