-- `sound_changes` meets its contract. The loop's invariant: the tests of the changes that are left decide.
use mathlib.Core.Path.{◌≡◌}
use Rattle.model.specs.Journal.{changes_at, sound}
use Rattle.journal.proofs.Puts.{rest_from}
use Rattle.journal.proofs.sound_changes.Given as goal

abbrev pub invariant-loop-turn : goal.invariant-loop-turn
invariant-loop-turn l =
    sound l.redo l.table 0 (changes_at l.journal l.a l.k) ≡ sound l.redo l.table l.least (rest_from l.journal l.a l.k l.turn)
