-- `session::run` is safe and ends. The loop's invariant: the lines are few enough for the pieces that were read.
use Prim.Native.Nat.{◌+◌, ◌*◌, ◌≤◌}
use mathlib.Core.Path.{◌≡◌}
use lib.ListN.{length}
use Rattle.lines.specs.Held.{Room, Kept}
use Rattle.session.proofs.run.Given as goal

abbrev pub invariant-loop-piece : goal.invariant-loop-piece
invariant-loop-piece l =
    Room l.text l.table l.marks l.journal × Kept l.s × (l.s.line ≤ 1 + 2048 * l.piece)
    × (length l.text ≡ length l.initial.text) × (length l.table ≡ length l.initial.table)
    × (length l.marks ≡ length l.initial.marks) × (length l.journal ≡ length l.initial.journal)
    × (length l.out ≡ length l.initial.out)
