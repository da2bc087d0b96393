-- `lines::feed` meets its contract. The loop's invariant is `Feeding`.
use mathlib.Core.Path.{◌≡◌}
use lib.ListN.{length}
use Rattle.lines.specs.Held.{machine_of}
use Rattle.lines.proofs.Feeding.{Feeding}
use Rattle.lines.proofs.feed.Given as goal

abbrev pub invariant-loop-b : goal.invariant-loop-b
invariant-loop-b l =
    Feeding l.initial.step.session (machine_of l.initial.step.session l.initial.text l.initial.table l.initial.marks l.initial.journal) l.piece l.initial.out l.at l.text l.table l.marks
    l.journal l.out l.step l.b-index
    × (length l.text ≡ length l.initial.text) × (length l.table ≡ length l.initial.table) × (length l.marks ≡ length l.initial.marks)
    × (length l.journal ≡ length l.initial.journal)
