-- `marked_links::write_marked` meets its contract. The loop's invariant: the slots below x are met, or skipped.
use Prim.Native.Nat.{ℕ, ◌-◌}
use mathlib.Core.Path.{◌≡◌}
use mathlib.Core.List.{List}
use Rattle.model.specs.Table.{slots}
use Rattle.marked_links.specs.Marked.{MarkedRecord}
use Rattle.marked_links.proofs.MarkedPass.{Skipped}
use Rattle.marked_links.proofs.write_marked.Given as goal

abbrev pub invariant-loop-x : goal.invariant-loop-x
invariant-loop-x l = (l.end ≡ slots l.table) × ((v : List ℕ) → MarkedRecord l.sews l.table v l.marks l.i l.initial.journal → Skipped l.sews l.table v l.marks l.i l.initial.journal l.x l.w l.journal)

abbrev pub decreases-loop-x : goal.decreases-loop-x
decreases-loop-x l = l.end - l.x
