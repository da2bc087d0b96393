-- `marked_links::write_some` meets its contract. The loop's invariant: the slots below z are met.
use Prim.Native.Nat.{ℕ, ◌-◌, ◌≤◌}
use mathlib.Core.List.{List}
use Rattle.marked_links.specs.Marked.{MarkedPass}
use Rattle.marked_links.proofs.write_some.Given as goal

abbrev pub invariant-loop-z : goal.invariant-loop-z
invariant-loop-z l =
    (l.x ≤ l.z) × (l.z ≤ l.y)
    × ((v j : List ℕ) → MarkedPass l.sews l.table v l.marks l.i j l.x l.w l.initial.journal → MarkedPass l.sews l.table v l.marks l.i j l.z l.at l.journal)

abbrev pub decreases-loop-z : goal.decreases-loop-z
decreases-loop-z l = l.y - l.z
