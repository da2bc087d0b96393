-- `sheets::put_links` meets its contract. The loop's invariant: over the sides passed, the darts wait or have the mark 1.
use Prim.Native.Nat.{◌-◌, ◌≤◌}
use mathlib.Core.Path.{◌≡◌}
use Rattle.sheets.specs.Spread.{sides, Waiting}
use Rattle.sheets.proofs.put_links.Given as goal

abbrev pub invariant-loop-j : goal.invariant-loop-j
invariant-loop-j l = (l.j ≤ l.j-end) × (l.j-end ≡ sides l.n) × Waiting l.n l.table l.marks l.cell l.j l.initial.work l.size l.work l.end

abbrev pub decreases-loop-j : goal.decreases-loop-j
decreases-loop-j l = l.j-end - l.j
