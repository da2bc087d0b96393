-- `sheets::mark_first` meets its contract. The loop's invariant: the darts passed have the mark 1.
use Prim.Native.Nat.{◌≤◌}
use Rattle.sheets.specs.Spread.{Firsts}
use Rattle.sheets.proofs.mark_first.Given as goal

abbrev pub invariant-loop-x : goal.invariant-loop-x
invariant-loop-x l = (l.x-index ≤ l.count) × Firsts l.initial.marks l.cell l.x-index l.marks
