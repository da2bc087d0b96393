-- `sheets::mark_rest` meets its contract. The loop's invariant: the darts passed have a mark, 2 where it is new, and what link n leads to
-- from a 2 has a mark.
use Prim.Native.Nat.{◌+◌, ◌≤◌}
use lib.ListN.{length}
use Rattle.sheets.specs.Spread.{Rest}
use Rattle.sheets.proofs.mark_rest.Given as goal

abbrev pub invariant-loop-x : goal.invariant-loop-x
invariant-loop-x l = (l.from + l.x-index ≤ length l.cell) × Rest l.n l.table l.initial.marks l.cell l.from (l.from + l.x-index) l.marks
