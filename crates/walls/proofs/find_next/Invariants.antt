-- `walls::find_next` meets its contract. The loop's invariant: next of the darts before the present one is found.
use Rattle.walls.proofs.Nexting.{Found}
use Rattle.walls.proofs.find_next.Given as goal

abbrev pub invariant-loop-h : goal.invariant-loop-h
invariant-loop-h l = Found l.n l.table l.marks l.hs l.next l.h-index
