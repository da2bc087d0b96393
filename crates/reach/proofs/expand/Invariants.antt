-- `reach::expand` meets its contract. The loop's invariant is `Going`: the links below i have been followed.
use Rattle.reach.specs.Search.{search_of}
use Rattle.model.specs.Table.{slots, link}
use Rattle.model.specs.Orbit.{bit}
use Rattle.reach.proofs.Meeting.{Going}
use Rattle.reach.proofs.expand.Given as goal

abbrev pub invariant-loop-i : goal.invariant-loop-i
invariant-loop-i l = Going (slots l.table) (bit l.mask) (link l.table) 4 l.x (search_of l.initial.marks l.initial.queue l.from) (search_of l.marks l.queue l.tail) l.i
