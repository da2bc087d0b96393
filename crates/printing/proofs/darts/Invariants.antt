-- `printing::darts` meets its contract. The loop's invariant: with what is still to be written, the text is whole.
use Rattle.printing.proofs.Rising.{Going}
use Rattle.printing.proofs.darts.Given as goal

abbrev pub invariant-loop-d : goal.invariant-loop-d
invariant-loop-d l = Going l.initial.out l.at l.table l.end l.out l.place l.d
