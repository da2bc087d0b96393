-- `block_test::mark` meets its contract. The loop's invariant: the darts passed are marked.
use mathlib.Core.Path.{◌≡◌}
use lib.ListN.{take}
use Rattle.block_test.specs.Seen.{seen_with}
use Rattle.block_test.proofs.mark.Given as goal

abbrev pub invariant-loop-x : goal.invariant-loop-x
invariant-loop-x l = l.seen ≡ seen_with l.initial.seen (take l.x-index l.darts)
