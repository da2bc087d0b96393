-- `block_test::least_wrong` meets its contract: the list has a 0 for each slot.
use native.Mathlib.Omega.{arith}
use lib.ListN.{get_or-replicate}
use Rattle.theorems.proofs.Calls.Pass.{table_pass}
use Rattle.reading.proofs.Passed.{table_short}
use Rattle.block_test.proofs.least_wrong.Goals as goal

pub slots-size-requires : goal.slots-size-requires
slots-size-requires c = table_short _ c.requires.1

pub first_wrong-requires : goal.first_wrong-requires
first_wrong-requires c =
    let small = c.if-size-le-SMALL.true in
    let is = c.slots-size.ensures in
    record { n_value = c.requires; table_in_bounds = (omega arith, λ k l. get_or-replicate 2048 k 0 0 (omega arith)) }

pub least_wrong_with-requires-else-size-le-MIDDLE-clause-room : goal.least_wrong_with-requires-else-size-le-MIDDLE-clause-room
least_wrong_with-requires-else-size-le-MIDDLE-clause-room c = let sized = table_pass _ c.requires.1 in (omega arith, omega arith)
