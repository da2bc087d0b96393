-- `block_test::least_wrong_with` meets its contract, by `first_wrong`: the list has a 0 for each slot.
use native.Mathlib.Omega.{arith}
use lib.ListN.{get_or-replicate}
use Rattle.block_test.proofs.least_wrong_with.Goals as goal

pub first_wrong-requires : goal.first_wrong-requires
first_wrong-requires g c =
    record { n_value = c.requires.checked; table_in_bounds = (omega arith, λ k l. get_or-replicate g.row.SLOTS k 0 0 (omega arith)) }
