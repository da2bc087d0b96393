-- `numbering::place` meets its contract.
use Prim.Native.Nat.{◌+◌, ◌*◌, ◌<◌}
use native.Mathlib.Omega.{arith}
use Rattle.numbering.specs.Orders.{place_of}
use Rattle.numbering.proofs.Orders.{size_few, place_low}
use Rattle.numbering.proofs.place.Goals as goal
use Rattle.numbering.proofs.place.Goals.{After-corners}

-- the place is below 48
low : (c : After-corners) → let a = c.args in c.corners.result * a.order + a.vertex < 48
unfolding place_of
low c =
    let few = size_few c.args.n c.requires.0 in
    let inside = place_low c.args.n c.requires.0 c.args.order c.requires.1 c.args.vertex c.requires.2 in
    rw c.corners.ensures (omega arith)

pub overflow_mul-result : goal.overflow_mul-result
overflow_mul-result c = let small = low c in omega arith

pub overflow_add-result : goal.overflow_add-result
overflow_add-result c = let small = low c in omega arith

pub returns : goal.returns
unfolding place_of
returns c = rw c.corners.ensures
