-- `call_orbit::orbit_place` meets its contract.
use Prim.Native.Nat.{◌-◌}
use mathlib.Core.Path.{◌≡◌}
use native.Mathlib.Omega.{arith}
use lib.Count.{trailing_le}
use borrow.Author.Tests.{eq-eqb, ne_eqb}
use Rattle.model.specs.Orbit.{orbit_place}
use Rattle.theorems.proofs.Calls.Pass.{dim_pass}
use Rattle.call_orbit.proofs.Masks.{mask_bound, place_by_ones, ones_place}
use Rattle.call_orbit.proofs.orbit_place.Goals as goal
use Rattle.call_orbit.proofs.orbit_place.Goals.{Start}

pub overflow_add-result : goal.overflow_add-result
overflow_add-result c = omega (arith, trailing_le 32 (4294967295 - c.args.mask))

-- the place as it is worked out
place_is : (p : Start) → place_by_ones p.args.n p.args.mask ≡ orbit_place p.args.n p.args.mask
place_is p = ones_place _ _ (dim_pass _ p.requires.0) (mask_bound _ _ p.requires.1)

pub returns-then-mask-n : goal.returns-then-mask-n
unfolding place_by_ones
returns-then-mask-n c = rw (← place_is (goal.at.returns-then-mask-n c).Start, place_by_ones, eq-eqb _ _ c.if-mask-n.true)

pub returns-else-mask-n : goal.returns-else-mask-n
unfolding place_by_ones
returns-else-mask-n c = rw (← place_is (goal.at.returns-else-mask-n c).Start, place_by_ones, ne_eqb _ _ c.if-mask-n.false)
