-- `call_orbit::mask_fits` meets its contract.
use native.Mathlib.Omega.{arith}
use Rattle.model.specs.Checks.{mask_ok}
use Rattle.theorems.proofs.Calls.Pass.{dim_pass}
use Rattle.call_orbit.proofs.Masks.{shift_power}
use Rattle.call_orbit.proofs.mask_fits.Goals as goal

pub overflow_shl-result : goal.overflow_shl-result
overflow_shl-result c = let dim = dim_pass c.args.n c.requires in omega arith

pub returns : goal.returns
unfolding mask_ok
returns c = rw (shift_power c.args.n (dim_pass c.args.n c.requires))
