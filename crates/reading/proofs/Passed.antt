-- What a check that passed says, as functions ask it: `table_passed`, and `table_short` for `slots`.
use Prim.Native.Nat.{ℕ, ◌≤◌}
use mathlib.Core.Path.{◌≡◌}
use mathlib.Core.List.{List}
use native.Mathlib.Omega.{arith}
use lib.ListN.{length}
use Rattle.model.specs.Checks.{pass, table_ok}
use Rattle.theorems.proofs.Calls.Pass.{table_pass}
use Rattle.reading.specs.Sized.{Sized}

pub table_passed : (t : List ℕ) → table_ok t ≡ pass → Sized t
table_passed t h = let r = table_pass t h in record { fits = r.0; few = r.1 }

pub table_short : (t : List ℕ) → table_ok t ≡ pass → length t ≤ 262144
table_short t h = let z = table_passed t h in omega (arith, z.fits, z.few)
