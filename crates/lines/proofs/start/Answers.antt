-- `lines::start` meets its contract.
use mathlib.Core.Path.{refl}
use native.Mathlib.Omega.{arith}
use Rattle.lines.specs.Held.{due_at, unless}
use Rattle.lines.proofs.start.Goals as goal

pub returns : goal.returns
unfolding due_at unless
returns c = (record { few = omega arith; short = omega arith }, refl, λ xs t m j. refl)
