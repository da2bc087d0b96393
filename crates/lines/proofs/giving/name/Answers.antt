-- `lines::giving::name` meets its contract: the last name is that of 9.
use mathlib.Core.Path.{◌≡◌}
use native.Mathlib.Omega.{arith}
use Rattle.model.specs.Session.{names}
use Rattle.lines.proofs.giving.name.Goals as goal

pub returns-in_default : goal.returns-in_default
unfolding names
returns-in_default c = let last : c.args.k ≡ 9 = grind (arith, c.requires) in rw last
