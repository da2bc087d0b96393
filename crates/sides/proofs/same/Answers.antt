-- `sides::same` meets its contract.
use Rattle.sides.proofs.SideTests.{same_test}
use Rattle.sides.proofs.same.Goals as goal

pub returns : goal.returns
returns c = let a = c.args in same_test a.p a.x a.q a.y
