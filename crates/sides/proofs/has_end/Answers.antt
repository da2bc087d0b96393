-- `sides::has_end` meets its contract.
use Rattle.sides.proofs.SideTests.{end_test}
use Rattle.sides.proofs.has_end.Goals as goal

pub returns : goal.returns
returns c = let a = c.args in end_test a.x a.p a.u
