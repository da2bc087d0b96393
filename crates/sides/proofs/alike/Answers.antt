-- `sides::alike` meets its contract.
use Rattle.sides.proofs.SideTests.{alike_test}
use Rattle.sides.proofs.alike.Goals as goal

pub returns : goal.returns
returns c = alike_test c.same.result c.same-2.result c.same-3.result c.same.ensures c.same-2.ensures c.same-3.ensures
