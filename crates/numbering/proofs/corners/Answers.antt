-- `numbering::corners` meets its contract.
use mathlib.Core.Path.{sym}
use Rattle.numbering.proofs.Orders.{corners_solid, corners_flat}
use Rattle.numbering.proofs.corners.Goals as goal

pub returns-then-n-eq3 : goal.returns-then-n-eq3
returns-then-n-eq3 c = sym (corners_solid c.args.n c.if-n-eq3.true)

pub returns-else-n-eq3 : goal.returns-else-n-eq3
returns-else-n-eq3 c = sym (corners_flat c.args.n c.if-n-eq3.false)
