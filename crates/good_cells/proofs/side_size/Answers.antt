-- `good_cells::side_size` meets its contract.
use mathlib.Core.Path.{sym}
use Rattle.good_cells.proofs.Sides.{side_solid, side_flat}
use Rattle.good_cells.proofs.side_size.Goals as goal

pub returns-then-n-eq3 : goal.returns-then-n-eq3
returns-then-n-eq3 c = sym (side_solid _ c.if-n-eq3.true)

pub returns-else-n-eq3 : goal.returns-else-n-eq3
returns-else-n-eq3 c = sym (side_flat _ c.requires c.if-n-eq3.false)
