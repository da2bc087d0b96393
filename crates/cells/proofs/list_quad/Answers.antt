-- `cells::list_quad` meets its contract: both ways round the quad, by computing.
use mathlib.Core.Path.{◌∙◌}
use native.Mathlib.Omega.{arith}
use Rattle.model.specs.Numbering.{corners}
use Rattle.model.specs.Cell.{cell_size}
use Rattle.numbering.specs.Orders.{orders, place_of}
use Rattle.cells.proofs.Listing.{walked_listing, listed_flat}
use Rattle.cells.proofs.list_quad.Goals as goal

pub walk-requires : goal.walk-requires
unfolding orders corners
walk-requires c = (c.requires, omega arith, omega arith, omega arith, omega arith)

pub walk-requires-2 : goal.walk-requires-2
unfolding orders corners cell_size place_of
walk-requires-2 c = (
  rw c.walk.ensures (walked_listing _ 0 1 _ (omega arith) (omega arith) (omega arith) c.requires),
  omega arith,
  omega arith,
  omega arith,
  omega arith,
)

pub returns : goal.returns
returns c d e = c.walk-2.ensures ∙ rw (c.walk.ensures, e) (listed_flat c.args.table.now d)
