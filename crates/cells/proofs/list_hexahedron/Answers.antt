-- `cells::list_hexahedron` meets its contract: vertex by vertex, by computing.
use mathlib.Core.Path.{◌∙◌}
use native.Mathlib.Omega.{arith}
use Rattle.model.specs.Numbering.{corners}
use Rattle.numbering.specs.Orders.{place_of}
use Rattle.cells.specs.Listing.{Listing}
use Rattle.cells.proofs.Listing.{around_listing, spread_listing, listed_solid}
use Rattle.cells.proofs.list_hexahedron.Goals as goal
use Rattle.cells.proofs.list_hexahedron.Goals.{After-around, After-spread, After-spread-2}

pub around-requires : goal.around-requires
around-requires c = (c.requires, omega arith, omega arith, omega arith)

-- the list after the first vertex, and after each axis
first : (c : After-around) → Listing 3 c.args.table.now c.around.new.cell
unfolding place_of corners
first c = rw c.around.ensures (around_listing 3 _ (omega arith) c.requires)

along_x : (c : After-spread) → Listing 3 c.args.table.now c.spread.new.cell
along_x c = rw c.spread.ensures (spread_listing 0 3 _ 0 (omega arith) (omega arith) (first (goal.at.After-spread c).After-around))

along_y : (c : After-spread-2) →
    Listing 3 c.args.table.now c.spread-2.new.cell
along_y c = rw c.spread-2.ensures (spread_listing 1 3 _ 0 (omega arith) (omega arith) (along_x (goal.at.After-spread-2 c).After-spread))

pub spread-requires : goal.spread-requires
spread-requires c = (first (goal.at.spread-requires c).After-around, omega arith, omega arith)

pub spread-requires-2 : goal.spread-requires-2
spread-requires-2 c = (along_x (goal.at.spread-requires-2 c).After-spread, omega arith, omega arith)

pub spread-requires-3 : goal.spread-requires-3
spread-requires-3 c = (along_y (goal.at.spread-requires-3 c).After-spread-2, omega arith, omega arith)

pub returns : goal.returns
returns c d e =
    c.spread-3.ensures ∙ rw (c.spread-2.ensures, c.spread.ensures, c.around.ensures, e) (listed_solid c.args.table.now d)
