-- `cells::around` meets its contract.
use Prim.Native.Nat.{◌<◌}
use mathlib.Core.Path.{◌∙◌}
use native.Mathlib.Omega.{arith}
use Rattle.model.specs.Cell.{cell_size}
use Rattle.model.specs.Numbering.{corners}
use Rattle.numbering.specs.Orders.{orders, place_of}
use Rattle.cells.specs.Listing.{Listing, around}
use Rattle.cells.proofs.Listing.{walked_listing}
use Rattle.cells.proofs.around.Goals as goal
use Rattle.cells.proofs.around.Goals.{After-walk, Start}

pub walk-requires : goal.walk-requires
unfolding orders corners
walk-requires c = let p = c.requires in (p.0, p.1, p.2, omega arith, omega arith)

-- the place that both walks begin at
at : (s : Start) → place_of 3 s.args.order s.args.vertex < cell_size 3
unfolding place_of corners cell_size
at s = let low = s.requires in omega arith

-- the list after the first walk
walked_once : (c : After-walk) → let a = c.args in Listing 3 a.table.now c.walk.new.cell
walked_once c =
    rw c.walk.ensures (walked_listing _ 1 2 _ (omega arith) (omega arith) (at (goal.at.After-walk c).Start) c.requires.0)

pub walk-requires-2 : goal.walk-requires-2
unfolding orders corners
walk-requires-2 c =
    let p = c.requires in
    (walked_once (goal.at.walk-requires-2 c).After-walk, p.1, p.2, omega arith, omega arith)

pub returns : goal.returns
unfolding around
returns c =
    c.walk-2.ensures ∙ rw c.walk.ensures
