-- `cells::cell` meets its contract.
use mathlib.Core.Path.{◌≡◌}
use native.Mathlib.Omega.{arith}
use Rattle.cells.specs.Listing.{start}
use Rattle.cells.proofs.cell.Goals as goal

pub returns-then-this-eq3 : goal.returns-then-this-eq3
unfolding start
returns-then-this-eq3 g c = rw c.if-this-eq3.true (c.list_hexahedron.ensures c.args.d (rw (c.requires.1, c.if-this-eq3.true)))

pub returns-else-this-eq3 : goal.returns-else-this-eq3
unfolding start
returns-else-this-eq3 g c =
    let dim = c.requires.0.table.dim in
    let two : g.row.N ≡ 2 = let other = c.if-this-eq3.false in omega arith in
    rw two (c.list_quad.ensures c.args.d (rw (c.requires.1, two)))
