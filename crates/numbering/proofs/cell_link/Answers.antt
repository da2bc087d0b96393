-- `numbering::cell_link` meets its contract.
use Prim.Native.Nat.{◌/◌, ◌%◌, ◌<◌}
use mathlib.Core.Path.{◌≡◌, ap, ◌∙◌}
use Rattle.model.specs.Numbering.{corners, cell_link}
use Rattle.numbering.specs.Orders.{orders, place_of}
use Rattle.numbering.proofs.Orders.{corners_some, order_in, vertex_in, place_is, order_low, vertex_low, next_place}
use Rattle.numbering.proofs.cell_link.Goals as goal
use Rattle.numbering.proofs.cell_link.Goals.{After-corners-corners}

-- the order and the vertex of the place
order : (c : After-corners-corners) → c.args.k / c.corners-corners.result < orders c.args.n
order c = rw c.corners-corners.ensures (order_in c.args.n c.requires.0 c.args.k c.requires.1)

vertex : (c : After-corners-corners) → c.args.k % c.corners-corners.result < corners c.args.n
vertex c = rw c.corners-corners.ensures (vertex_in c.args.n c.requires.0 c.args.k)

pub nonzero_div-order : goal.nonzero_div-order
nonzero_div-order c = rw c.corners-corners.ensures (corners_some c.args.n c.requires.0)

pub nonzero_rem-vertex : goal.nonzero_rem-vertex
nonzero_rem-vertex c = nonzero_div-order c

pub next_order-requires : goal.next_order-requires
next_order-requires c = order c

pub next_vertex-requires : goal.next_vertex-requires
next_vertex-requires c = (c.requires.0, order (goal.at.next_vertex-requires c).After-corners-corners, vertex (goal.at.next_vertex-requires c).After-corners-corners)

pub place-requires : goal.place-requires
place-requires c = (
  c.requires.0,
  rw c.next_order.ensures (order_low c.args.n c.requires.0 _ (order (goal.at.place-requires c).After-corners-corners) c.args.i),
  rw c.next_vertex.ensures (vertex_low c.args.n c.requires.0 _ (order (goal.at.place-requires c).After-corners-corners) _ (vertex (goal.at.place-requires c).After-corners-corners) c.args.i),
)

pub returns : goal.returns
returns c =
    let a = c.args in
    let linked = next_place a.n c.requires.0 _ (order (goal.at.returns c).After-corners-corners) _ (vertex (goal.at.returns c).After-corners-corners) a.i in
    let at : place_of a.n (a.k / c.corners-corners.result) (a.k % c.corners-corners.result) ≡ a.k
    = rw c.corners-corners.ensures (place_is a.n c.requires.0 a.k) in
    rw (c.place.ensures, c.next_order.ensures, c.next_vertex.ensures) (linked ∙ ap (cell_link a.n a.i) at)
