-- `good_cells::follows` meets its contract.
use native.Mathlib.Omega.{arith}
use Rattle.numbering.proofs.Orders.{order_low, vertex_low, place_low, next_place}
use Rattle.good_cells.specs.Good.{follows_at}
use Rattle.cells.proofs.Listing.{link_there}
use Rattle.good_cells.proofs.follows.Goals as goal

pub dart_at-from-requires : goal.dart_at-from-requires
dart_at-from-requires c = let p = c.requires in (p.0.table.dim, p.0.long, p.1, p.2)

pub next_vertex-requires : goal.next_vertex-requires
next_vertex-requires c = let p = c.requires in (p.0.table.dim, p.1, p.2)

pub dart_at-to-requires : goal.dart_at-to-requires
dart_at-to-requires c =
    let dim = c.requires.0.table.dim in (
      dim,
      c.requires.0.long,
      rw c.next_order.ensures (order_low c.args.n dim _ c.requires.1 c.args.i),
      rw c.next_vertex.ensures (vertex_low c.args.n dim _ c.requires.1 _ c.requires.2 c.args.i),
    )

pub link_in-requires : goal.link_in-requires
link_in-requires c =
    let low = place_low c.args.n c.requires.0.table.dim _ c.requires.1 _ c.requires.2 in
    rw c.dart_at-from.ensures (link_there c.requires.0 c.args.i _ (omega arith) low)

pub returns : goal.returns
unfolding follows_at
returns c =
    let next = next_place c.args.n c.requires.0.table.dim _ c.requires.1 _ c.requires.2 c.args.i in
    rw (c.link_in.ensures, c.dart_at-from.ensures, c.dart_at-to.ensures, c.next_order.ensures, c.next_vertex.ensures, next)
