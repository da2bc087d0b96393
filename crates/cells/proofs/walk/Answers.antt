use Prim.Native.Nat.{suc, ◌+◌, ◌-◌, ◌<◌}
use mathlib.Core.Path.{◌≡◌}
use native.Mathlib.Omega.{arith}
use Rattle.model.specs.Numbering.{corners}
use Rattle.numbering.specs.Orders.{orders, place_of}
use Rattle.numbering.proofs.Orders.{order_low, vertex_low, place_low}
use Rattle.cells.specs.Listing.{walked}
use Rattle.cells.proofs.Listing.{Walking, walk_starts, walk_at, walk_next, walk_ends, link_there}
use Rattle.cells.proofs.walk.Goals as goal
use Rattle.cells.proofs.walk.Goals.{After-link_in, In-loop}

pub loop-init : goal.loop-init
loop-init c =
    let p = c.requires in
    (omega arith, walk_starts _ _ _ _ _ _ _ _ p.0 p.1 p.2 p.3 p.4)

-- the walk where the loop is
going : (c : In-loop) →
    let l = c.loop in
    let a = c.args in
    Walking a.n a.table.now a.i a.j (walked a.n a.table.now a.count a.i a.j (place_of a.n a.order a.vertex) a.cell.now)
    l.cell l.p l.s l.by (suc (a.count - (l.counter + 1)))
going c =
    let more : c.args.count - c.loop.counter ≡ suc (c.args.count - (c.loop.counter + 1))
    = omega arith in
    rw more at c.loop.invariant.1

pub dart_at-from-requires : goal.dart_at-from-requires
dart_at-from-requires c =
    let W = c.loop.invariant.1 in
    (W.listing.table.dim, W.listing.long, W.order, W.vertex)

pub next_vertex-s-requires : goal.next_vertex-s-requires
next_vertex-s-requires c = let W = c.loop.invariant.1 in (W.listing.table.dim, W.order, W.vertex)

pub link_in-requires : goal.link_in-requires
link_in-requires c =
    let W = c.loop.invariant.1 in
    let low = W.link in
    rw c.dart_at-from.ensures (link_there W.listing _ _ (omega arith) (walk_at _ _ _ _ W))

-- the order and the vertex that it comes to
comes_to : (c : After-link_in) →
    let n = c.args.n in
    (c.next_order-p.result < orders n) × (c.next_vertex-s.result < corners n)
comes_to c =
    let W = c.loop.invariant.1 in
    let dim = W.listing.table.dim in (
      rw c.next_order-p.ensures (order_low _ dim _ W.order _),
      rw c.next_vertex-s.ensures (vertex_low _ dim _ W.order _ W.vertex _),
    )

pub place-requires : goal.place-requires
place-requires c =
    let W = c.loop.invariant.1 in
    (W.listing.table.dim, (comes_to c).0, (comes_to c).1)

pub bounds-cell-place : goal.bounds-cell-place
bounds-cell-place c =
    let W = c.loop.invariant.1 in
    let to = comes_to (goal.at.bounds-cell-place c).After-link_in in
    let low = place_low _ W.listing.table.dim _ to.0 _ to.1 in
    let long = W.listing.long in
    rw c.place.ensures (omega arith)

pub loop-preserved : goal.loop-preserved
loop-preserved c = (
  omega arith,
  walk_next _ _ _ _ (going (goal.at.loop-preserved c).In-loop) _ _ _ _ _ c.next_order-p.ensures c.next_vertex-s.ensures c.place.ensures
      c.dart_at-from.ensures c.link_in.ensures,
)

pub returns : goal.returns
returns c =
    let none : c.args.count - c.loop.counter ≡ 0 = omega arith in
    walk_ends _ _ _ _ (rw none at c.loop.invariant.1)
