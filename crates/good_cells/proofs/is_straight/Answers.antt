use Prim.Native.Nat.{ℕ, suc, ◌+◌, ◌*◌, ◌-◌, ◌/◌, ◌%◌, ◌^◌, ◌<◌}
use mathlib.Core.Path.{◌≡◌, refl, sym, ap, ◌∙◌}
use native.Mathlib.Omega.{arith}
use lib.ListN.{get_or}
use borrow.Author.Count.{below_more}
use Rattle.theorems.proofs.Lists.Scan.{below_of}
use Rattle.model.specs.Table.{link}
use Rattle.numbering.specs.Orders.{orders, place_of}
use Rattle.numbering.proofs.Orders.{order_low}
use Rattle.good_cells.specs.Good.{side_of, is_straight}
use Rattle.cells.proofs.Listing.{link_there}
use Rattle.good_cells.proofs.Good.{not_all}
use Rattle.good_cells.proofs.Sides.{first_not_led, not_led_lem, led, Round, axis_first, round_starts, round_next, round_in}
use Rattle.good_cells.proofs.Sides.{turn_few, side_length, side_some}
use Rattle.good_cells.proofs.is_straight.Goals as goal
use Rattle.good_cells.proofs.is_straight.Goals.{After-next_order-p, After-next_order-p-in-loop, After-shared_slice_known-2-1, At-loop}

-- the order that the axis is first in
low : (c : After-shared_slice_known-2-1) → let a = c.args in (a.n - 1) * (a.k / 2) < orders a.n
low c = axis_first c.args.n c.args.k c.requires.0.table.dim c.requires.1

pub next_order-requires : goal.next_order-requires
next_order-requires c = low c

pub next_order-p-requires : goal.next_order-p-requires
next_order-p-requires c =
    rw c.next_order.ensures (order_low c.args.n c.requires.0.table.dim _ (low (goal.at.next_order-p-requires c).After-shared_slice_known-2-1) 1)

-- the side's first place
first : (c : After-next_order-p) →
    let a = c.args in
    Round a.n a.k 0 c.next_order-p.result (a.k % 2 * 2 ^ (a.k / 2) % 4294967296) 0
first c =
    round_starts c.args.n c.args.k c.requires.0.table.dim c.requires.1 _ _ _ _ c.next_order.ensures
    c.next_order-p.ensures refl refl

pub dart_at-requires : goal.dart_at-requires
dart_at-requires c =
    let L = c.requires.0 in
    (L.table.dim, L.long, (first c).order, (first c).vertex)

pub link_in-to-requires : goal.link_in-to-requires
link_in-to-requires c =
    rw c.dart_at.ensures (link_there c.requires.0 _ _ (omega arith) (round_in _ _ c.requires.0.table.dim c.requires.1 (first (goal.at.link_in-to-requires c).After-next_order-p)))

pub loop-init : goal.loop-init
loop-init c =
    let dim = c.requires.0.table.dim in
    let some = side_some c.args.n dim in
    (omega arith, omega arith, c.side_size-end.ensures, first (goal.at.loop-init c).After-next_order-p, λ j h. let zero : j ≡ 0 = omega arith in rw zero (first_not_led _ _ _ _))

pub next_vertex-s-requires : goal.next_vertex-s-requires
next_vertex-s-requires c =
    let R = c.loop.invariant.3 in
    (c.requires.0.table.dim, R.order, R.vertex)

-- the place that it comes to
next : (c : After-next_order-p-in-loop) →
    let l = c.loop in
    let a = c.args in
    Round a.n a.k (suc (l.counter - 1)) c.next_order-p-in-loop.result c.next_vertex-s.result (a.n - 2 - l.by)
next c =
    let size = c.loop.invariant.2 in
    round_next c.args.n c.args.k c.requires.0.table.dim c.requires.1 _ _ (omega arith) c.loop.invariant.3
    c.next_order-p-in-loop.ensures c.next_vertex-s.ensures

-- it is the place of the loop's step
step_at : (c : After-next_order-p-in-loop) →
    let a = c.args in
    place_of a.n c.next_order-p-in-loop.result c.next_vertex-s.result ≡ get_or (side_of a.n a.k) c.loop.counter 0
step_at c =
    let same : suc (c.loop.counter - 1) ≡ c.loop.counter = let some = c.loop.invariant.0 in omega arith in
    rw same at (next c).at

-- where link n leads from the first place
led_to : (c : At-loop) →
    let a = c.args in
    c.link_in-to.result ≡ link a.table.now a.n (get_or a.cell.now (get_or (side_of a.n a.k) 0 0) 0)
led_to c =
    c.link_in-to.ensures ∙ rw (c.dart_at.ensures, (first (goal.at.At-loop c).After-next_order-p).at)

pub dart_at-requires-in-loop : goal.dart_at-requires-in-loop
dart_at-requires-in-loop c =
    let L = c.requires.0 in
    let R = next c in
    (L.table.dim, L.long, R.order, R.vertex)

pub returns-then-dart_at-to : goal.returns-then-dart_at-to
unfolding is_straight
returns-then-dart_at-to c =
    let long = side_length c.args.n c.args.k c.requires.0.table.dim c.requires.1 in
    let size = c.loop.invariant.2 in
    let here = sym (ap (λ (k : ℕ). get_or c.args.cell.now k 0) (step_at (goal.at.returns-then-dart_at-to c).After-next_order-p-in-loop)) ∙ sym c.dart_at-in-loop.ensures ∙ c.if-dart_at-to.true in
    sym (not_all _ _ c.loop.counter (omega arith) (led _ _ _ _ _ _ c.loop.invariant.0 (led_to (goal.at.returns-then-dart_at-to c).At-loop) here))

pub overflow_sub-by-in-loop : goal.overflow_sub-by-in-loop
overflow_sub-by-in-loop c =
    let dim = c.requires.0.table.dim in
    turn_few _ _ dim c.requires.1 c.loop.invariant.3

pub loop-preserved : goal.loop-preserved
loop-preserved c =
    let inv = c.loop.invariant in
    let same : suc (c.loop.counter - 1) ≡ c.loop.counter + 1 - 1 = let some = inv.0 in omega arith in
    let other = not_led_lem _ _ _ _ _ _ (led_to (goal.at.loop-preserved c).At-loop)
    (λ e. c.if-dart_at-to.false (c.dart_at-in-loop.ensures ∙ ap (λ (k : ℕ). get_or c.args.cell.now k 0) (step_at (goal.at.loop-preserved c).After-next_order-p-in-loop) ∙ e)) in
    (omega arith, omega arith, inv.2, rw same at (next (goal.at.loop-preserved c).After-next_order-p-in-loop), below_more _ _ inv.4 other)

pub returns : goal.returns
unfolding is_straight
returns c =
    let long = side_length c.args.n c.args.k c.requires.0.table.dim c.requires.1 in
    let size = c.loop.invariant.2 in
    sym (below_of _ _ (λ k h. c.loop.invariant.4 k (omega arith)))
