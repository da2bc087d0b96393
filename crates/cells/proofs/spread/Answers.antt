use Prim.Native.Nat.{suc, ◌+◌, ◌*◌, ◌-◌, ◌%◌, ◌^◌, ◌≤◌, ◌<◌}
use mathlib.Core.Path.{◌≡◌}
use native.Mathlib.Omega.{arith}
use Rattle.model.specs.Cell.{cell_size}
use Rattle.model.specs.Numbering.{corners}
use Rattle.numbering.specs.Orders.{orders, place_of}
use Rattle.cells.specs.Listing.{Listing}
use Rattle.cells.proofs.Listing.{walked_listing, around_listing, bit_few, bit_is, spread_next, spread_none}
use Rattle.cells.proofs.spread.Goals as goal
use Rattle.cells.proofs.spread.Goals.{After-slice_known-in-loop-vertex-2-1, After-walk, In-loop-vertex}

pub loop-vertex-init : goal.loop-vertex-init
loop-vertex-init c =
    let bit = bit_is c.args.axis c.requires.1 in
    let whole : 1 * 2 ^ c.args.axis % 4294967296 - 0 ≡ 2 ^ c.args.axis = omega arith in
    (omega arith, bit, c.requires.0, rw whole)

-- the vertices on both sides of the edge
vertices : (c : In-loop-vertex) →
    let bit = 1 * 2 ^ c.args.axis % 4294967296 in
    (c.loop-vertex.vertex < bit) × (bit ≤ 4)
vertices c =
    let few = bit_few c.args.axis c.requires.1 in
    let bit = c.loop-vertex.invariant.1 in
    (omega arith, omega arith)

pub walk-requires : goal.walk-requires
unfolding orders corners
walk-requires c =
    let low = c.requires.1 in
    let near = vertices (goal.at.walk-requires c).In-loop-vertex in
    (c.loop-vertex.invariant.2, omega arith, omega arith, omega arith, omega arith)

pub overflow_add-vertex : goal.overflow_add-vertex
overflow_add-vertex c = let near = vertices (goal.at.overflow_add-vertex c).In-loop-vertex in omega arith

-- the list after the edge
along : (c : After-walk) → Listing 3 c.args.table.now c.walk.new.cell
unfolding place_of corners cell_size
along c =
    let low = c.requires.1 in
    let near = vertices (goal.at.After-walk c).In-loop-vertex in
    rw c.walk.ensures (walked_listing 1 0 0 _ (omega arith) (omega arith) (omega arith) c.loop-vertex.invariant.2)

pub around-requires : goal.around-requires
around-requires c =
    let low = c.requires.1 in
    let near = vertices (goal.at.around-requires c).In-loop-vertex in
    (along (goal.at.around-requires c).After-walk, omega arith, omega arith, c.requires.2)

pub overflow_step-vertex : goal.overflow_step-vertex
overflow_step-vertex c = let near = vertices (goal.at.overflow_step-vertex c).In-loop-vertex in omega arith

far_low : (c : After-slice_known-in-loop-vertex-2-1) →
    let axis = c.args.axis in
    place_of 3 (2 * axis) (c.loop-vertex.vertex + 1 * 2 ^ axis % 4294967296) < 48
unfolding place_of corners
far_low c =
    let low = c.requires.1 in
    let near = vertices (goal.at.After-slice_known-in-loop-vertex-2-1 c).In-loop-vertex in
    omega arith

pub loop-vertex-preserved : goal.loop-vertex-preserved
loop-vertex-preserved c =
    let inv = c.loop-vertex.invariant in
    let near = vertices (goal.at.loop-vertex-preserved c).In-loop-vertex in
    let bit = 1 * 2 ^ c.args.axis % 4294967296 in
    let more : bit - c.loop-vertex.vertex ≡ suc (bit - (c.loop-vertex.vertex + 1)) = omega arith in (
      omega arith,
      inv.1,
      rw c.around.ensures (around_listing _ _ (far_low c) (along (goal.at.loop-vertex-preserved c).After-walk)),
      spread_next _ _ _ _ _ _ _ _ _ _ inv.1 c.walk.ensures c.around.ensures (rw more at inv.3),
    )

pub returns : goal.returns
returns c =
    let none : 1 * 2 ^ c.args.axis % 4294967296 - c.loop-vertex.vertex ≡ 0 = omega arith in
    spread_none _ _ _ _ _ _ (rw none at c.loop-vertex.invariant.3)
