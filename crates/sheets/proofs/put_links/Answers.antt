use Prim.Native.Nat.{◌<◌}
use mathlib.Core.Path.{◌≡◌, refl, ◌∙◌}
use native.Mathlib.Omega.{arith}
use Rattle.model.specs.Cell.{cell_size}
use Rattle.numbering.proofs.Orders.{size_few}
use Rattle.cells.proofs.Listing.{link_there}
use Rattle.sheets.specs.Spread.{sides, over}
use Rattle.sheets.proofs.Halves.{start_low, half_in}
use Rattle.sheets.proofs.Marks.{waiting_none, over_low, waiting_next}
use Rattle.sheets.proofs.put_links.Goals as goal
use Rattle.sheets.proofs.put_links.Goals.{After-link_in-y, After-side_start, In-loop-j}

pub overflow_sub-j-end : goal.overflow_sub-j-end
overflow_sub-j-end c = let two = c.requires.0.table.dim.0 in omega arith

pub overflow_mul-j-end : goal.overflow_mul-j-end
overflow_mul-j-end c = let top = c.requires.0.table.dim.1 in omega arith

pub loop-j-init : goal.loop-j-init
loop-j-init c = (omega arith, refl, waiting_none _ _ _ _ _ _)

side_low : (c : In-loop-j) → c.loop-j.j < sides c.args.n
side_low c = let all = c.loop-j.invariant.1 in omega arith

pub side_start-requires : goal.side_start-requires
side_start-requires c = (c.requires.0.table.dim, side_low c)

-- the place that the side begins at
place_low : (c : After-side_start) → c.side_start.result < cell_size c.args.n
place_low c =
    let dim = c.requires.0.table.dim in
    let low = start_low _ dim _ (side_low (goal.at.After-side_start c).In-loop-j) in
    let few = half_in _ dim in
    rw c.side_start.ensures (omega arith)

pub overflow_cast-x : goal.overflow_cast-x
overflow_cast-x c = let low = place_low c in let few = size_few _ c.requires.0.table.dim in omega arith

pub offset_bounds-cell-side_start : goal.offset_bounds-cell-side_start
offset_bounds-cell-side_start c = let low = place_low c in let few = size_few _ c.requires.0.table.dim in omega arith

pub bounds-cell-side_start : goal.bounds-cell-side_start
bounds-cell-side_start c =
    let low = place_low (goal.at.bounds-cell-side_start c).After-side_start in
    let long = c.requires.0.long in
    omega arith

pub link_in-y-requires : goal.link_in-y-requires
link_in-y-requires c = link_there c.requires.0 _ _ (omega arith) (place_low (goal.at.link_in-y-requires c).After-side_start)

-- the dart over the side
reached : (c : After-link_in-y) →
    let a = c.args in
    c.link_in-y.result ≡ over a.n a.table.now a.cell.now c.loop-j.j
reached c = c.link_in-y.ensures ∙ rw c.side_start.ensures

pub put-end-requires : goal.put-end-requires
put-end-requires c =
    let low = over_low c.requires.0 _ (side_low (goal.at.put-end-requires c).In-loop-j) in
    let few = c.requires.0.table.few in
    let long = c.requires.1 in
    let room = c.requires.2 in
    let W = c.loop-j.invariant.2 in
    let same = W.long in
    let high = W.high in
    let all = c.loop-j.invariant.1 in
    (rw (reached (goal.at.put-end-requires c).After-link_in-y, long) low, rw (reached (goal.at.put-end-requires c).After-link_in-y) (omega arith), omega arith)

pub overflow_step-j : goal.overflow_step-j
overflow_step-j c = let top = c.requires.0.table.dim.1 in omega arith

pub loop-j-smaller : goal.loop-j-smaller
loop-j-smaller c = omega arith

pub loop-j-preserved : goal.loop-j-preserved
loop-j-preserved c =
    let W = c.loop-j.invariant.2 in
    let room = c.requires.2 in
    let same = W.long in
    let high = W.high in
    let all = c.loop-j.invariant.1 in
    (omega arith, all, waiting_next W _ _ (omega arith) (rw (reached (goal.at.loop-j-preserved c).After-link_in-y) at c.put-end.ensures))

pub returns : goal.returns
returns c =
    let end : c.loop-j.j ≡ sides c.args.n = let all = c.loop-j.invariant.1 in omega arith in
    rw end at c.loop-j.invariant.2
