use Prim.Native.Nat.{◌<◌}
use mathlib.Core.Path.{◌≡◌, sym, ap, ◌∙◌}
use native.Mathlib.Omega.{arith}
use Rattle.model.specs.Remove.{cell_mark, marked}
use Rattle.call_remove.proofs.Hops.{hops_left, At, at_first, at_end, at_more}
use Rattle.call_remove.proofs.walk.first_outside.Goals as goal
use Rattle.call_remove.proofs.walk.first_outside.Goals.{After-cell_mark, After-hop-y}

pub link-y-requires : goal.link-y-requires
link-y-requires c = let dim = c.requires.layer.table.dim in omega arith

pub loop-y-init : goal.loop-y-init
loop-y-init c =
    let a = c.args in
    rw c.link-y.ensures (at_first a.n a.table.now a.marks.now a.x)

-- what is asked is whether y is marked
asked : (c : After-cell_mark) →
    c.cell_mark.result ≡ marked c.args.marks.now c.loop-y.y
unfolding marked
asked c = c.cell_mark.ensures ∙ ap cell_mark c.mark.ensures

pub hop-y-requires : goal.hop-y-requires
hop-y-requires c = let dim = c.requires.layer.table.dim in omega arith

-- the dart y of this turn is marked, and the next one is nearer to the end
nearer : (c : After-hop-y) →
    let a = c.args in
    At a.n a.table.now a.marks.now a.x c.hop-y.result
    × (hops_left a.n a.table.now a.marks.now c.hop-y.result < hops_left a.n a.table.now a.marks.now c.loop-y.y)
nearer c =
    let p = c.requires in
    let inside = sym (asked (goal.at.After-hop-y c).After-cell_mark) ∙ c.if-not-cell_mark.false in
    rw c.hop-y.ensures (at_more c.loop-y.invariant p.layer p.x_value inside)

pub loop-y-smaller : goal.loop-y-smaller
loop-y-smaller c = (nearer c).1

pub loop-y-preserved : goal.loop-y-preserved
loop-y-preserved c = (nearer c).0

pub returns : goal.returns
returns c =
    at_end c.loop-y.invariant (sym (asked (goal.at.returns c).After-cell_mark) ∙ c.if-not-cell_mark.true)
