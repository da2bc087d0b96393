use Prim.Native.Nat.{◌<◌}
use mathlib.Core.Path.{sym, ◌∙◌}
use native.Mathlib.Omega.{arith}
use borrow.Author.Tests.{eqb-true, eqb-false}
use Rattle.model.specs.Reach.{in_set}
use Rattle.model.specs.Meaning.Sets.{Marked}
use Rattle.walls.proofs.Nexting.{drawn_of, turns_left, At, live_entry, over_lives, at_in, at_first, at_met, at_free, at_more}
use Rattle.walls.proofs.next_of.Goals as goal
use Rattle.walls.proofs.next_of.Goals.{After-link_in-x-in-loop-y, Else-on_wall}

pub overflow_sub-last : goal.overflow_sub-last
overflow_sub-last c = let dim = c.requires.0.drawing.table.dim in omega arith

pub link_in-x-requires : goal.link_in-x-requires
link_in-x-requires c =
    let (C, i) = c.requires in
    let dim = C.drawing.table.dim in
    live_entry C _ _ ((drawn_of C).lives _ i) (omega arith)

pub loop-y-init : goal.loop-y-init
loop-y-init c = rw c.link_in-x.ensures (at_first c.requires.0 c.args.h c.requires.1)

pub on_wall-requires : goal.on_wall-requires
on_wall-requires c = at_in c.requires.0 c.loop-y.invariant

pub link_in-y-requires : goal.link_in-y-requires
link_in-y-requires c =
    let C = c.requires.0 in
    let dim = C.drawing.table.dim in
    live_entry C _ _ c.loop-y.invariant.lives (omega arith)

pub link_in-x-requires-in-loop-y : goal.link_in-x-requires-in-loop-y
link_in-x-requires-in-loop-y c =
    let C = c.requires.0 in
    let dim = C.drawing.table.dim in
    rw c.link_in-y.ensures (live_entry C _ _ (over_lives C _ c.loop-y.invariant.lives) (omega arith))

-- x is no dart of the wall
out : (c : Else-on_wall) →
    Marked c.args.marks.now c.loop-y.x → ⊥
unfolding in_set
out c = eqb-false _ _ (sym c.on_wall.ensures ∙ c.if-on_wall.false)

-- the next turn
more : (c : After-link_in-x-in-loop-y) →
    let a = c.args in
    At a.n a.table.now a.marks.now a.h c.link_in-x-in-loop-y.result
    × (turns_left a.n a.table.now a.marks.now c.link_in-x-in-loop-y.result
    < turns_left a.n a.table.now a.marks.now c.loop-y.x)
more c =
    let (C, i) = c.requires in
    rw (c.link_in-x-in-loop-y.ensures, c.link_in-y.ensures)
    (at_more C i c.loop-y.invariant (out (goal.at.After-link_in-x-in-loop-y c).Else-on_wall) (λ q. c.if-y-x.false (c.link_in-y.ensures ∙ q)))

pub loop-y-smaller : goal.loop-y-smaller
loop-y-smaller c = (more c).1

pub loop-y-preserved : goal.loop-y-preserved
loop-y-preserved c = (more c).0

pub returns-then-on_wall : goal.returns-then-on_wall
unfolding in_set
returns-then-on_wall c =
    let (C, i) = c.requires in
    at_met C i c.loop-y.invariant (eqb-true _ _ (sym c.on_wall.ensures ∙ c.if-on_wall.true))

pub returns-then-y-x : goal.returns-then-y-x
returns-then-y-x c =
    let (C, i) = c.requires in
    at_free C i c.loop-y.invariant (out (goal.at.returns-then-y-x c).Else-on_wall) (sym c.link_in-y.ensures ∙ c.if-y-x.true)
