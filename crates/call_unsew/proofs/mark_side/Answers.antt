use mathlib.Core.Path.{◌≡◌, ap, ◌∙◌}
use native.Mathlib.Omega.{arith}
use Rattle.model.specs.Table.{link}
use Rattle.sides.proofs.Entries.{live_entry}
use Rattle.sides.proofs.SideTurns.{side_start_lem}
use Rattle.sides.proofs.Standing.{standing_live, standing_nearer}
use Rattle.call_unsew.proofs.Marks.{marking_few, marking_both}
use Rattle.call_unsew.proofs.Walking.{going_first, going_on, going_round}
use Rattle.call_unsew.proofs.mark_side.Goals as goal
use Rattle.call_unsew.proofs.mark_side.Goals.{After-link_in-x}

pub loop-x-init : goal.loop-x-init
loop-x-init c = going_first _ _ _ _ _ _

pub overflow_cast-a : goal.overflow_cast-a
overflow_cast-a c = let s = side_start_lem c.requires.0 c.side_links-links.ensures in omega arith

pub link_in-p-requires : goal.link_in-p-requires
link_in-p-requires c =
    let s = side_start_lem c.requires.0 c.side_links-links.ensures in
    live_entry s.mapped.linked c.loop-x.x _ (standing_live s c.loop-x.invariant.at) s.first_low

pub mark_couple-size-requires : goal.mark_couple-size-requires
mark_couple-size-requires c =
    let (on, wide) = c.requires in
    let s = side_start_lem on c.side_links-links.ensures in
    let long = c.loop-x.invariant.marking.long in
    let top = on.table.dim.1 in
    let index = on.index in
    (s.mapped.linked, omega arith, standing_live s c.loop-x.invariant.at, (omega arith, omega arith))

pub overflow_add-size : goal.overflow_add-size
overflow_add-size c =
    let wide = c.requires.1 in
    let few = marking_few (marking_both c.loop-x.invariant.marking c.mark_couple-size.ensures) in
    omega arith

pub mark_couple-size-requires-in-loop-x : goal.mark_couple-size-requires-in-loop-x
mark_couple-size-requires-in-loop-x c =
    let (on, wide) = c.requires in
    let s = side_start_lem on c.side_links-links.ensures in
    let long = c.mark_couple-size.ensures.long ∙ c.loop-x.invariant.marking.long in
    let top = on.table.dim.1 in
    let index = on.index in
    let lives = standing_live s c.loop-x.invariant.at in
    let to = s.mapped.linked.goes c.loop-x.x _ lives s.first_low in
    let is = c.link_in-p.ensures in
    (s.mapped.linked, omega arith, (cc), (omega arith, omega arith))

pub overflow_add-size-in-loop-x : goal.overflow_add-size-in-loop-x
overflow_add-size-in-loop-x c =
    let wide = c.requires.1 in
    let few = marking_few (marking_both (marking_both c.loop-x.invariant.marking c.mark_couple-size.ensures) c.mark_couple-size-in-loop-x.ensures) in
    omega arith

pub overflow_cast-b : goal.overflow_cast-b
overflow_cast-b c =
    let s = side_start_lem c.requires.0 c.side_links-links.ensures in
    omega arith

pub link_in-x-requires : goal.link_in-x-requires
link_in-x-requires c =
    let s = side_start_lem c.requires.0 c.side_links-links.ensures in
    let lives = s.mapped.linked.goes c.loop-x.x _ (standing_live s c.loop-x.invariant.at) s.first_low in
    rw c.link_in-p.ensures (live_entry s.mapped.linked _ _ lives s.second_low)

pub returns-then-x-d : goal.returns-then-x-d
returns-then-x-d c =
    going_round c.requires.0 c.side_links-links.ensures c.loop-x.invariant c.link_in-p.ensures
    c.mark_couple-size.ensures c.mark_couple-size-in-loop-x.ensures c.link_in-x.ensures c.if-x-d.true

-- the turn leads from x to what was read
to : (c : After-link_in-x) →
    let t = c.args.table.now in
    let r = c.side_links-links.result in
    c.link_in-x.result ≡ link t r.b (link t r.a c.loop-x.x)
to c = c.link_in-x.ensures ∙ ap (link _ _) c.link_in-p.ensures

pub loop-x-smaller : goal.loop-x-smaller
loop-x-smaller c =
    let s = side_start_lem c.requires.0 c.side_links-links.ensures in
    rw (to (goal.at.loop-x-smaller c).After-link_in-x) (standing_nearer s c.loop-x.invariant.at (λ z. c.if-x-d.false (to (goal.at.loop-x-smaller c).After-link_in-x ∙ z)))

pub loop-x-preserved : goal.loop-x-preserved
loop-x-preserved c =
    going_on c.requires.0 c.side_links-links.ensures c.loop-x.invariant c.link_in-p.ensures
    c.mark_couple-size.ensures c.mark_couple-size-in-loop-x.ensures c.link_in-x.ensures c.if-x-d.false
