use mathlib.Core.Path.{refl, sym, ap, ◌∙◌}
use mathlib.Core.Bool.{true}
use native.Mathlib.Omega.{arith}
use Rattle.std.proofs.lemmas.List.{map-id}
use Rattle.reach.specs.Search.{Search, search_of, meet}
use Rattle.reach.proofs.Meeting.{going_from, going_on, going_all, meet_asks, follow_takes}
use Rattle.walls.specs.Steps.{step}
use Rattle.walls.proofs.expand.Goals as goal
use Rattle.walls.proofs.expand.Goals.{At-loop-i}

abbrev now : At-loop-i → Search
now l = search_of l.loop-i.seen l.loop-i.queue l.loop-i.tail

pub loop-i-init : goal.loop-i-init
loop-i-init c =
    going_from (search_of c.args.seen.now c.args.queue.now c.args.from) c.requires.space

pub step-y-requires : goal.step-y-requires
step-y-requires c = let low = c.loop-i-test.true in (c.requires.stepping, omega arith)

pub meet-tail-requires : goal.meet-tail-requires
meet-tail-requires c =
    let p = c.requires.stepping in
    let test = c.loop-i-test.true in
    let low = p.goes c.loop-i.i (omega arith) in
    let is = c.step-y.ensures in
    rw map-id (meet_asks _ (now (goal.at.meet-tail-requires c).At-loop-i) c.step-y.result (omega arith) c.loop-i.invariant.space p.few)

pub loop-i-preserved : goal.loop-i-preserved
loop-i-preserved c =
    let low = c.loop-i-test.true in
    let a = c.args in
    let p = c.requires.stepping in
    let is = ap (λ y. meet y (now (goal.at.loop-i-preserved c).At-loop-i)) c.step-y.ensures
    ∙ sym (follow_takes (λ _. true) (step a.n a.table.now a.next.now) a.x (now (goal.at.loop-i-preserved c).At-loop-i) c.loop-i.i refl) in
    going_on c.loop-i.invariant (search_of c.meet-tail.new.marks c.meet-tail.new.queue c.meet-tail.result) (omega arith)
    (p.goes c.loop-i.i (omega arith)) ((rw (map-id c.meet-tail.new.marks, map-id c.loop-i.seen) at c.meet-tail.ensures) ∙ is)

pub returns : goal.returns
returns c = going_all c.loop-i.invariant (omega arith)
