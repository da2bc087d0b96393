use native.Mathlib.Omega.{arith}
use Rattle.reach.specs.Search.{search_of}
use Rattle.reach.proofs.Meeting.{going_from, going_on, going_all, going_long, link_in}
use Rattle.reach.proofs.expand.Goals as goal

pub loop-i-init : goal.loop-i-init
loop-i-init c =
    going_from (search_of c.args.marks.now c.args.queue.now c.args.from) c.requires.space

pub follow-tail-requires : goal.follow-tail-requires
follow-tail-requires c =
    let p = c.requires in
    let l = c.loop-i-test.true in
    (record { linked = p.linked; space = c.loop-i.invariant.space; lives = p.lives }, omega arith)

pub loop-i-preserved : goal.loop-i-preserved
loop-i-preserved c =
    let p = c.requires in
    let l = c.loop-i-test.true in
    going_on c.loop-i.invariant (search_of c.follow-tail.new.marks c.follow-tail.new.queue c.follow-tail.result) (omega arith)
    (link_in _ p.linked _ p.lives _ (omega arith)) c.follow-tail.ensures

pub shape_of-marks : goal.shape_of-marks
shape_of-marks c = going_long c.loop-i.invariant c.requires.space

pub shape_of-queue : goal.shape_of-queue
shape_of-queue c = c.loop-i.invariant.wide

pub returns : goal.returns
returns c = going_all c.loop-i.invariant c.loop-i-test.false
