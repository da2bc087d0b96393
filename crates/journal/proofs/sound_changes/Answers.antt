use mathlib.Core.Path.{refl, sym, ◌∙◌}
use native.Mathlib.Omega.{arith}
use Rattle.model.specs.Journal.{sound}
use Rattle.journal.proofs.Puts.{rest_first, rest_none}
use Rattle.journal.proofs.Breaks.{sound_stops, sound_goes}
use Rattle.journal.proofs.sound_changes.Goals as goal

pub loop-turn-init : goal.loop-turn-init
loop-turn-init c = let e = rest_first c.args.journal.now c.args.a c.args.k 0 refl in rw e refl

pub returns-then-not-sound_change : goal.returns-then-not-sound_change
returns-then-not-sound_change c =
    let l = c.loop-turn in
    sym (l.invariant ∙ sound_stops _ c.args.a c.args.k l.turn (omega arith) _ _ _ _ c.sound_change.ensures c.if-not-sound_change.true)

pub loop-turn-preserved : goal.loop-turn-preserved
loop-turn-preserved c =
    let l = c.loop-turn in
    l.invariant ∙ sound_goes _ c.args.a c.args.k l.turn (omega arith) _ _ _ _ c.sound_change.ensures c.if-not-sound_change.false

pub returns : goal.returns
unfolding sound
returns c =
    let l = c.loop-turn in
    sym (rw (rest_none c.args.journal.now c.args.a c.args.k l.turn (omega arith)) at l.invariant)
