use mathlib.Core.Path.{refl, ◌∙◌}
use native.Mathlib.Omega.{arith}
use Rattle.lines.proofs.Feeding.{room_kept, feeding_start, feeding_on, fed_whole}
use Rattle.lines.proofs.feed.Goals as goal

pub loop-b-init : goal.loop-b-init
loop-b-init c =
    (feeding_start _ _ _ _ _ _ _ _ c.requires.room.0 c.requires.room.1, refl, refl, refl, refl)

pub feed_byte-step-requires : goal.feed_byte-step-requires
feed_byte-step-requires c =
    let g = c.loop-b.invariant.0 in
    let turn = c.loop-b-test.true in
    record { room = (g.room, g.kept); line_bound = (omega (arith, g.line, turn, c.requires.piece_bound.0), omega (arith, g.few, g.long, turn, c.requires.piece_bound.1)) }

pub loop-b-preserved : goal.loop-b-preserved
loop-b-preserved c =
    let g = c.loop-b.invariant in
    let k = c.feed_byte-step.auto in (
      feeding_on g.0 c.loop-b-test.true
          c.feed_byte-step.ensures
          (room_kept g.0.room k.text k.table k.marks k.journal)
          k.out,
      k.text ∙ g.1,
      k.table ∙ g.2,
      k.marks ∙ g.3,
      k.journal ∙ g.4,
    )

pub returns : goal.returns
returns c = fed_whole c.loop-b.invariant.0 c.loop-b-test.false
