use mathlib.Core.List.{[]}
use mathlib.Core.Path.{refl, sym, ◌∙◌}
use native.Mathlib.Omega.{arith}
use lib.Seq.{length-take-le}
use Rattle.lines.proofs.Feeding.{room_kept}
use Rattle.texts.proofs.Writing.{appended_inside}
use Rattle.lines.specs.Held.{Kept}
use Rattle.session.proofs.run.Goals as goal
use Rattle.session.proofs.run.Goals.{else-loop-piece-test, then-loop-piece-test+then-not-turn}

pub loop-piece-init : goal.loop-piece-init
loop-piece-init c =
    (c.requires.0, c.start-s.ensures.0, omega (arith, c.start-s.ensures.1), refl, refl, refl, refl, refl)

pub turn-requires : goal.turn-requires
turn-requires c =
    let g = c.loop-piece.invariant in record { room = (g.0, g.1); line_bound = (omega (arith, g.2), omega (arith, g.7, c.requires.1)) }

pub loop-piece-preserved : goal.loop-piece-preserved
loop-piece-preserved c =
    let g = c.loop-piece.invariant in
    let k = c.turn.auto in (
      room_kept g.0 k.text k.table k.marks k.journal,
      c.turn.ensures.0,
      omega (arith, c.turn.ensures.1, g.2),
      k.text ∙ g.3,
      k.table ∙ g.4,
      k.marks ∙ g.5,
      k.journal ∙ g.6,
      k.out ∙ g.7,
    )

pub finish-end-requires : goal.finish-end-requires
finish-end-requires c =
    let g = c.loop-piece.invariant in
    let same = c.loop-piece-test.auto in
    let kept : Kept c.loop-piece-test.s = elim c.loop-piece-test.branch [
      | else-loop-piece-test w ↦ rw w.s-is g.1
      | then-loop-piece-test+then-not-turn w ↦ rw w.s-is w.turn.ensures.0
    ] in
    (omega (arith, same.table, g.0.table), kept, omega (arith, same.out, g.7, c.requires.1))

pub slice_bounds-write_all-end : goal.slice_bounds-write_all-end
slice_bounds-write_all-end c =
    let g = c.loop-piece.invariant in
    let kept : Kept c.loop-piece-test.s = elim c.loop-piece-test.branch [
      | else-loop-piece-test w ↦ rw w.s-is g.1
      | then-loop-piece-test+then-not-turn w ↦ rw w.s-is w.turn.ensures.0
    ] in
    let end = c.finish-end.ensures c.loop-piece.text [] [] (omega (arith, kept.short, g.0.line)) in
    appended_inside end (omega arith)

pub slice_bounds-write_all-end-2 : goal.slice_bounds-write_all-end-2
slice_bounds-write_all-end-2 c =
    let g = c.loop-piece.invariant in
    let kept : Kept c.loop-piece-test.s = elim c.loop-piece-test.branch [
      | else-loop-piece-test w ↦ rw w.s-is g.1
      | then-loop-piece-test+then-not-turn w ↦ rw w.s-is w.turn.ensures.0
    ] in
    let end = c.finish-end.ensures c.loop-piece.text [] [] (omega (arith, kept.short, g.0.line)) in
    sym (length-take-le _ _ (appended_inside end (omega arith)))
