use mathlib.Core.Path.{sym, ◌∙◌}
use native.Mathlib.Omega.{arith}
use Rattle.vtk_faces.proofs.Turning.{equal_four, seeking_first, seeking_more, found_here, found_across, found_none}
use Rattle.vtk_faces.proofs.turn_of.Goals as goal

pub loop-turn-init : goal.loop-turn-init
loop-turn-init c = (omega arith, seeking_first _ _)

pub returns-then-eq : goal.returns-then-eq
returns-then-eq c =
    let (up, S) = c.loop-turn.invariant in
    found_here S (omega arith) (sym (equal_four _ _) ∙ sym c.eq.ensures ∙ c.if-eq.true)

pub returns-then-eq-2 : goal.returns-then-eq-2
returns-then-eq-2 c =
    let (up, S) = c.loop-turn.invariant in
    found_across S (omega arith) (sym (equal_four _ _) ∙ sym c.eq-in-loop-turn.ensures ∙ c.if-eq-2.true)

pub loop-turn-preserved : goal.loop-turn-preserved
loop-turn-preserved c =
    let (up, S) = c.loop-turn.invariant in (
      omega arith,
      seeking_more S (sym (equal_four _ _) ∙ sym c.eq.ensures ∙ c.if-eq.false) (sym (equal_four _ _) ∙ sym c.eq-in-loop-turn.ensures ∙ c.if-eq-2.false),
    )

pub returns : goal.returns
returns c = found_none c.loop-turn.invariant.1 (omega arith)
