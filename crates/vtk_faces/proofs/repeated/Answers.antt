use mathlib.Core.Path.{sym, ap, ◌∙◌}
use mathlib.Core.Bool.{not}
use native.Mathlib.Omega.{arith}
use borrow.Author.Count.{below_more}
use Rattle.vtk_faces.proofs.Twice.{held_once, held_twice}
use Rattle.vtk_faces.proofs.repeated.Goals as goal

pub loop-c-init : goal.loop-c-init
loop-c-init c = (λ k l. absurd (omega arith), omega arith)

pub returns-then-repeats : goal.returns-then-repeats
returns-then-repeats c = λ rs H n.
    sym (ap not (held_twice _ rs H c.loop-c.c (omega arith) (sym c.repeats.ensures ∙ c.if-repeats.true)))

pub loop-c-preserved : goal.loop-c-preserved
loop-c-preserved c =
    (below_more _ _ c.loop-c.invariant.0 (sym c.repeats.ensures ∙ c.if-repeats.false), omega arith)

pub returns : goal.returns
returns c = λ rs H n.
    sym (ap not (held_once _ rs H (λ k b. c.loop-c.invariant.0 k (omega arith))))
