use mathlib.Core.Path.{refl, ◌∙◌}
use native.Mathlib.Omega.{arith}
use Rattle.vtk_words.proofs.skip_words.Goals as goal

pub loop-left-init : goal.loop-left-init
loop-left-init c = (omega arith, refl)

pub overflow_sub-text : goal.overflow_sub-text
overflow_sub-text c = omega arith

pub skip_few-requires : goal.skip_few-requires
skip_few-requires c = omega arith

pub returns-then-text-p-le64 : goal.returns-then-text-p-le64
returns-then-text-p-le64 c = rw c.loop-left.invariant.1 c.skip_few.ensures

pub ends_from-requires : goal.ends_from-requires
ends_from-requires c = omega arith

pub overflow_sub-left : goal.overflow_sub-left
overflow_sub-left c = omega arith

pub overflow_add-p : goal.overflow_add-p
overflow_add-p c = omega arith

pub loop-left-smaller : goal.loop-left-smaller
loop-left-smaller c = omega arith

pub loop-left-preserved : goal.loop-left-preserved
loop-left-preserved c =
    let few = c.ends_from.ensures.few in
    (omega arith, c.loop-left.invariant.1 ∙ c.ends_from.ensures.same c.loop-left.left (omega arith))

pub skip_few-requires-2 : goal.skip_few-requires-2
skip_few-requires-2 c = omega arith

pub returns : goal.returns
returns c = rw c.loop-left.invariant.1 c.skip_few-2.ensures
