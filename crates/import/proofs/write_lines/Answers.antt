use mathlib.Core.Path.{refl}
use native.Mathlib.Omega.{arith}
use Rattle.texts.proofs.Writing.{appended_inside}
use Rattle.import.proofs.write_lines.Goals as goal

pub loop-a-init : goal.loop-a-init
loop-a-init c = (omega arith, refl)

pub overflow_sub-slots : goal.overflow_sub-slots
overflow_sub-slots c = omega arith

pub to_lines-end-requires : goal.to_lines-end-requires
to_lines-end-requires c = (omega arith, omega arith)

pub put-requires : goal.put-requires
put-requires c = appended_inside c.to_lines-end.ensures (omega arith)

pub overflow_add-a : goal.overflow_add-a
overflow_add-a c = omega arith

pub loop-a-smaller : goal.loop-a-smaller
loop-a-smaller c = omega arith

pub loop-a-preserved : goal.loop-a-preserved
loop-a-preserved c = (omega arith, omega arith)
