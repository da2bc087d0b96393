use mathlib.Core.Path.{refl, ◌∙◌}
use native.Mathlib.Omega.{arith}
use lib.ListN.{length-set}
use Rattle.vtk_table.specs.Cells.{step_at}
use Rattle.vtk_table.proofs.Places.{fill_more}
use Rattle.vtk_table.proofs.steps.Goals as goal

pub loop-y-init : goal.loop-y-init
loop-y-init c = (λ z low. absurd (omega arith), omega arith, refl)

pub step_at-requires : goal.step_at-requires
step_at-requires c = (omega arith, c.loop-y.invariant.0)

pub loop-y-preserved : goal.loop-y-preserved
loop-y-preserved c =
    let long = c.loop-y.invariant.2 in (
      fill_more step_at c.loop-y.steps c.loop-y.y (omega arith) c.loop-y.invariant.0 _ c.step_at.ensures,
      omega arith,
      length-set c.loop-y.steps _ _ ∙ long,
    )

pub returns : goal.returns
returns c = λ z low. c.loop-y.invariant.0 z (omega arith)
