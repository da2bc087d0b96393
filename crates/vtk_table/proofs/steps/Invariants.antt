-- `vtk_table::steps` meets its contract. The loop's invariant: the first y entries are there.
use Prim.Native.Nat.{◌-◌, ◌≤◌}
use mathlib.Core.Path.{◌≡◌}
use lib.ListN.{length}
use Rattle.vtk_table.specs.Cells.{Steps}
use Rattle.vtk_table.proofs.steps.Given as goal

abbrev pub invariant-loop-y : goal.invariant-loop-y
invariant-loop-y l = Steps l.y l.steps × (l.y ≤ 384) × (length l.steps ≡ 384)

abbrev pub decreases-loop-y : goal.decreases-loop-y
decreases-loop-y l = 384 - l.y
