-- `sheets::flood` meets its contract. The loop's invariant: the darts found and those that wait spread the sheet of d.
use Prim.Native.Nat.{◌+◌, ◌-◌}
use mathlib.Core.Path.{◌≡◌}
use lib.ListN.{length}
use Rattle.model.specs.Table.{slots}
use Rattle.sheets.specs.Found.{Spreading}
use Rattle.sheets.proofs.flood.Given as goal

abbrev pub invariant-loop-size : goal.invariant-loop-size
invariant-loop-size l = (length l.work ≡ length l.initial.work) × Spreading l.n l.table l.d l.marks l.work l.size l.found

abbrev pub decreases-loop-size : goal.decreases-loop-size
decreases-loop-size l = l.size + (slots l.table - l.found)
