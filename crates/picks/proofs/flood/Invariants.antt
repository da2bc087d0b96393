-- `picks::flood` meets its contract. The loop's invariant: a dart of the sheet of d is met; what has entered and been taken off is on the way
-- to the sheet.
use Prim.Native.Nat.{◌-◌, ◌≤◌}
use Rattle.model.specs.Table.{slots}
use Rattle.picks.proofs.Taking.{Meeting}
use Rattle.picks.proofs.flood.Given as goal

abbrev pub invariant-loop-marks : goal.invariant-loop-marks
invariant-loop-marks l = Meeting l.n l.table l.d l.marks l.queue l.taken l.tail l.y × (l.taken ≤ slots l.table)

abbrev pub decreases-loop-marks : goal.decreases-loop-marks
decreases-loop-marks l = slots l.table - l.taken
