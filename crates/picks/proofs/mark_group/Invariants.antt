-- `picks::mark_group` meets its contract. The loop's invariant: beside the words passed all is marked.
use Prim.Native.Nat.{◌≤◌}
use mathlib.Core.Path.{◌≡◌}
use lib.ListN.{length}
use Rattle.model.specs.Table.{slots}
use Rattle.picks.specs.Queued.{group}
use Rattle.picks.specs.Beside.{BesideTo}
use Rattle.picks.proofs.mark_group.Given as goal

abbrev pub invariant-loop-x : goal.invariant-loop-x
invariant-loop-x l = (l.x-index ≤ group l.n) × (length l.marks ≡ slots l.table) × BesideTo l.n l.table l.initial.marks l.queue l.from l.x-index l.marks
