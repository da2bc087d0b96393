-- `picks::enter_beside` meets its contract. The loop's invariant: what link 2 leads to from the words passed has entered.
use Prim.Native.Nat.{◌+◌, ◌-◌, ◌≤◌}
use Rattle.picks.specs.Enter.{beside_at, Entered}
use Rattle.picks.proofs.enter_beside.Given as goal

abbrev pub invariant-loop-k : goal.invariant-loop-k
invariant-loop-k l = (l.k ≤ 8) × Entered l.initial.marks l.initial.queue (l.at + 8) l.k (beside_at l.table l.initial.queue l.at) l.marks l.queue

abbrev pub decreases-loop-k : goal.decreases-loop-k
decreases-loop-k l = 8 - l.k
