-- `scans::block_clear` meets its contract. The loop's invariant: if the OR is 0, the marks passed are.
use Prim.Native.Nat.{◌+◌}
use mathlib.Core.Path.{◌≡◌}
use Rattle.scans.specs.Clear.{Clear}
use Rattle.scans.proofs.block_clear.Given as goal

abbrev pub invariant-loop-mark : goal.invariant-loop-mark
invariant-loop-mark l = l.any ≡ 0 → Clear l.marks l.x (l.x + l.mark-index)
