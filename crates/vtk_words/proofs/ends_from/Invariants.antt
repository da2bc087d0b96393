-- `vtk_words::ends_from` meets its contract. The loop's invariant: `n` words end in the `i` bytes passed.
use Prim.Native.Nat.{◌≤◌, ◌-◌}
use Rattle.vtk_words.specs.Words.{WordEnds}
use Rattle.vtk_words.proofs.ends_from.Given as goal

abbrev pub invariant-loop-i : goal.invariant-loop-i
invariant-loop-i l = (l.i ≤ 64) × WordEnds l.text l.at l.i l.n

abbrev pub decreases-loop-i : goal.decreases-loop-i
decreases-loop-i l = 64 - l.i
