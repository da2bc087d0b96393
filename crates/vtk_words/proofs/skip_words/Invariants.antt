-- `vtk_words::skip_words` meets its contract. The loop's invariant: what is left is to pass `left` words from `p` on.
use Prim.Native.Nat.{◌≤◌, ◌-◌}
use mathlib.Core.Path.{◌≡◌}
use lib.ListN.{length, drop}
use Rattle.model.specs.Vtk.{words}
use Rattle.vtk_words.proofs.skip_words.Given as goal

abbrev pub invariant-loop-left : goal.invariant-loop-left
invariant-loop-left l = (l.p ≤ length l.text) × (drop l.n (words (drop l.at l.text)) ≡ drop l.left (words (drop l.p l.text)))

abbrev pub decreases-loop-left : goal.decreases-loop-left
decreases-loop-left l = length l.text - l.p
