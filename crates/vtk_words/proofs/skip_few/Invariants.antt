-- `vtk_words::skip_few` meets its contract. The loop's invariant: what is left is to pass the words that are left from `p` on.
use Prim.Native.Nat.{◌≤◌, ◌-◌}
use mathlib.Core.Path.{◌≡◌}
use lib.ListN.{length, drop}
use Rattle.model.specs.Vtk.{words}
use Rattle.vtk_words.proofs.skip_few.Given as goal

abbrev pub invariant-loop : goal.invariant-loop
invariant-loop l = (l.counter ≤ l.n) × (l.p ≤ length l.text) × (drop l.n (words (drop l.at l.text)) ≡ drop (l.n - l.counter) (words (drop l.p l.text)))
