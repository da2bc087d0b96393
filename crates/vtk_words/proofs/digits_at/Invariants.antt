-- `vtk_words::digits_at` meets its contract. The loop's invariant: `v` is the number of the digits passed, and has at most 19 of them.
use Prim.Native.Nat.{◌<◌}
use mathlib.Core.Path.{◌≡◌}
use lib.ListN.{drop}
use Rattle.vtk_words.specs.Words.{digits_on, large}
use Rattle.vtk_words.proofs.digits_at.Given as goal

abbrev pub invariant-loop-k : goal.invariant-loop-k
invariant-loop-k l = (l.v < large) × (digits_on 0 (drop l.start l.text) ≡ digits_on l.v (drop l.k l.text))
