-- `vtk_words::first` meets its contract. The loop's invariant: the bytes passed are others.
use Prim.Native.Nat.{ℕ, ◌≤◌, ◌<◌}
use mathlib.Core.Path.{◌≡◌}
use mathlib.Core.Bool.{not}
use lib.ListN.{get_or}
use Rattle.model.specs.Vtk.{is_blank}
use Rattle.vtk_words.proofs.first.Given as goal

abbrev pub invariant-loop-k : goal.invariant-loop-k
invariant-loop-k l = (j : ℕ) → l.at ≤ j → j < l.k → is_blank (get_or l.text j 0) ≡ not l.blank
