-- `texts::digits` meets its contract. The loop's invariant: `v` is the number of the digits passed, and at most `top`.
use Prim.Native.Nat.{◌≤◌}
use mathlib.Core.Path.{◌≡◌}
use lib.ListN.{drop}
use Rattle.model.specs.Text.{digits, up_to}
use Rattle.texts.proofs.digits.Given as goal

abbrev pub invariant-loop-x : goal.invariant-loop-x
invariant-loop-x l = (l.v ≤ l.top) × (up_to l.top (digits 0 l.text) ≡ up_to l.top (digits l.v (drop l.x-index l.text)))
