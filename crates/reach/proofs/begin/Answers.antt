-- `reach::begin` meets its contract.
use Prim.Native.Nat.{ℕ}
use mathlib.Core.Path.{refl, ap}
use mathlib.Core.List.{List}
use lib.ListN.{set}
use Rattle.reach.proofs.begin.Goals as goal

pub returns : goal.returns
returns c =
    (ap (λ (l : List ℕ). set l c.args.d 1) c.clear.ensures, refl)
