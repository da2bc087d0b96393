-- `walls::sewn` meets its contract.
use Rattle.std.proofs.Common.{rules}
use Prim.Native.Nat.{ℕ}
use mathlib.Core.Bool.{Bool, true, false, not}
use mathlib.Core.List.{List}
use mathlib.Core.Path.{◌≡◌}
use lib.Dec.{eqb}
use borrow.Author.Tests.{tests}
use Rattle.std.proofs.lemmas.Iterator.{cases_from_all, YieldsList-from_slice}
use Rattle.model.specs.Table.{link}
use Rattle.walls.proofs.Passing.{tested}
use Rattle.walls.proofs.sewn.Goals as goal

-- h is not n-free
abbrev passes : ℕ → List ℕ → ℕ → Bool
passes n t h = not (eqb (link t n h) h)

pub returns : goal.returns
returns c =
    let a = c.args in
    tested (passes a.n a.table.now) a.hs.now _ (cases_from_all _ _ _ (λ h. passes a.n a.table.now h ≡ true) (λ h. passes a.n a.table.now h ≡ false) c.all.ensures.ran
    (YieldsList-from_slice a.hs.now cc) (λ x q k. search (rules, tests)) (λ x q k. search (rules, tests)))
