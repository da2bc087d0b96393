-- `sheets::touch` meets its contract.
use mathlib.Core.Path.{refl}
use mathlib.Core.Logic.{inl, inr}
use Rattle.sheets.proofs.touch.Goals as goal

pub returns-then-unmarked : goal.returns-then-unmarked
returns-then-unmarked c = inl (rw c.link_in-y.ensures at c.if-unmarked.true, rw c.link_in-y.ensures)

pub returns-else-unmarked : goal.returns-else-unmarked
returns-else-unmarked c = inr (rw c.link_in-y.ensures at c.if-unmarked.false, refl)
