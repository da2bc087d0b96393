-- `walls::mark_fits` meets its contract.
use borrow.Author.Tests.{eq-eqb, ne_eqb}
use Rattle.walls.proofs.mark_fits.Goals as goal

pub returns-then-mark-eq0 : goal.returns-then-mark-eq0
returns-then-mark-eq0 c = rw (eq-eqb _ _ c.if-mark-eq0.true)

pub returns : goal.returns
returns c = rw (ne_eqb _ _ c.if-mark-eq0.false, c.live.ensures)
