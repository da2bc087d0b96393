-- `walls::step` meets its contract.
use borrow.Author.Tests.{eq-eqb, ne_eqb}
use Rattle.walls.specs.Steps.{step}
use Rattle.walls.proofs.step.Goals as goal

pub returns-then-i-n : goal.returns-then-i-n
unfolding step
returns-then-i-n c = rw (eq-eqb _ _ c.if-i-n.true, step) c.word-turned.ensures

pub returns-else-i-n : goal.returns-else-i-n
unfolding step
returns-else-i-n c = rw (ne_eqb _ _ c.if-i-n.false, step) c.link_in.ensures
