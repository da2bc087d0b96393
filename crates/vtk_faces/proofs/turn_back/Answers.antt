-- `vtk_faces::turn_back` meets its contract.
use borrow.Author.Tests.{ne_eqb}
use native.Mathlib.Omega.{arith}
use Rattle.vtk_faces.specs.Turns.{turn_back}
use Rattle.vtk_faces.proofs.turn_back.Goals as goal

pub returns-then-j-eq0 : goal.returns-then-j-eq0
unfolding turn_back
returns-then-j-eq0 c = (rw (c.if-j-eq0.true, turn_back), omega arith)

pub returns : goal.returns
unfolding turn_back
returns c = (rw (ne_eqb _ 0 c.if-j-eq0.false, turn_back), omega arith)
