-- `vtk_faces::same_four` meets its contract.
use mathlib.Core.Path.{sym, ◌∙◌}
use Rattle.model.specs.Faces.{same_four}
use Rattle.vtk_faces.proofs.same_four.Goals as goal

pub returns-then-not-has_all : goal.returns-then-not-has_all
unfolding same_four
returns-then-not-has_all c = rw (sym c.has_all.ensures ∙ c.if-not-has_all.true)

pub returns : goal.returns
unfolding same_four
returns c =
    rw (sym c.has_all.ensures ∙ c.if-not-has_all.false, c.has_all-2.ensures)
