-- `vtk_faces::has_all` meets its contract.
use mathlib.Core.Path.{sym, ◌∙◌}
use Rattle.model.specs.Faces.{among}
use Rattle.vtk_faces.specs.Faces.{four}
use Rattle.vtk_faces.proofs.Compared.{all_four}
use Rattle.vtk_faces.proofs.has_all.Goals as goal

pub returns-then-not-has : goal.returns-then-not-has
returns-then-not-has c =
    let a = c.args in
    rw (sym c.has.ensures ∙ c.if-not-has.true) at (all_four (among (four a.r)) a.s.a a.s.b a.s.c a.s.d)

pub returns-then-not-has-2 : goal.returns-then-not-has-2
returns-then-not-has-2 c =
    let a = c.args in
    rw (sym c.has.ensures ∙ c.if-not-has.false, sym c.has-2.ensures ∙ c.if-not-has-2.true)
    at (all_four (among (four a.r)) a.s.a a.s.b a.s.c a.s.d)

pub returns : goal.returns
returns c =
    let a = c.args in
    rw (c.has-3.ensures, c.has-4.ensures)
    (rw (sym c.has.ensures ∙ c.if-not-has.false, sym c.has-2.ensures ∙ c.if-not-has-2.false)
    at (all_four (among (four a.r)) a.s.a a.s.b a.s.c a.s.d))
