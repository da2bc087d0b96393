-- `vtk_form::eights_hold` meets its contract.
use mathlib.Core.Path.{sym, ◌∙◌}
use Rattle.vtk_form.proofs.Beside.{eights_all}
use Rattle.vtk_form.proofs.eights_hold.Goals as goal

pub returns-then-eight : goal.returns-then-eight
returns-then-eight c = λ rows _ _ _ ts _ eight. c.if-eight.true ∙ sym (eights_all rows ts (sym eight ∙ c.if-eight.true))
