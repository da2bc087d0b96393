-- `texts::begins` meets its contract.
use mathlib.Core.Path.{◌∙◌}
use Rattle.model.specs.Text.{begins}
use Rattle.texts.proofs.Comparing.{equal_pointwise}
use Rattle.texts.proofs.begins.Goals as goal

pub returns : goal.returns
unfolding begins
returns c = c.starts_with.ensures.value ∙ equal_pointwise _ _
