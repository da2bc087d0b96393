-- `vtk_words::is_blank` meets its contract: its tests are the definition's.
use mathlib.Core.Path.{refl}
use Rattle.model.specs.Vtk.{is_blank}
use Rattle.vtk_words.proofs.is_blank.Goals as goal

pub returns : goal.returns
unfolding is_blank
returns c = refl
