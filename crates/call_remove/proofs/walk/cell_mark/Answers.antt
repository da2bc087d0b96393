-- `call_remove::walk::cell_mark` meets its contract.
use mathlib.Core.Path.{refl}
use Rattle.model.specs.Remove.{cell_mark}
use Rattle.call_remove.proofs.walk.cell_mark.Goals as goal

pub returns : goal.returns
unfolding cell_mark
returns c = refl
