-- `reading::marks_fit` meets its contract.
use mathlib.Core.Path.{refl}
use Rattle.model.specs.Table.{slots}
use Rattle.model.specs.Checks.{must, marks_ok}
use Rattle.reading.proofs.marks_fit.Goals as goal

pub returns : goal.returns
unfolding must marks_ok slots
returns c = refl
