-- `reading::table_fits` meets its contract.
use mathlib.Core.Path.{refl}
use Rattle.model.specs.Checks.{must, table_ok}
use Rattle.reading.proofs.table_fits.Goals as goal

pub returns : goal.returns
unfolding must table_ok
returns c = refl
