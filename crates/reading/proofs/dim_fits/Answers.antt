-- `reading::dim_fits` meets its contract.
use mathlib.Core.Path.{refl}
use Rattle.model.specs.Checks.{must, dim_ok}
use Rattle.reading.proofs.dim_fits.Goals as goal

pub returns : goal.returns
unfolding must dim_ok
returns c = refl
