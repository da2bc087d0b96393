-- `walls::on_wall` meets its contract.
use mathlib.Core.Path.{refl}
use Rattle.model.specs.Reach.{in_set}
use Rattle.walls.proofs.on_wall.Goals as goal

pub returns : goal.returns
unfolding in_set
returns c = refl
