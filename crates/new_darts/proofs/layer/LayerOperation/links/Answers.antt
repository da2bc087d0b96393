use mathlib.Core.Path.{refl}
use Rattle.new_darts.proofs.Which.{layer_role, layer_links}
use Rattle.new_darts.proofs.layer.LayerOperation.links.Goals as goal

pub links-requires : goal.links-requires
links-requires c = layer_role refl c.requires

pub returns : goal.returns
returns c = λ M R. layer_links R c.links.result refl c.links.ensures
