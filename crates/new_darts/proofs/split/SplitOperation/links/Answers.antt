use mathlib.Core.Path.{refl}
use Rattle.new_darts.proofs.Which.{split_role, split_links}
use Rattle.new_darts.proofs.split.SplitOperation.links.Goals as goal

pub links-requires : goal.links-requires
links-requires c = split_role refl c.requires

pub returns : goal.returns
returns c = λ M R. split_links R c.links.result refl c.links.ensures
