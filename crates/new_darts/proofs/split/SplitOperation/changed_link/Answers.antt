use mathlib.Core.Path.{refl}
use Rattle.new_darts.specs.News.{changed_link}
use Rattle.new_darts.proofs.split.SplitOperation.changed_link.Goals as goal

pub returns : goal.returns
unfolding changed_link
returns c = refl
