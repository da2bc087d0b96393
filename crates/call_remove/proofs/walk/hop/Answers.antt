-- `call_remove::walk::hop` meets its contract.
use Rattle.model.specs.Meaning.Walks.{hop}
use Rattle.call_remove.proofs.walk.hop.Goals as goal

pub returns : goal.returns
unfolding hop
returns c = cc
