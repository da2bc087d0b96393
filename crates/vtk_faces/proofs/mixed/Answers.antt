-- `vtk_faces::mixed` meets its contract.
use borrow.Author.Rules.{rules}
use Rattle.vtk_faces.specs.Hashes.{mixed}
use Rattle.vtk_faces.proofs.mixed.Goals as goal

pub returns : goal.returns
unfolding mixed
returns c = search rules
