-- `vtk_faces::listed` meets its contract.
use Rattle.vtk_faces.proofs.Places.{listed_is}
use Rattle.vtk_faces.proofs.listed.Goals as goal

pub returns : goal.returns
returns c = listed_is c.args.s c.requires
