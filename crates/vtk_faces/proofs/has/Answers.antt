-- `vtk_faces::has` meets its contract.
use lib.Dec.{eqb}
use Rattle.model.specs.Faces.{among}
use Rattle.vtk_faces.proofs.Compared.{any_four}
use Rattle.vtk_faces.proofs.has.Goals as goal

pub returns : goal.returns
unfolding among
returns c = let a = c.args in any_four (eqb a.x) a.r.a a.r.b a.r.c a.r.d
