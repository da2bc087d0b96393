-- `vtk_faces::face_dart` meets its contract.
use native.Mathlib.Omega.{arith}
use Rattle.vtk_faces.proofs.Places.{dart_is, above_few}
use Rattle.vtk_faces.proofs.face_dart.Goals as goal

pub overflow_mul-result-2 : goal.overflow_mul-result-2
overflow_mul-result-2 c = let few = above_few c.args.f c.requires in omega arith

pub overflow_add-result-2 : goal.overflow_add-result-2
overflow_add-result-2 c = let few = above_few c.args.f c.requires in omega arith

pub returns : goal.returns
returns c = dart_is c.args.f c.requires
