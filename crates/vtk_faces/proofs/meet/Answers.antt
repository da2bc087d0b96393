-- `vtk_faces::meet` meets its contract.
use mathlib.Core.Path.{refl}
use native.Mathlib.Omega.{arith}
use lib.ListN.{length-set}
use Rattle.vtk_faces.proofs.meet.Goals as goal

-- what was tested of the word is found by its meaning, so that another test is refused for what it says
pub returns : goal.returns
returns c = record {
  long = length-set _ _ _;
  alone = λ z. absurd (omega arith);
  third = λ _ has. absurd (omega arith);
  pair = λ _ _. (refl, refl);
}
