-- `vtk_form::keep` meets its contract.
use mathlib.Core.Path.{refl}
use native.Mathlib.Omega.{arith}
use Rattle.vtk_form.proofs.keep.Goals as goal

pub returns-then-i-room : goal.returns-then-i-room
returns-then-i-room c = (λ l. refl, λ l. absurd (omega arith))

pub returns-else-i-room : goal.returns-else-i-room
returns-else-i-room c = (λ l. absurd (omega arith), λ l. refl)
