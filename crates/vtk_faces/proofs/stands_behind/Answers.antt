-- `vtk_faces::stands_behind` meets its contract.
use Prim.Native.Nat.{ℕ, ◌+◌, ◌*◌, ◌-◌}
use native.Mathlib.Omega.{arith}
use mathlib.Core.Path.{◌≡◌, ap, ◌∙◌}
use lib.ListN.{take, drop}
use Rattle.vtk_faces.specs.Faces.{held_row}
use Rattle.vtk_faces.proofs.Twice.{behind_is}
use Rattle.vtk_faces.proofs.stands_behind.Goals as goal

pub returns : goal.returns
unfolding held_row
returns c =
    let b = c.args.rows.now in
    let k = 8 * c.args.c in
    let eight : k + 8 - k ≡ 8 = omega arith in
    c.contains.ensures.value ∙ behind_is b c.args.c c.requires.0 c.args.i _ (ap (λ (n : ℕ). take n (drop k b)) eight)
