-- `vtk_table::partner` meets its contract.
use Prim.Native.Nat.{◌+◌}
use mathlib.Core.Path.{sym, ap, ◌∙◌}
use native.Mathlib.Omega.{arith}
use Rattle.model.specs.Faces.{darts}
use Rattle.vtk_faces.specs.Walks.{walk_dart}
use Rattle.vtk_table.proofs.Places.{walk_first}
use Rattle.vtk_table.proofs.Partners.{free_face, sewn_face}
use Rattle.vtk_table.proofs.partner.Goals as goal

pub overflow_cast-mate : goal.overflow_cast-mate
overflow_cast-mate c = omega (arith, c.shared_slice_known-1.given (c.args.p + 1))

pub overflow_mul-result : goal.overflow_mul-result
unfolding darts
overflow_mul-result c =
    let some = c.requires in
    let low = some.low in
    let room = some.cells.readable.room in
    let few = some.cells.readable.few in
    omega arith

pub returns-then-mate-eq0 : goal.returns-then-mate-eq0
returns-then-mate-eq0 c t rs C low =
    let p = c.args.p in
    free_face C p low c.if-mate-eq0.true ∙ sym (walk_first p)

pub overflow_sub-result : goal.overflow_sub-result
overflow_sub-result c =
    let some = c.requires in
    let low = some.low in
    let (x, is, _) = some.cells.mated.two c.args.p (omega arith) c.if-mate-eq0.false in
    omega arith

pub returns : goal.returns
returns c t rs C low =
    let p = c.args.p in
    let (x, is, mate) = C.mated.two p (omega arith) c.if-mate-eq0.false in
    sewn_face C p low mate ∙ ap walk_dart (omega arith)
