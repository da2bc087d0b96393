use Prim.Native.Nat.{ℕ, ◌+◌}
use mathlib.Core.Path.{◌≡◌, refl, ap}
use mathlib.Core.List.{List}
use native.Mathlib.Omega.{arith}
use borrow.Author.Rules.{rules}
use Rattle.vtk_faces.specs.Judged.{order_number, number_found, Stepped}
use Rattle.vtk_faces.specs.Rest.{Chunk}
use Rattle.std.proofs.lemmas.Result.{err_from_is_err_and}
use Rattle.vtk_faces.proofs.Blocks.{both, no_third}
use Rattle.vtk_faces.proofs.Later.{chunk_later, chunk_more, chunk_three, chunk_all}
use Rattle.vtk_faces.proofs.Chained.later_faces.Goals as goal
use Rattle.vtk_faces.proofs.Chained.later_faces.Goals.{After-later_face}

-- what it found
stepped : (c : After-later_face) (F : ℕ → List ℕ) (m i : ℕ) →
    let a = c.args in
    Chunk F m i a.self.now.rows.now a.self.now.heads.now a.self.now.nexts.now a.mates.now (order_number a.before) a.chunk.now a.cells
    → Stepped F m (i + c.loop-j.j) c.later_face.new.mates (number_found c.later_face.result)
stepped c F m i C =
    let end = c.loop-j.invariant.2 in
    let taken = c.loop-j-test.true in
    c.later_face.ensures F m (i + c.loop-j.j)
    (chunk_later F m i _ _ _ _ _ _ _ C c.loop-j.j _ _ (c.loop-j.invariant.0 F m i C) _ (omega arith) c.face_at.ensures)

pub loop-j-init : goal.loop-j-init
loop-j-init c = (
  λ F m i C. let none : i + 0 ≡ i = omega arith in rw none C.state,
  omega arith,
  refl,
  refl,
)

pub face_at-requires : goal.face_at-requires
face_at-requires c =
    let end = c.loop-j.invariant.2 in
    let taken = c.loop-j-test.true in
    let long = c.requires.1 in
    (c.requires.0, omega arith)

pub later_face-requires : goal.later_face-requires
later_face-requires c =
    let end = c.loop-j.invariant.2 in
    let taken = c.loop-j-test.true in
    let C = c.requires.2 in (
      c.requires.0,
      record {
        F = C.F;
        m = C.m;
        i = C.i + c.loop-j.j;
        is = chunk_later _ _ _ _ _ _ _ _ _ _ C.is c.loop-j.j _ _ (c.loop-j.invariant.0 C.F C.m C.i C.is) _ (omega arith)
            c.face_at.ensures;
      },
    )

pub returns-in_err-same : goal.returns-in_err-same
returns-in_err-same c = λ F m i C.
    let end = c.loop-j.invariant.2 in
    let taken = c.loop-j-test.true in
    let p = err_from_is_err_and c.from_residual.result c.from_residual.ensures.1 in
    rw p.1 (chunk_three F m i _ _ _ _ _ _ _ C c.loop-j.j _ _ (c.loop-j.invariant.0 F m i C) _ _ (stepped (goal.at.returns-in_err-same c).After-later_face F m i C) (omega arith) (ap number_found c.in_err-same.was))

pub loop-j-preserved : goal.loop-j-preserved
loop-j-preserved c =
    let (state, low, end, long) = c.loop-j.invariant in
    let taken = c.loop-j-test.true in (
      λ F m i C. chunk_more F m i _ _ _ _ _ _ _ C c.loop-j.j _ _ (state F m i C) _ _ (rw c.in_ok-same.was at (stepped (goal.at.loop-j-preserved c).After-later_face F m i C)) _
          (no_third _) (both _ _),
      omega arith,
      end,
      search rules,
    )

pub returns : goal.returns
returns c = λ F m i C.
    let (state, low, end, long) = c.loop-j.invariant in
    let left = c.loop-j-test.false in
    chunk_all F m i _ _ _ _ _ _ _ C c.loop-j.j _ _ (state F m i C) (omega arith)
