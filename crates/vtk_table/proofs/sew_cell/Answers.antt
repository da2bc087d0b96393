use Prim.Native.Nat.{ℕ, ◌+◌, ◌*◌, ◌/◌, ◌%◌, ◌<◌}
use mathlib.Core.Path.{◌≡◌, sym, ap, ◌∙◌}
use mathlib.Core.List.{List}
use native.Mathlib.Omega.{arith}
use lib.ListN.{length, get_or}
use borrow.Author.Rules.{rules}
use Rattle.model.specs.Faces.{face_darts, darts, partner}
use Rattle.theorems.proofs.Lists.Scan.{if_eq}
use Rattle.theorems.proofs.Vtk.Faces.{face_of, face_low}
use Rattle.theorems.proofs.Vtk.Table.{partner_goes}
use Rattle.vtk_faces.specs.Walks.{face_walk, walk_at, walk_dart}
use Rattle.vtk_faces.proofs.Walks.{first_low, dart_cell, dart_place}
use Rattle.vtk_table.specs.Cells.{Cells}
use Rattle.vtk_table.proofs.Places.{first_dart_lem, steps_to, steps_low, steps_lead}
use Rattle.vtk_table.proofs.Partners.{partner_walks}
use Rattle.vtk_table.proofs.sew_cell.Goals as goal
use Rattle.vtk_table.proofs.sew_cell.Goals.{After-partner-to}

pub loop-f-init : goal.loop-f-init
loop-f-init c = (omega arith, c.requires.0, λ t rs C low g h. absurd (omega arith))

pub overflow_mul-c : goal.overflow_mul-c
unfolding darts
overflow_mul-c c =
    let some = c.requires.1 in
    let low = some.low in
    let room = some.cells.readable.room in
    let few = some.cells.readable.few in
    omega arith

pub overflow_add-c : goal.overflow_add-c
unfolding darts
overflow_add-c c =
    let some = c.requires.1 in
    let low = some.low in
    let room = some.cells.readable.room in
    let few = some.cells.readable.few in
    omega arith

pub partner-to-requires : goal.partner-to-requires
partner-to-requires c =
    let some = c.requires.1 in
    let low = some.low in
    record { t = _; rows = _; cells = some.cells; low = omega arith }

abbrev cell : (c : After-partner-to) → ℕ
cell c = c.args.c

face : (c : After-partner-to) → c.loop-f.f < 6
face c = omega arith

sewn_to : (c : After-partner-to) → (t : List ℕ) (rs : List (List ℕ)) (C : Cells t rs c.args.mates.now) (low : (cell c) < length rs) → partner rs (48 * (cell c) + get_or face_darts c.loop-f.f 0) ≡ walk_dart c.partner-to.result
sewn_to c t rs C low = ap (partner rs) (sym (first_dart_lem (cell c) c.loop-f.f (face c))) ∙ c.partner-to.ensures t rs C (let f = (face c) in omega arith)

sewn_low : (c : After-partner-to) → (t : List ℕ) (rs : List (List ℕ)) (C : Cells t rs c.args.mates.now) (low : (cell c) < length rs) → c.partner-to.result < 65568
unfolding darts
sewn_low c t rs C low =
    let first = first_low c.loop-f.f (face c) in
    let goes = partner_goes C.readable (48 * (cell c) + get_or face_darts c.loop-f.f 0) (omega arith) in
    let is = ((sewn_to c) t rs C low) in
    let whole = dart_cell c.partner-to.result in
    let room = C.readable.room in
    let few = C.readable.few in
    omega arith

sewn_on : (c : After-partner-to) → (t : List ℕ) (rs : List (List ℕ)) (C : Cells t rs c.args.mates.now) (low : (cell c) < length rs) → (i : ℕ) → partner rs (48 * (cell c) + face_walk i (get_or face_darts c.loop-f.f 0))
    ≡ 48 * (c.partner-to.result / 48) + face_walk i (walk_at (c.partner-to.result % 48))
sewn_on c t rs C low i = rw (dart_cell c.partner-to.result, dart_place c.partner-to.result)
    at (partner_walks C (cell c) (get_or face_darts c.loop-f.f 0) (walk_dart c.partner-to.result) low (first_low c.loop-f.f (face c)) ((sewn_to c) t rs C low) i)

pub sew_face-requires : goal.sew_face-requires
sew_face-requires c =
    let (_, some, steps) = c.requires in
    (c.loop-f.invariant.1, steps, face (goal.at.sew_face-requires c).After-partner-to, sewn_low (goal.at.sew_face-requires c).After-partner-to some.t some.rows some.cells some.low)

pub loop-f-preserved : goal.loop-f-preserved
loop-f-preserved c = (
  omega arith,
  search rules,
  λ t rs C low g h i few.
      let sews = c.sew_face.ensures (λ x. partner rs (48 * cell (goal.at.loop-f-preserved c).After-partner-to + x)) (λ n _. sewn_on (goal.at.loop-f-preserved c).After-partner-to t rs C low n) in
      if_eq g c.loop-f.f (λ e. rw e (sews.face i few))
      (λ e. sews.stays _ (c.loop-f.invariant.2 t rs C low g (omega arith) i few)),
)

pub returns : goal.returns
returns c t rs C low k h =
    let l = c.loop-f in
    rw (steps_lead k h) at (l.invariant.2 t rs C low (face_of k) (let f = face_low k h in omega arith) (steps_to k) (steps_low k h))
