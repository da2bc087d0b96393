use Prim.Native.Nat.{ℕ, ◌+◌, ◌*◌, ◌/◌, ◌%◌, ◌<◌}
use mathlib.Core.Path.{◌≡◌, sym, ap, ◌∙◌}
use native.Mathlib.Omega.{arith}
use lib.ListN.{get_or, length-set}
use Rattle.model.specs.Faces.{face_darts}
use Rattle.vtk_faces.specs.Walks.{face_walk, walk_at}
use Rattle.vtk_faces.proofs.Walks.{first_low, walk_low, place_low}
use Rattle.vtk_table.proofs.Places.{step_place_lem, step_face}
use Rattle.vtk_table.proofs.Partners.{sews_none, sews_more}
use Rattle.vtk_table.proofs.sew_face.Goals as goal
use Rattle.vtk_table.proofs.sew_face.Goals.{In-loop-i}

pub loop-i-init : goal.loop-i-init
loop-i-init c = (omega arith, c.requires.0, λ g h. sews_none g _ _)

-- the dart that is sewn, and the one that it is sewn to
here_is : (c : In-loop-i) → get_or c.args.steps.now (64 * c.args.f + c.loop-i.i) 0 ≡ face_walk c.loop-i.i (get_or face_darts c.args.f 0)
here_is c =
    let face = c.requires.2 in
    c.requires.1 _ (omega arith) ∙ step_face c.args.f c.loop-i.i (omega arith)

here_low : (c : In-loop-i) → face_walk c.loop-i.i (get_or face_darts c.args.f 0) < 48
here_low c = walk_low c.loop-i.i _ (first_low c.args.f c.requires.2)

to_is : (c : In-loop-i) → get_or c.args.steps.now (8 * (c.args.r % 48) + c.loop-i.i) 0 ≡ face_walk c.loop-i.i (walk_at (c.args.r % 48))
to_is c = c.requires.1 _ (omega arith) ∙ step_place_lem (c.args.r % 48) c.loop-i.i (omega arith)

to_low : (c : In-loop-i) → face_walk c.loop-i.i (walk_at (c.args.r % 48)) < 48
to_low c = walk_low c.loop-i.i _ (place_low (c.args.r % 48) (omega arith))

pub overflow_cast-d : goal.overflow_cast-d
overflow_cast-d c = omega (arith, to_is (goal.at.overflow_cast-d c).In-loop-i, to_low (goal.at.overflow_cast-d c).In-loop-i)

pub overflow_add-thirds : goal.overflow_add-thirds
overflow_add-thirds c = omega (arith, to_is (goal.at.overflow_add-thirds c).In-loop-i, to_low (goal.at.overflow_add-thirds c).In-loop-i)

pub overflow_cast-thirds : goal.overflow_cast-thirds
overflow_cast-thirds c = omega (arith, to_is (goal.at.overflow_cast-thirds c).In-loop-i, to_low (goal.at.overflow_cast-thirds c).In-loop-i)

pub overflow_cast-thirds-in-loop-i : goal.overflow_cast-thirds-in-loop-i
overflow_cast-thirds-in-loop-i c = omega (arith, here_is (goal.at.overflow_cast-thirds-in-loop-i c).In-loop-i, here_low (goal.at.overflow_cast-thirds-in-loop-i c).In-loop-i)

pub offset_bounds-thirds-steps : goal.offset_bounds-thirds-steps
offset_bounds-thirds-steps c = omega (arith, here_is (goal.at.offset_bounds-thirds-steps c).In-loop-i, here_low (goal.at.offset_bounds-thirds-steps c).In-loop-i)

pub bounds-thirds-steps : goal.bounds-thirds-steps
bounds-thirds-steps c = let long = c.loop-i.invariant.1 in omega (arith, here_is (goal.at.bounds-thirds-steps c).In-loop-i, here_low (goal.at.bounds-thirds-steps c).In-loop-i)

pub loop-i-preserved : goal.loop-i-preserved
loop-i-preserved c =
    let (up, long, sews) = c.loop-i.invariant in (
      omega arith,
      simp length-set long,
      λ g h. rw (here_is (goal.at.loop-i-preserved c).In-loop-i) (sews_more (sews g h) _ (ap (λ (x : ℕ). 48 * (c.args.r / 48) + x) (to_is (goal.at.loop-i-preserved c).In-loop-i) ∙ sym (h c.loop-i.i (omega arith)))
          (let low = here_low (goal.at.loop-i-preserved c).In-loop-i in omega arith)),
    )

pub returns : goal.returns
returns c =
    let l = c.loop-i in
    let all : l.i ≡ 8 = omega arith in
    λ g h. rw all at (l.invariant.2 g h)
