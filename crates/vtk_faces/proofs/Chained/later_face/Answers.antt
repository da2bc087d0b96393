-- `vtk_faces::Chained::later_face` meets its contract.
use Prim.Native.Nat.{ℕ, ◌+◌, ◌-◌}
use mathlib.Core.Path.{◌≡◌, sym, ap, ◌∙◌}
use mathlib.Core.Bool.{true}
use mathlib.Core.List.{List}
use native.Mathlib.Omega.{arith}
use Rattle.model.specs.Faces.{same_order}
use Rattle.vtk_faces.specs.Faces.{four}
use Rattle.vtk_faces.proofs.Judging.{met_none}
use Rattle.vtk_faces.proofs.Later.{later_entry, later_stepped}
use Rattle.vtk_faces.proofs.Chained.later_face.Goals as goal

pub returns-in_default : goal.returns-in_default
returns-in_default c = λ F m i L.
    later_stepped F m i _ _ _ _ _ L 0 (c.in_default.ensures m L.chained.chains) _ true _ (λ on. absurd (omega arith)) (met_none true 65535 _)

pub face_at-requires : goal.face_at-requires
face_at-requires c =
    let L = c.requires.1 in
    let held = (later_entry _ _ _ _ _ _ _ _ L.is _ (c.in-Some.ensures L.m L.is.chained.chains)).1 (omega arith) in
    (c.requires.0, omega arith)

pub meet-requires : goal.meet-requires
meet-requires c =
    let L = c.requires.1 in
    (later_entry _ _ _ _ _ _ _ _ L.is _ (c.in-Some.ensures L.m L.is.chained.chains)).0

pub returns : goal.returns
returns c = λ F m i L.
    let p = c.in-Some.p in
    let same : p + 1 - 1 ≡ p = omega arith in
    later_stepped F m i _ _ _ _ _ L _ (c.in-Some.ensures m L.chained.chains) _ _ _
    (λ _. rw same (c.is_some.ensures ∙ sym c.turn_of-turn.ensures.order ∙ ap (λ (s : List ℕ). same_order s (four c.args.r)) c.face_at.ensures)) c.meet.ensures
