use Prim.Native.Nat.{ℕ, ◌+◌, ◌-◌, ◌≤◌, ◌<◌}
use mathlib.Core.Path.{◌≡◌, sym, ap, ◌∙◌}
use mathlib.Core.List.{List}
use native.Mathlib.Omega.{arith}
use lib.ListN.{length}
use Rattle.model.specs.Faces.{same_four}
use Rattle.vtk_faces.specs.Faces.{four, held_face}
use Rattle.vtk_faces.proofs.Hashes.{hash_low}
use Rattle.vtk_faces.proofs.Held.{held_long}
use Rattle.vtk_faces.proofs.Chains.{looked_first, looked_next, looked_found, looked_none, next_less}
use Rattle.vtk_faces.proofs.Chained.find.Goals as goal
use Rattle.vtk_faces.proofs.Chained.find.Goals.{After-same_four, At-loop-e, Start}

-- the hash is one of a head
low : (s : Start) → s.args.h < 16384
low s = rw s.requires.2 (hash_low (four s.args.r))

some : (rows : List ℕ) (p : ℕ) → 0 < length (held_face rows p)
some rows p = let long = held_long rows p in omega arith

-- the entry is that of a face
entry : (l : At-loop-e) → l.loop-e.e ≤ l.requires.1.m
entry l = let C = l.requires.1 in (l.loop-e.invariant C.m C.chains).low

-- it has the same four vertices
test : (c : After-same_four) →
    c.same_four.result ≡ same_four (held_face c.args.self.now.rows.now (c.loop-e.e - 1)) (four c.args.r)
test c =
    c.same_four.ensures ∙ ap (λ (f : List ℕ). same_four f (four c.args.r)) c.face_at.ensures

pub offset_bounds-self-h : goal.offset_bounds-self-h
offset_bounds-self-h c = let l = low (goal.at.offset_bounds-self-h c).Start in omega arith

pub bounds-self-h : goal.bounds-self-h
bounds-self-h c =
    let l = low (goal.at.bounds-self-h c).Start in
    let long = c.requires.1.chains.heads_long in
    omega arith

pub loop-e-init : goal.loop-e-init
loop-e-init c = λ m C.
    looked_first (held_face c.args.self.now.rows.now) (some c.args.self.now.rows.now) (four c.args.r) (omega arith) m c.args.h
    c.requires.2 c.args.self.now.heads.now c.args.self.now.nexts.now C (low (goal.at.loop-e-init c).Start)

pub face_at-requires : goal.face_at-requires
face_at-requires c =
    let e = entry (goal.at.face_at-requires c).At-loop-e in
    let fits = c.requires.1.fits in
    (c.requires.0, omega arith)

pub returns-then-same_four : goal.returns-then-same_four
returns-then-same_four c = λ m C.
    let entry_is : c.loop-e.e - 1 + 1 ≡ c.loop-e.e = omega arith in
    rw entry_is (looked_found (held_face c.args.self.now.rows.now) (some c.args.self.now.rows.now) (four c.args.r) (omega arith) m c.args.h
    c.requires.2 c.loop-e.e (c.loop-e.invariant m C) (sym (test (goal.at.returns-then-same_four c).After-same_four) ∙ c.if-same_four.true) (omega arith))

pub offset_bounds-self-e : goal.offset_bounds-self-e
offset_bounds-self-e c =
    let e = entry (goal.at.offset_bounds-self-e c).At-loop-e in
    let long = c.requires.1.chains.nexts_long in
    omega arith

pub bounds-self-e : goal.bounds-self-e
bounds-self-e c =
    let e = entry (goal.at.bounds-self-e c).At-loop-e in
    let long = c.requires.1.chains.nexts_long in
    omega arith

pub loop-e-smaller : goal.loop-e-smaller
loop-e-smaller c =
    let C = c.requires.1 in
    next_less (held_face c.args.self.now.rows.now) (some c.args.self.now.rows.now) (four c.args.r) (omega arith) C.m c.args.h
    c.requires.2 c.args.self.now.heads.now c.args.self.now.nexts.now C.chains c.loop-e.e (entry (goal.at.loop-e-smaller c).At-loop-e) (omega arith)

pub loop-e-preserved : goal.loop-e-preserved
loop-e-preserved c = λ m C.
    looked_next (held_face c.args.self.now.rows.now) (some c.args.self.now.rows.now) (four c.args.r) (omega arith) m c.args.h
    c.requires.2 c.args.self.now.heads.now c.args.self.now.nexts.now C c.loop-e.e (c.loop-e.invariant m C) (omega arith)
    (sym (test (goal.at.loop-e-preserved c).After-same_four) ∙ c.if-same_four.false)

pub returns : goal.returns
returns c = λ m C.
    looked_none (held_face c.args.self.now.rows.now) (some c.args.self.now.rows.now) (four c.args.r) (omega arith) m c.args.h
    c.requires.2 c.loop-e.e (c.loop-e.invariant m C) c.loop-e-test.false
