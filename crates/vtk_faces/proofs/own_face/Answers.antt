-- `vtk_faces::own_face` meets its contract.
use Prim.Native.Nat.{ℕ, ◌+◌, ◌<◌}
use mathlib.Core.Path.{◌≡◌, ap, ◌∙◌, subst}
use mathlib.Core.List.{List}
use native.Mathlib.Omega.{arith}
use Rattle.vtk_faces.specs.Faces.{four, held_face}
use Rattle.vtk_faces.specs.Turns.{turn_back, TurnOf}
use Rattle.vtk_faces.specs.Hashes.{hash_of}
use Rattle.vtk_faces.specs.Chains.{Found}
use Rattle.vtk_faces.proofs.Hashes.{hash_low}
use Rattle.vtk_faces.proofs.Steps.{own_entry, own_none, turn_low, own_met}
use Rattle.vtk_faces.proofs.own_face.Goals as goal
use Rattle.vtk_faces.proofs.own_face.Goals.{After-find-seen, After-turn_of-turn, After-unwrap_or-steps, In-Some}

-- its hash
hashed : (c : After-find-seen) →
    (c.hash-h.result ≡ hash_of (held_face c.args.rows.now c.args.i)) × (c.hash-h.result < 16384)
hashed c =
    let e = c.hash-h.ensures ∙ ap hash_of c.face_at-r.ensures in
    (e, rw e (hash_low _))

pub find-seen-requires : goal.find-seen-requires
find-seen-requires c =
    let fits = c.requires.fits in
    (c.requires.sited, record { m = c.args.i; chains = c.requires.chains; fits = omega arith }, c.hash-h.ensures)

pub offset_bounds-heads-h : goal.offset_bounds-heads-h
offset_bounds-heads-h c = let h = hashed (goal.at.offset_bounds-heads-h c).After-find-seen in omega arith

pub bounds-heads-h : goal.bounds-heads-h
bounds-heads-h c =
    let h = hashed (goal.at.bounds-heads-h c).After-find-seen in
    let long = c.requires.chains.heads_long in
    omega arith

pub offset_bounds-heads-h-2 : goal.offset_bounds-heads-h-2
offset_bounds-heads-h-2 c = let h = hashed (goal.at.offset_bounds-heads-h-2 c).After-find-seen in omega arith

pub bounds-heads-h-2 : goal.bounds-heads-h-2
bounds-heads-h-2 c =
    let h = hashed (goal.at.bounds-heads-h-2 c).After-find-seen in
    let long = c.requires.chains.heads_long in
    omega arith

pub returns-in_default : goal.returns-in_default
returns-in_default c =
    let rows = c.args.rows.now in
    let found = subst (λ (r : List ℕ). Found (held_face rows) c.args.i r 0) c.face_at-r.ensures (c.in_default.ensures c.args.i c.requires.chains) in
    own_none _ _ _ _ _ _ c.requires _ (hashed (goal.at.returns-in_default c).After-find-seen).0 found

-- the face at the position p has the same four vertices
found : (c : In-Some) →
    let s = c.args in
    Found (held_face s.rows.now) s.i (held_face s.rows.now s.i) (c.in-Some.p + 1)
found c =
    let rows = c.args.rows.now in
    subst (λ (r : List ℕ). Found (held_face rows) c.args.i r (c.in-Some.p + 1)) c.face_at-r.ensures
    (c.in-Some.ensures c.args.i c.requires.chains)

few : (c : In-Some) → c.in-Some.p < 8190
few c = let low = (found c).low in let few = c.requires.few in omega arith

-- how it is turned
turned : (c : After-turn_of-turn) → TurnOf (four c.face_at.result) (held_face c.args.rows.now c.args.i) c.turn_of-turn.result
turned c =
    subst (λ (r : List ℕ). TurnOf (four c.face_at.result) r c.turn_of-turn.result) c.face_at-r.ensures c.turn_of-turn.ensures

steps_low : (c : After-unwrap_or-steps) → c.unwrap_or-steps.result < 8
steps_low c =
    rw c.unwrap_or-steps.ensures
    (turn_low _ _ _ _ _ _ c.requires _ _ c.face_at.ensures _ (turned (goal.at.After-unwrap_or-steps c).After-turn_of-turn))

pub face_at-requires : goal.face_at-requires
face_at-requires c =
    let low = (found c).low in
    let fits = c.requires.fits in
    (c.requires.sited, omega arith)

pub turn_back-requires : goal.turn_back-requires
turn_back-requires c = let low = steps_low (goal.at.turn_back-requires c).After-unwrap_or-steps in omega arith

pub meet-met-requires : goal.meet-met-requires
meet-met-requires c = (own_entry _ _ _ _ _ _ c.requires _ (found (goal.at.meet-met-requires c).In-Some)).0

pub overflow_add-mates-2 : goal.overflow_add-mates-2
overflow_add-mates-2 c = let low = few (goal.at.overflow_add-mates-2 c).In-Some in omega arith

pub overflow_cast-mates : goal.overflow_cast-mates
overflow_cast-mates c = let low = few (goal.at.overflow_cast-mates c).In-Some in omega arith

pub overflow_mul-mates : goal.overflow_mul-mates
overflow_mul-mates c = let low = few (goal.at.overflow_mul-mates c).In-Some in omega arith

pub overflow_add-mates-3 : goal.overflow_add-mates-3
overflow_add-mates-3 c =
    let low = few (goal.at.overflow_add-mates-3 c).In-Some in
    let steps = steps_low (goal.at.overflow_add-mates-3 c).After-unwrap_or-steps in
    omega arith

pub returns : goal.returns
returns c =
    let (back, low) = c.turn_back.ensures in
    rw c.unwrap_or-steps.ensures
    (own_met _ _ _ _ _ _ c.requires _ _ c.face_at.ensures _ (turned (goal.at.returns c).After-turn_of-turn) _ _ _ _ (hashed (goal.at.returns c).After-find-seen).0
    (found (goal.at.returns c).In-Some) (back ∙ ap turn_back c.unwrap_or-steps.ensures) low (rw c.is_some.ensures at c.meet-met.ensures))
