use Prim.Native.Nat.{ℕ, ◌/◌, ◌%◌}
use mathlib.Core.Path.{◌≡◌, ap, ◌∙◌}
use native.Mathlib.Omega.{arith}
use native.Mathlib.Numerals.{add-one}
use lib.ListN.{get_or}
use Rattle.model.specs.Faces.{listed_at, onward, face_darts}
use Rattle.vtk_faces.specs.Faces.{site_at}
use Rattle.vtk_faces.proofs.Places.{turns_on, dart_low, site_low_lem, site_is}
use Rattle.vtk_faces.proofs.site.Goals as goal

pub loop-turn-init : goal.loop-turn-init
unfolding turns_on
loop-turn-init c =
    let e = c.face_dart-k.ensures in
    let low = dart_low c.args.j c.requires in
    (e, omega arith, omega arith)

pub onward-k-requires : goal.onward-k-requires
onward-k-requires c = c.loop-turn.invariant.1

pub loop-turn-preserved : goal.loop-turn-preserved
unfolding turns_on
loop-turn-preserved c =
    let (e, low) = c.onward-k.ensures in
    (rw add-one (e ∙ ap onward c.loop-turn.invariant.0), low, omega arith)

pub returns : goal.returns
returns c =
    let k = get_or face_darts (c.args.j / 4) 0 in
    let high = c.loop-turn.invariant.2 in
    let out = c.loop-turn-test.false in
    let turns : c.loop-turn.turn ≡ c.args.j % 4 = omega arith in
    let is : c.listed.result ≡ site_at c.args.j =
    c.listed.ensures ∙ ap (λ (x : ℕ). listed_at (x % 8)) (c.loop-turn.invariant.0 ∙ ap (λ (n : ℕ). turns_on n k) turns)
    ∙ site_is c.args.j c.requires
    in
    (is, rw is (site_low_lem c.args.j c.requires))
