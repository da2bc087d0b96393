use mathlib.Core.Path.{◌≡◌}
use native.Mathlib.Omega.{arith}
use Rattle.marked_links.proofs.write_some.Goals as goal

pub loop-z-init : goal.loop-z-init
loop-z-init c = let on = c.requires.onward in (omega arith, on, λ v j T. T)

pub write_one-at-requires : goal.write_one-at-requires
write_one-at-requires c =
    let S = c.requires in
    let inside = S.inside in
    let low = c.loop-z-test.true in
    record { v = S.v; j = S.j; met = c.loop-z.invariant.2 _ _ S.met; inside = omega arith }

pub loop-z-smaller : goal.loop-z-smaller
loop-z-smaller c = let low = c.loop-z-test.true in omega arith

pub loop-z-preserved : goal.loop-z-preserved
loop-z-preserved c =
    let on = c.loop-z.invariant.0 in
    let low = c.loop-z-test.true in
    (omega arith, omega arith, λ v j T. c.write_one-at.ensures v j (c.loop-z.invariant.2 v j T))

pub returns : goal.returns
returns c =
    let low = c.loop-z.invariant.1 in
    let past = c.loop-z-test.false in
    let end : c.loop-z.z ≡ c.args.y = omega arith in
    λ v j T. rw end at (c.loop-z.invariant.2 v j T)
