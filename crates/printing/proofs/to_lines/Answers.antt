use mathlib.Core.Path.{◌≡◌, refl, ◌∙◌}
use Prim.Native.Nat.{◌+◌, ◌-◌}
use native.Mathlib.Omega.{arith}
use Rattle.printing.proofs.Rising.{lines_none, lines_more}
use Rattle.printing.proofs.to_lines.Goals as goal

pub loop-d-init : goal.loop-d-init
loop-d-init c =
    let none : c.args.a - c.args.a ≡ 0 = omega arith in
    (omega arith, omega arith, refl, refl, omega arith, rw none (lines_none _ _ _ _))

pub loop-d-preserved : goal.loop-d-preserved
loop-d-preserved c =
    let g = c.loop-d.invariant in
    let a = c.args in
    let d = c.loop-d.d in
    let here : a.a + (d - a.a) ≡ d = omega arith in
    let more : d + 1 - a.a ≡ d - a.a + 1 = omega arith in (
      omega arith,
      omega arith,
      g.2,
      c.to_line-place.auto.out ∙ g.3,
      omega (arith, c.to_line-place.ensures.1, g.4),
      rw more (lines_more (d - a.a) a.a a.table.now g.5 (rw here c.to_line-place.ensures.0)),
    )

pub returns : goal.returns
returns c =
    let all : c.loop-d.d - c.args.a ≡ c.args.k = omega (arith, c.loop-d.invariant.1, c.loop-d.invariant.2) in
    rw all at c.loop-d.invariant.5
