use mathlib.Core.Path.{◌≡◌}
use Prim.Native.Nat.{◌<◌}
use native.Mathlib.Omega.{arith}
use Rattle.std.proofs.Common.{length-take-le, get_or-take}
use Rattle.sheets.proofs.Marks.{firsts_next}
use Rattle.sheets.proofs.mark_first.Goals as goal

pub loop-x-preserved : goal.loop-x-preserved
loop-x-preserved c =
    let a = c.args in
    let long = length-take-le a.count a.cell.now c.requires.0 in
    let low : c.loop-x.x-index < a.count = let inside = c.loop-x-test.true in omega arith in
    (omega arith, rw (get_or-take a.count a.cell.now c.loop-x.x-index 0 low) (firsts_next c.requires.1 low c.loop-x.invariant.1))

pub returns : goal.returns
returns c =
    let long = length-take-le c.args.count c.args.cell.now c.requires.0 in
    let end : c.loop-x.x-index ≡ c.args.count = omega arith in
    rw end at c.loop-x.invariant.1
