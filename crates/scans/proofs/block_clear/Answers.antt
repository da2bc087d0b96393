use mathlib.Core.Path.{sym, ◌∙◌}
use Prim.Native.Nat.{◌+◌, ◌-◌}
use borrow.Author.Tests.{eqb-true}
use native.Mathlib.Omega.{arith}
use Rattle.scans.proofs.Skips.{clear_more, or_clear, slice_at, slice_long}
use Rattle.scans.proofs.block_clear.Goals as goal

pub loop-mark-preserved : goal.loop-mark-preserved
loop-mark-preserved c e =
    let m = c.args.marks.now in
    let zero = or_clear _ _ e in
    let at = sym (slice_at m c.args.x _ c.loop-mark.mark-index c.loop-mark-test.true) ∙ zero.1 in
    λ z from to. clear_more m _ _ (c.loop-mark.invariant zero.0) at z from (omega arith)

pub returns : goal.returns
returns c = λ e z low high.
    let x = c.args.x in
    let long = slice_long c.args.marks.now x (x + 32 - x) (omega arith) in
    c.loop-mark.invariant (eqb-true _ _ e) z low (omega (arith, c.loop-mark-test.false))
