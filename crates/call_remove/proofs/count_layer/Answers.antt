use Prim.Native.Nat.{◌+◌, ◌<◌}
use mathlib.Core.Path.{◌≡◌}
use native.Mathlib.Omega.{arith}
use lib.ListN.{length}
use lib.Seq.{take_all}
use Rattle.theorems.proofs.Lists.Scan.{clash}
use Rattle.call_remove.proofs.Counting.{Counted, counted_none, counted_zero, counted_three, counted_inner}
use Rattle.call_remove.proofs.Counting.{told_zero, told_three, told_other}
use Rattle.call_remove.proofs.count_layer.Goals as goal
use Rattle.call_remove.proofs.count_layer.Goals.{then-mark, else-mark, then-mark-eq3, else-mark-eq3}
use Rattle.call_remove.proofs.count_layer.Goals.{Joined-mark}

pub loop-mark-init : goal.loop-mark-init
loop-mark-init c = counted_none _

pub overflow_add-edge : goal.overflow_add-edge
overflow_add-edge c =
    let few = c.loop-mark.invariant.few in
    let short = c.requires.0 in
    omega arith

pub overflow_add-darts : goal.overflow_add-darts
overflow_add-darts c =
    let few = c.loop-mark.invariant.few in
    let short = c.requires.0 in
    omega arith

-- the mark at x is counted
more : (c : Joined-mark) →
    Counted c.args.marks.now (c.loop-mark.mark-index + 1) c.if-mark.darts c.if-mark-eq3.edge
more c =
    let marks = c.args.marks.now in
    let low : c.loop-mark.mark-index < length marks = c.loop-mark-test.true in
    let C = c.loop-mark.invariant in
    let most = c.requires.1 c.loop-mark.mark-index low in
    elim c.if-mark-eq3.branch [
      | then-mark-eq3 w ↦
          let at_darts : c.if-mark.darts ≡ c.loop-mark.darts = elim c.if-mark.branch [
            | then-mark v ↦ absurd (clash v.if-mark.true (told_three _ w.if-mark-eq3.true))
            | else-mark v ↦ v.darts-is
          ] in
          rw (w.edge-is, at_darts) (counted_three C low w.if-mark-eq3.true)
      | else-mark-eq3 w ↦ elim c.if-mark.branch [
        | then-mark v ↦
            rw (w.edge-is, v.darts-is)
            (counted_inner C low most w.if-mark-eq3.false (λ e. clash v.if-mark.true (told_zero _ e)))
        | else-mark v ↦
            rw (w.edge-is, v.darts-is) (counted_zero C low (told_other _ w.if-mark-eq3.false v.if-mark.false))
      ]
    ]

pub loop-mark-preserved : goal.loop-mark-preserved
loop-mark-preserved c = more c

pub returns : goal.returns
returns c =
    let C = c.loop-mark.invariant in
    let all = take_all c.loop-mark.mark-index c.args.marks.now (omega arith) in
    let few = C.few in
    (rw all at C.inner, rw all at C.three, omega arith)
