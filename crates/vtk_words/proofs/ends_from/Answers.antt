use Prim.Native.Nat.{◌≤◌}
use mathlib.Core.Path.{◌≡◌}
use native.Mathlib.Omega.{arith}
use Rattle.vtk_words.proofs.Passing.{ends_one, ends_none, ends_more}
use Rattle.vtk_words.proofs.ends_from.Goals as goal

pub loop-i-init : goal.loop-i-init
loop-i-init c = (omega arith, ends_none _ _)

pub overflow_add-at : goal.overflow_add-at
overflow_add-at c = omega arith

pub bounds-text-at : goal.bounds-text-at
bounds-text-at c = omega arith

pub overflow_add-at-in-loop-i : goal.overflow_add-at-in-loop-i
overflow_add-at-in-loop-i c = omega arith

pub overflow_add-at-in-loop-i-2 : goal.overflow_add-at-in-loop-i-2
overflow_add-at-in-loop-i-2 c = omega arith

pub bounds-text-at-in-loop-i : goal.bounds-text-at-in-loop-i
bounds-text-at-in-loop-i c = omega arith

pub overflow_add-n : goal.overflow_add-n
overflow_add-n c = let one : c.is_end-n.result ≤ 1 = rw c.is_end-n.ensures (ends_one _ _) in omega arith

pub overflow_step-i : goal.overflow_step-i
overflow_step-i c = omega arith

pub loop-i-smaller : goal.loop-i-smaller
loop-i-smaller c = omega arith

pub loop-i-preserved : goal.loop-i-preserved
loop-i-preserved c =
    let a = c.args in
    (omega arith, rw c.is_end-n.ensures (ends_more a.text.now a.at c.loop-i.i c.loop-i.n (omega arith) c.loop-i.invariant.1))

pub returns : goal.returns
returns c =
    let all : c.loop-i.i ≡ 64 = omega arith in
    rw all at c.loop-i.invariant.1
