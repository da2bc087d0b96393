use Prim.Native.Nat.{ℕ}
use mathlib.Core.Path.{sym, ap, ◌∙◌}
use native.Mathlib.Omega.{arith}
use lib.ListN.{get_or}
use Rattle.model.specs.Lists.{ones}
use Rattle.model.specs.Table.{link}
use Rattle.model.specs.Split.{crosses}
use Rattle.theorems.proofs.Lists.Scan.{test, if_eq, if_lt}
use Rattle.theorems.proofs.Sets.Closure.{marked_in}
use Rattle.theorems.proofs.Layers.Sheet.{crosses_some}
use Rattle.call_split.proofs.Ones.{clear_unmarked}
use Rattle.call_split.proofs.crosses.Goals as goal
use Rattle.call_split.proofs.crosses.Goals.{then-marks-x-eq1+else-marks-link_in-eq1, else-marks-x-eq1}

pub loop-x-init : goal.loop-x-init
loop-x-init c k low m q = clear_unmarked c.skip_clear-x.ensures k (omega arith) low m

pub overflow_cast-x : goal.overflow_cast-x
overflow_cast-x c =
    let few = c.requires.few in
    omega arith

pub link_in-requires : goal.link_in-requires
link_in-requires c =
    c.requires.slot _ c.if-marks-x-eq1.true

pub bounds-marks-link_in : goal.bounds-marks-link_in
bounds-marks-link_in c =
    let inside = c.requires.leads _ c.if-marks-x-eq1.true in
    let is = c.link_in.ensures in
    omega arith

pub returns-then-marks-link_in-eq1 : goal.returns-then-marks-link_in-eq1
returns-then-marks-link_in-eq1 c =
    let a = c.args in
    sym ((crosses_some a.table.now a.marks.now).1
    (c.loop-x.x, c.if-marks-x-eq1.true, ap (λ (y : ℕ). get_or a.marks.now y 0) (sym c.link_in.ensures) ∙ c.if-marks-link_in-eq1.true))

pub skip_clear-x-requires-in-loop-x : goal.skip_clear-x-requires-in-loop-x
skip_clear-x-requires-in-loop-x c = let low = c.loop-x-test.true in omega arith

pub loop-x-smaller : goal.loop-x-smaller
loop-x-smaller c =
    let low = c.loop-x-test.true in
    let on = c.skip_clear-x-in-loop-x.ensures.onward in
    omega arith

pub loop-x-preserved : goal.loop-x-preserved
loop-x-preserved c k low m q =
    let a = c.args in
    if_lt k c.loop-x.x (λ b. c.loop-x.invariant k b m q) (λ b.
    if_eq k c.loop-x.x
    (λ e. elim c.if-marks-x-eq1.branch [
      | then-marks-x-eq1+else-marks-link_in-eq1 w ↦ w.if-marks-link_in-eq1.false
          (ap (λ (y : ℕ). get_or a.marks.now y 0) (w.link_in.ensures ∙ ap (link a.table.now 1) (sym e)) ∙ q)
      | else-marks-x-eq1 w ↦ w.if-marks-x-eq1.false (ap (λ (y : ℕ). get_or a.marks.now y 0) (sym e) ∙ m)
    ])
    (λ e. clear_unmarked c.skip_clear-x-in-loop-x.ensures k (omega arith) low m))

pub returns : goal.returns
returns c =
    let a = c.args in
    let end = c.loop-x-test.false in
    sym (test (crosses a.table.now a.marks.now (ones a.marks.now))
    (λ h.
    let (g, m, q) = (crosses_some a.table.now a.marks.now).0 h in
    let low = marked_in a.marks.now g m in
    absurd (c.loop-x.invariant g (omega arith) m q))
    (λ h. h))
