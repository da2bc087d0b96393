use mathlib.Core.Path.{sym, ◌∙◌}
use native.Mathlib.Omega.{arith}
use borrow.Author.Count.{below_none, below_more}
use Rattle.theorems.proofs.Calls.Pass.{dim_pass}
use Rattle.reading.proofs.Passed.{table_passed, table_short}
use Rattle.reading.proofs.Neighbours.{near_map, broken_map}
use Rattle.reading.proofs.is_map.Goals as goal

pub slots-end-requires : goal.slots-end-requires
slots-end-requires c = table_short _ c.requires.1

pub loop-d-init : goal.loop-d-init
loop-d-init c = (omega arith, below_none _)

pub keeps_near-requires : goal.keeps_near-requires
keeps_near-requires c =
    record { n_value = (c.requires.0, table_passed c.args.table.now c.requires.1); end_value = (c.slots-end.ensures, omega arith) }

pub returns-then-not-keeps_near : goal.returns-then-not-keeps_near
returns-then-not-keeps_near c =
    let a = c.args in
    sym (broken_map a.n a.table.now (dim_pass a.n c.requires.0) (table_passed a.table.now c.requires.1) c.loop-d.d
    (sym c.keeps_near.ensures ∙ c.if-not-keeps_near.true))

pub overflow_step-d : goal.overflow_step-d
overflow_step-d c =
    let few = (table_passed c.args.table.now c.requires.1).few in
    omega (arith, c.slots-end.ensures)

pub loop-d-smaller : goal.loop-d-smaller
loop-d-smaller c = omega arith

pub loop-d-preserved : goal.loop-d-preserved
loop-d-preserved c =
    let kept = sym c.keeps_near.ensures ∙ c.if-not-keeps_near.false in
    (omega arith, below_more _ _ c.loop-d.invariant.1 kept)

pub returns : goal.returns
returns c =
    let a = c.args in
    sym (near_map a.n a.table.now (dim_pass a.n c.requires.0) (table_passed a.table.now c.requires.1)
    (λ k h. c.loop-d.invariant.1 k (omega (arith, c.slots-end.ensures))))
