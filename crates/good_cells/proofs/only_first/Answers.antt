use Prim.Native.Nat.{suc, ◌+◌, ◌<◌}
use mathlib.Core.Path.{◌≡◌, sym, ◌∙◌}
use native.Mathlib.Omega.{arith}
use lib.ListN.{length}
use borrow.Author.Count.{below_more}
use Rattle.theorems.proofs.Lists.Scan.{below_of}
use Rattle.good_cells.specs.Good.{only_first}
use Rattle.good_cells.proofs.Good.{not_all, not_again_first, not_again_lem, again, later_length, later_at}
use Rattle.good_cells.proofs.only_first.Goals as goal
use Rattle.good_cells.proofs.only_first.Goals.{In-loop-x}

pub loop-x-init : goal.loop-x-init
loop-x-init c = (omega arith, λ j h. let first : j ≡ 0 = omega arith in rw first (not_again_first _ _))

low : (c : In-loop-x) → suc c.loop-x.x-index < length c.args.cell.now
low c =
    let long = later_length c.args.d c.args.cell.now in
    let inside = c.loop-x-test.true in
    omega arith

pub returns-then-x-d : goal.returns-then-x-d
unfolding only_first
returns-then-x-d c =
    let there = low (goal.at.returns-then-x-d c).In-loop-x in
    sym (not_all _ _ (suc c.loop-x.x-index) there
    (again _ _ _ (omega arith) (sym (later_at c.args.d _ _ there) ∙ c.if-x-d.true)))

pub loop-x-preserved : goal.loop-x-preserved
loop-x-preserved c =
    let there = low (goal.at.loop-x-preserved c).In-loop-x in
    let next : c.loop-x.x-index + 1 ≡ suc c.loop-x.x-index = omega arith in
    (omega arith, below_more _ _ c.loop-x.invariant.1 (rw next (not_again_lem _ _ _ (λ e. c.if-x-d.false (later_at c.args.d _ _ there ∙ e)))))

pub returns : goal.returns
unfolding only_first
returns c =
    let long = later_length c.args.d c.args.cell.now in
    sym (below_of _ _ (λ k h. c.loop-x.invariant.1 k (omega arith)))
