-- `good_cells::all_follow` meets its contract.
use mathlib.Core.Path.{◌≡◌, sym, ◌∙◌}
use mathlib.Core.Bool.{true}
use native.Mathlib.Omega.{arith}
use borrow.Author.Tests.{eq-eqb, ne_eqb}
use Rattle.numbering.proofs.Orders.{orders_some, orders_solid}
use Rattle.good_cells.specs.Good.{follow_from, all_follow}
use Rattle.good_cells.proofs.all_follow.Goals as goal
use Rattle.good_cells.proofs.all_follow.Goals.{Else-n-eq2, Then-follow_from}

pub follow_from-requires : goal.follow_from-requires
follow_from-requires c =
    let dim = c.requires.table.dim in
    (c.requires, orders_some c.args.n, omega arith)

-- the test along x is passed
passed : (c : Then-follow_from) → let a = c.args in follow_from a.n a.table.now a.cell.now 0 0 2 ≡ true
passed c = sym c.follow_from.ensures ∙ c.if-follow_from.true

solid : (c : Else-n-eq2) → c.args.n ≡ 3
solid c =
    let other = c.if-n-eq2.false in
    let dim = c.requires.table.dim in
    omega arith

pub follow_from-requires-else-n-eq2 : goal.follow_from-requires-else-n-eq2
follow_from-requires-else-n-eq2 c =
    let three = solid c in
    let six = orders_solid c.args.n three in
    (c.requires, omega arith, omega arith)

pub follow_from-requires-then-follow_from-2 : goal.follow_from-requires-then-follow_from-2
follow_from-requires-then-follow_from-2 c =
    let three = solid (goal.at.follow_from-requires-then-follow_from-2 c).Else-n-eq2 in
    let six = orders_solid c.args.n three in
    (c.requires, omega arith, omega arith)

pub returns-then-n-eq2 : goal.returns-then-n-eq2
unfolding all_follow
returns-then-n-eq2 c = rw (passed (goal.at.returns-then-n-eq2 c).Then-follow_from, eq-eqb _ 2 c.if-n-eq2.true)

pub returns-then-follow_from-2 : goal.returns-then-follow_from-2
unfolding all_follow
returns-then-follow_from-2 c =
    rw (passed (goal.at.returns-then-follow_from-2 c).Then-follow_from, ne_eqb _ 2 c.if-n-eq2.false, sym c.follow_from-else-n-eq2.ensures ∙ c.if-follow_from-2.true)
    c.follow_from-then-follow_from-2.ensures

pub returns-else-follow_from-2 : goal.returns-else-follow_from-2
unfolding all_follow
returns-else-follow_from-2 c =
    rw (passed (goal.at.returns-else-follow_from-2 c).Then-follow_from, ne_eqb _ 2 c.if-n-eq2.false, sym c.follow_from-else-n-eq2.ensures ∙ c.if-follow_from-2.false)
    c.if-follow_from-2.false

pub returns-else-follow_from : goal.returns-else-follow_from
unfolding all_follow
returns-else-follow_from c = rw (sym c.follow_from.ensures, c.if-follow_from.false)
