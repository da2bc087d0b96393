-- `numbering::next_order` meets its contract.
use mathlib.Core.Path.{◌∙◌}
use native.Mathlib.Omega.{arith}
use borrow.Author.Tests.{eqb-true}
use lib.Dec.{eqb}
use Rattle.theorems.proofs.Lists.Scan.{and_r}
use Rattle.numbering.proofs.Orders.{orders_solid, order_one, order_two, order_rest}
use Rattle.numbering.proofs.next_order.Goals as goal

pub swap_last-requires : goal.swap_last-requires
swap_last-requires c =
    let six = orders_solid c.args.n (eqb-true _ 3 (and_r (eqb c.args.i 2) _ c.if-i-n.true)) in
    omega arith

pub returns-then-i-eq1 : goal.returns-then-i-eq1
returns-then-i-eq1 c = let a = c.args in c.swap_first.ensures ∙ order_one a.n a.i a.order c.if-i-eq1.true

pub returns-then-i-n : goal.returns-then-i-n
returns-then-i-n c =
    let a = c.args in
    c.swap_last.ensures ∙ order_two a.n a.i a.order c.if-i-eq1.false c.if-i-n.true

pub returns-else-i-n : goal.returns-else-i-n
returns-else-i-n c = let a = c.args in order_rest a.n a.i a.order c.if-i-eq1.false c.if-i-n.false
