-- `numbering::swap_first` meets its contract.
use mathlib.Core.Path.{◌∙◌}
use native.Mathlib.Omega.{arith}
use Rattle.numbering.proofs.Orders.{orders_solid, orders_flat, second_low, second_other, swap_first_three, swap_first_flat}
use Rattle.numbering.proofs.swap_first.Goals as goal

pub order_of-requires : goal.order_of-requires
order_of-requires c =
    let six = orders_solid c.args.n c.if-n-eq3.true in
    rw c.second_axis.ensures (second_low c.args.order (omega arith), omega arith, second_other c.args.order (omega arith))

pub overflow_sub-result : goal.overflow_sub-result
overflow_sub-result c = let two = orders_flat c.args.n c.if-n-eq3.false in omega arith

pub returns-then-n-eq3 : goal.returns-then-n-eq3
returns-then-n-eq3 c =
    let six = orders_solid c.args.n c.if-n-eq3.true in
    c.order_of.ensures
    ∙ rw (c.second_axis.ensures, c.if-n-eq3.true) (swap_first_three c.args.order (omega arith))

pub returns-else-n-eq3 : goal.returns-else-n-eq3
returns-else-n-eq3 c = swap_first_flat c.args.n c.args.order c.if-n-eq3.false
