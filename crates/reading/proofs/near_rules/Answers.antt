-- `reading::near_rules` meets its contract.
use native.Mathlib.Omega.{arith}
use Rattle.reading.specs.Near.{turned, commutes, near_rules}
use Rattle.reading.proofs.Rules.{rules_flat, rules_solid}
use Rattle.reading.proofs.near_rules.Goals as goal

pub link_in-requires : goal.link_in-requires
link_in-requires c = omega arith

pub link_in-requires-2 : goal.link_in-requires-2
link_in-requires-2 c = omega arith

pub link_in-requires-3 : goal.link_in-requires-3
link_in-requires-3 c = omega arith

pub link_in-requires-4 : goal.link_in-requires-4
link_in-requires-4 c = omega arith

pub link_in-requires-5 : goal.link_in-requires-5
link_in-requires-5 c = omega arith

pub link_in-requires-6 : goal.link_in-requires-6
link_in-requires-6 c = omega arith

pub link_in-requires-else-n-eq2 : goal.link_in-requires-else-n-eq2
link_in-requires-else-n-eq2 c = omega arith

pub link_in-requires-else-n-eq2-2 : goal.link_in-requires-else-n-eq2-2
link_in-requires-else-n-eq2-2 c = omega arith

pub link_in-requires-else-n-eq2-3 : goal.link_in-requires-else-n-eq2-3
link_in-requires-else-n-eq2-3 c = omega arith

pub link_in-requires-else-n-eq2-4 : goal.link_in-requires-else-n-eq2-4
link_in-requires-else-n-eq2-4 c = omega arith

pub returns-then-n-eq2 : goal.returns-then-n-eq2
unfolding near_rules turned commutes
returns-then-n-eq2 c =
    let a = c.args in
    let row = c.requires.1 in
    rw (c.link_in.ensures, c.link_in-2.ensures, c.link_in-3.ensures, c.link_in-4.ensures)
    (rw (c.link_in-5.ensures, c.link_in-6.ensures, row.a_is, row.b_is, row.c_is, row.e_is)
    (rules_flat a.n (turned a.table.now a.d) (commutes a.table.now a.d) _ c.if-n-eq2.true))

pub returns-else-n-eq2 : goal.returns-else-n-eq2
unfolding near_rules turned commutes
returns-else-n-eq2 c =
    let a = c.args in
    let row = c.requires.1 in
    rw (c.link_in.ensures, c.link_in-2.ensures, c.link_in-3.ensures, c.link_in-4.ensures)
    (rw (c.link_in-5.ensures, c.link_in-6.ensures, c.link_in-else-n-eq2.ensures, c.link_in-else-n-eq2-2.ensures)
    (rw (c.link_in-else-n-eq2-3.ensures, c.link_in-else-n-eq2-4.ensures, row.a_is, row.b_is, row.c_is, row.e_is)
    (rules_solid a.n (turned a.table.now a.d) (commutes a.table.now a.d) _ c.if-n-eq2.false)))
