-- `new_darts::split::links` meets its contract.
use mathlib.Core.Path.{◌≡◌}
use native.Mathlib.Omega.{arith}
use Rattle.new_darts.proofs.SplitRoles.{some_role}
use Rattle.new_darts.proofs.split.links.Goals as goal
use Rattle.new_darts.proofs.split.links.Goals.{Else-role-eq1}

-- the role that is left
last : (c : Else-role-eq1) → c.args.role ≡ 2
last c =
    let R = c.requires.is in
    let low = R.low in
    let three = R.splits.dart.table.dim.1 in
    omega arith

pub a_links-requires : goal.a_links-requires
a_links-requires c = some_role c.if-role-eq0.true c.requires

pub b_links-requires : goal.b_links-requires
b_links-requires c = some_role c.if-role-eq1.true c.requires

pub c_links-requires : goal.c_links-requires
c_links-requires c = some_role (last c) c.requires

pub returns-then-role-eq0 : goal.returns-then-role-eq0
returns-then-role-eq0 c = λ d R. let e = c.if-role-eq0.true in rw e (c.a_links.ensures d (rw e at R))

pub returns-then-role-eq1 : goal.returns-then-role-eq1
returns-then-role-eq1 c = λ d R. let e = c.if-role-eq1.true in rw e (c.b_links.ensures d (rw e at R))

pub returns-else-role-eq1 : goal.returns-else-role-eq1
returns-else-role-eq1 c = λ d R. let e = last (goal.at.returns-else-role-eq1 c).Else-role-eq1 in rw e (c.c_links.ensures d (rw e at R))
