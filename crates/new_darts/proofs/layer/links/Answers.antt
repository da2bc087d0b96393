-- `new_darts::layer::links` meets its contract.
use mathlib.Core.Path.{◌≡◌}
use native.Mathlib.Omega.{arith}
use Rattle.new_darts.proofs.LayerRoles.{some_role}
use Rattle.new_darts.proofs.layer.links.Goals as goal
use Rattle.new_darts.proofs.layer.links.Goals.{Else-role-eq1}

-- the role that is left
last : (c : Else-role-eq1) → c.args.role ≡ 2
last c =
    let R = c.requires.is in
    let low = R.low in
    let three = R.inserts.table.dim.1 in
    omega arith

pub p_links-requires : goal.p_links-requires
p_links-requires c = some_role c.if-role-eq0.true c.requires

pub q_links-requires : goal.q_links-requires
q_links-requires c = some_role c.if-role-eq1.true c.requires

pub r_links-requires : goal.r_links-requires
r_links-requires c = some_role (last c) c.requires

pub returns-then-role-eq0 : goal.returns-then-role-eq0
returns-then-role-eq0 c = λ m R. let e = c.if-role-eq0.true in rw e (c.p_links.ensures m (rw e at R))

pub returns-then-role-eq1 : goal.returns-then-role-eq1
returns-then-role-eq1 c = λ m R. let e = c.if-role-eq1.true in rw e (c.q_links.ensures m (rw e at R))

pub returns-else-role-eq1 : goal.returns-else-role-eq1
returns-else-role-eq1 c = λ m R. let e = last (goal.at.returns-else-role-eq1 c).Else-role-eq1 in rw e (c.r_links.ensures m (rw e at R))
