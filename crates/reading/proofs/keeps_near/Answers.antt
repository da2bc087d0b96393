-- `reading::keeps_near` meets its contract.
use mathlib.Core.Path.{sym, ◌∙◌}
use native.Mathlib.Omega.{arith}
use Rattle.reading.specs.Near.{Row}
use Rattle.theorems.proofs.Calls.Pass.{dim_pass}
use Rattle.reading.proofs.Neighbours.{below, row_range, row_unused, near_in, near_out}
use Rattle.reading.proofs.keeps_near.Goals as goal
use Rattle.reading.proofs.keeps_near.Goals.{After-link_in-e}

pub link_in-a-requires : goal.link_in-a-requires
link_in-a-requires c = omega arith

pub link_in-b-requires : goal.link_in-b-requires
link_in-b-requires c = omega arith

pub link_in-c-requires : goal.link_in-c-requires
link_in-c-requires c = omega arith

pub link_in-e-requires : goal.link_in-e-requires
link_in-e-requires c = omega arith

-- the four values read are the links of d
row : (c₄ : After-link_in-e) →
    let a = c₄.args in
    Row a.table.now a.d c₄.link_in-a.result c₄.link_in-b.result c₄.link_in-c.result c₄.link_in-e.result
row c₄ =
    record {
      a_is = c₄.link_in-a.ensures;
      b_is = c₄.link_in-b.ensures;
      c_is = c₄.link_in-c.ensures;
      e_is = c₄.link_in-e.ensures;
    }

pub near_rules-requires : goal.near_rules-requires
near_rules-requires c =
    (c.requires.n_value.1, row (goal.at.near_rules-requires c).After-link_in-e, below _ _ _ _ _ (rw c.requires.end_value.0 at c.if-a-end.true))

pub returns-then-a-end : goal.returns-then-a-end
returns-then-a-end c =
    let a = c.args in
    let inside = row_range _ _ _ _ _ _ (row (goal.at.returns-then-a-end c).After-link_in-e) _ (rw c.requires.end_value.0 at c.if-a-end.true) in
    c.near_rules.ensures ∙ sym (near_in a.n a.table.now (dim_pass a.n c.requires.n_value.0) c.requires.n_value.1 a.d inside)

pub returns-else-a-end : goal.returns-else-a-end
returns-else-a-end c =
    let a = c.args in
    let below_end = rw c.requires.end_value.0 at c.requires.end_value.1 in
    let outside = row_range _ _ _ _ _ _ (row (goal.at.returns-else-a-end c).After-link_in-e) _ (rw c.requires.end_value.0 at c.if-a-end.false) in
    row_unused _ _ _ _ _ _ (row (goal.at.returns-else-a-end c).After-link_in-e)
    ∙ near_out a.n a.table.now (dim_pass a.n c.requires.n_value.0) c.requires.n_value.1 a.d below_end outside
