-- `block_test::in_wrong_cell` meets its contract.
use mathlib.Core.Path.{◌≡◌, refl, sym, ◌∙◌}
use mathlib.Core.Bool.{true}
use native.Mathlib.Omega.{arith}
use Rattle.model.specs.Table.{live}
use Rattle.model.specs.Cell.{cell_size}
use Rattle.theorems.proofs.Maps.Rules.{live_by}
use Rattle.block_test.proofs.Seen.{unused_right, visit_ready, visit_answers}
use Rattle.block_test.proofs.in_wrong_cell.Goals as goal
use Rattle.block_test.proofs.in_wrong_cell.Goals.{Else-link_in, Else-n-eq2}

pub returns-then-seen-d-ne0 : goal.returns-then-seen-d-ne0
returns-then-seen-d-ne0 c =
    record { value = sym (c.requires.1.good c.args.d c.requires.2 c.if-seen-d-ne0.true); seen_good = c.requires.1 }

pub returns-then-link_in : goal.returns-then-link_in
returns-then-link_in c =
    record { value = sym (unused_right c.requires.0 c.args.d (sym c.link_in.ensures ∙ c.if-link_in.true)); seen_good = c.requires.1 }

-- behind the two tests d is live
lives : (c : Else-link_in) → live c.args.table.now c.args.d ≡ true
lives c = live_by _ _ (λ e. c.if-link_in.false (c.link_in.ensures ∙ e))

-- and where n is not 2 it is 3
solid : (c : Else-n-eq2) → c.args.n ≡ 3
solid c =
    let dim = c.requires.0.dim in
    let not_flat = c.if-n-eq2.false in
    omega arith

pub visit-requires : goal.visit-requires
unfolding cell_size
visit-requires c =
    let ready = visit_ready _ _ c.if-n-eq2.true (lives (goal.at.visit-requires c).Else-link_in) c.requires.0 c.requires.1 in
    (ready.0, ready.1, refl)

pub returns-then-n-eq2 : goal.returns-then-n-eq2
returns-then-n-eq2 c =
    let clauses = visit_answers _ _ c.if-n-eq2.true (lives (goal.at.returns-then-n-eq2 c).Else-link_in) _ (c.visit.ensures.value, c.visit.ensures.seen_good) in
    record { value = clauses.0; seen_good = clauses.1 }

pub visit-requires-2 : goal.visit-requires-2
unfolding cell_size
visit-requires-2 c =
    let ready = visit_ready _ _ (solid (goal.at.visit-requires-2 c).Else-n-eq2) (lives (goal.at.visit-requires-2 c).Else-link_in) c.requires.0 c.requires.1 in
    (ready.0, ready.1, refl)

pub returns : goal.returns
returns c =
    let clauses = visit_answers _ _ (solid (goal.at.returns c).Else-n-eq2) (lives (goal.at.returns c).Else-link_in) _ (c.visit-2.ensures.value, c.visit-2.ensures.seen_good) in
    record { value = clauses.0; seen_good = clauses.1 }
