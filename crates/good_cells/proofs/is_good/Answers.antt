-- `good_cells::is_good` meets its contract.
use mathlib.Core.Path.{sym, ◌∙◌}
use native.Mathlib.Omega.{arith}
use Rattle.theorems.proofs.Lists.Scan.{clash}
use Rattle.theorems.proofs.Maps.Dim.{size_some}
use Rattle.good_cells.proofs.Tested.{given_listing, wrong_link, wrong_again, good_by}
use Rattle.good_cells.proofs.is_good.Goals as goal
use Rattle.good_cells.proofs.is_good.Goals.{then-all_follow, else-all_follow}

pub all_follow-requires : goal.all_follow-requires
all_follow-requires g c = let p = c.requires in given_listing p.0 _ p.1

pub only_first-requires : goal.only_first-requires
only_first-requires g c =
    let p = c.requires in
    let long = (given_listing p.0 _ p.1).long in
    let some = size_some g.row.N p.0.table.dim in
    omega arith

pub all_straight-requires : goal.all_straight-requires
all_straight-requires g c = let p = c.requires in given_listing p.0 _ p.1

pub returns-then-only_first : goal.returns-then-only_first
returns-then-only_first g c =
    let p = c.requires in
    elim c.if-all_follow.branch [
      | then-all_follow w ↦
          good_by p.0 _ p.1 _ (sym w.if-all_follow.true ∙ c.all_follow.ensures) (sym c.if-only_first.true ∙ w.value-is ∙ w.only_first.ensures) c.all_straight.ensures
      | else-all_follow w ↦ absurd (clash c.if-only_first.true (w.value-is ∙ w.if-all_follow.false))
    ]

pub returns-else-only_first : goal.returns-else-only_first
returns-else-only_first g c =
    let p = c.requires in
    elim c.if-all_follow.branch [
      | then-all_follow w ↦ c.if-only_first.false ∙ wrong_again p.0 _ p.1 (sym c.if-only_first.false ∙ w.value-is ∙ w.only_first.ensures)
      | else-all_follow w ↦ c.if-only_first.false ∙ wrong_link p.0 _ p.1 (sym w.if-all_follow.false ∙ c.all_follow.ensures)
    ]
