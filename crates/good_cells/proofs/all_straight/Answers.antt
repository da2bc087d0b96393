-- `good_cells::all_straight` meets its contract.
use mathlib.Core.Path.{refl, ◌∙◌}
use native.Mathlib.Omega.{arith}
use Rattle.std.proofs.Common.{rules, tests, ◌*◌}
use Rattle.std.proofs.lemmas.Iterator.{YieldsList-from_range}
use Rattle.std.proofs.lemmas.Iterator.Search.{all_from_yields_List}
use Rattle.good_cells.specs.Good.{side_of, is_straight, all_straight}
use Rattle.good_cells.proofs.Ranges.{ranged}
use Rattle.good_cells.proofs.all_straight.Goals as goal

pub returns : goal.returns
unfolding all_straight
returns c =
    let a = c.args in
    all_from_yields_List (λ k. is_straight a.n a.table.now a.cell.now (side_of a.n k)) _ _ c.all.result c.all.ensures.ran
    (YieldsList-from_range 0 (2 * a.n) (2 * a.n) refl (omega arith)) (λ x b q k. search (rules, tests))
    ∙ ranged _ (2 * a.n)
