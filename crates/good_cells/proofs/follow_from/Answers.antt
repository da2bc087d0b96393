-- `good_cells::follow_from` meets its contract.
use mathlib.Core.Path.{refl, ◌∙◌}
use mathlib.Core.Bool.{◌||◌}
use lib.Dec.{ltb}
use Rattle.std.proofs.Common.{rules, tests, ◌-◌}
use Rattle.std.proofs.lemmas.Iterator.{YieldsList-from_range}
use Rattle.std.proofs.lemmas.Iterator.Search.{all_from_yields_List}
use Rattle.model.specs.Numbering.{corners}
use Rattle.numbering.specs.Orders.{next_vertex, place_of}
use Rattle.good_cells.specs.Good.{follows_at, follow_from}
use Rattle.good_cells.proofs.Ranges.{ranged_from}
use Rattle.good_cells.proofs.follow_from.Goals as goal

pub returns : goal.returns
unfolding follow_from
returns c =
    let a = c.args in
    all_from_yields_List (λ s. ltb (next_vertex a.n a.i a.order s) s || follows_at a.n a.table.now a.cell.now a.i (place_of a.n a.order s)) _ _ c.all.result c.all.ensures.ran
    (YieldsList-from_range a.first (corners a.n) (corners a.n - a.first) (cc) refl) (λ x b q k. search (rules, tests))
    ∙ ranged_from _ a.first (corners a.n)
