-- `reading::least_breaking` meets its contract.
use mathlib.Core.Path.{sym, ◌∙◌}
use native.Mathlib.Omega.{arith}
use borrow.Author.Tests.{eqb-true}
use Rattle.model.specs.Table.{slots}
use Rattle.model.specs.Map.{least_breaking, is_map}
use Rattle.reading.proofs.Found.{none_above}
use Rattle.reading.proofs.least_breaking.Goals as goal

pub returns-then-is_map : goal.returns-then-is_map
unfolding is_map
returns-then-is_map c =
    let a = c.args in
    let none = eqb-true _ _ (sym c.is_map.ensures ∙ c.if-is_map.true) in
    none_above (slots a.table.now) (least_breaking a.n a.table.now) (omega arith)
