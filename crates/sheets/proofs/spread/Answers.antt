-- `sheets::spread` meets its contract.
use mathlib.Core.Path.{◌≡◌, refl}
use native.Mathlib.Omega.{arith}
use Rattle.model.specs.Cell.{cell_size}
use Rattle.sheets.proofs.Spreading.{begins_same, spread_same}
use Rattle.sheets.proofs.spread.Goals as goal
use Rattle.sheets.proofs.spread.Goals.{Else-n-eq3}

pub spread_listed-requires : goal.spread_listed-requires
unfolding cell_size
spread_listed-requires c =
    (begins_same _ c.if-n-eq3.true c.requires, refl)

flat : (c : Else-n-eq3) → c.args.n ≡ 2
flat c =
    let (two, three) = c.requires.dart.table.dim in
    let other = c.if-n-eq3.false in
    omega arith

pub spread_listed-requires-else-n-eq3 : goal.spread_listed-requires-else-n-eq3
unfolding cell_size
spread_listed-requires-else-n-eq3 c =
    (begins_same _ (flat (goal.at.spread_listed-requires-else-n-eq3 c).Else-n-eq3) c.requires, refl)

pub returns-then-n-eq3 : goal.returns-then-n-eq3
returns-then-n-eq3 c =
    spread_same _ c.if-n-eq3.true c.spread_listed.ensures

pub returns-else-n-eq3 : goal.returns-else-n-eq3
returns-else-n-eq3 c =
    spread_same _ (flat (goal.at.returns-else-n-eq3 c).Else-n-eq3) c.spread_listed-else-n-eq3.ensures
