-- The worked orders hold, computed from the definitions: `orders_hold`; and why marks 3 are left out: `touching_moves`.
use Rattle.std.specs.Prelude.{◌≡◌, refl, [], ◌∷◌, ◌++◌, replicate}
use Rattle.model.specs.Lists.{equal}
use Rattle.model.specs.Table.{live_count}
use Rattle.model.specs.Remove.{remove_table}
use Rattle.model.specs.Runs.{begin}
use Rattle.model.specs.Everything.{everything}
use Rattle.model.specs.Meaning.Sheets.{marks_of}
use Rattle.model.specs.Meaning.Worked.{begin_on, sees, sees_all}
use Rattle.several_layers.specs.Worked.{three_quads, apart, parted, in_turn, holds_order, failing_orders, order_row, order_cases}

pub orders_hold : failing_orders order_cases ≡ []
unfolding everything live_count apart parted in_turn holds_order failing_orders three_quads order_row order_cases begin begin_on sees sees_all equal
orders_hold = refl

-- the marks of the first layer: 3 is on darts of the middle one, and when that is removed on darts of the last
pub touching_moves : (marks_of 2 three_quads 0 ≡ replicate 4 1 ++ replicate 4 2 ++ (0 ∷ 0 ∷ 0 ∷ 0 ∷ 3 ∷ 0 ∷ 3 ∷ 0 ∷ replicate 8 0))
    × (marks_of 2 (remove_table 2 three_quads 8) 0
    ≡ replicate 4 1 ++ replicate 4 2 ++ replicate 8 0 ++ (0 ∷ 0 ∷ 0 ∷ 0 ∷ 3 ∷ 0 ∷ 3 ∷ 0 ∷ []))
unfolding everything three_quads
touching_moves = (refl, refl)
