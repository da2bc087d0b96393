-- What the contracts say beyond the model: the triple at a word (`change_at`), the value that a change puts (`value_put`), and changes
-- whose entries lie in a table (`within`).
use Rattle.std.specs.Prelude.{ℕ, ◌+◌, Bool, true, false, ◌&&◌, List, [], ◌∷◌, get_or, ltb}
use Rattle.model.specs.Journal.{Change}

-- the triple at the word w
unfoldable pub change_at : List ℕ → ℕ → Change
change_at j w = record { entry = get_or j w 0; old = get_or j (w + 1) 0; new = get_or j (w + 2) 0 }

-- what `put` writes for a change: "old, or new, values"
unfoldable pub value_put : Bool → Change → ℕ
value_put true c = c.new
value_put false c = c.old

-- each entry lies in a table of n entries
unfoldable pub within : ℕ → List Change → Bool
within n [] = true
within n (c ∷ cs) = ltb c.entry n && within n cs
