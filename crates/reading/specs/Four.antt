-- A slot's links as a list.
use Rattle.std.specs.Prelude.{ℕ, List, [], ◌∷◌}

-- the four links of a slot
unfoldable pub four : (ℕ → ℕ) → List ℕ
four f = f 0 ∷ f 1 ∷ f 2 ∷ f 3 ∷ []
