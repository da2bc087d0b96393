-- The checks of an item.
use Rattle.std.specs.Prelude.{ℕ, List, [], ◌∷◌}
use Rattle.model.specs.Checks.{Check, index_ok, dart_ok, apart_ok, free_ok}

-- those before 12, behind the checks of the table and the journal
unfoldable pub pair_checks : ℕ → List ℕ → ℕ → ℕ → ℕ → List Check
pair_checks n t i d e = index_ok n i ∷ dart_ok t d ∷ dart_ok t e ∷ apart_ok n t i d e ∷ free_ok t i d e ∷ []
