-- The checks of insert up to 8, which its opening makes: `opening_checks`.
use Rattle.std.specs.Prelude.{ℕ, List, [], ◌∷◌, ◌++◌}
use Rattle.model.specs.Checks.{Check, dim_ok, table_ok, marks_ok, journal_ok, map_checks, block_ok}

unfoldable pub opening_checks : ℕ → List ℕ → List ℕ → List ℕ → List Check
opening_checks n t m j = dim_ok n ∷ table_ok t ∷ marks_ok t m ∷ journal_ok j ∷ (map_checks n t ++ (block_ok n t ∷ []))
