-- What a search for the least number gives: `found_below`.
use Rattle.std.specs.Prelude.{ℕ, true, false, Option, Some, None, ltb}

-- the number, where it is below top; the model's searches end at top, where they find none
abbrev pub found_below : ℕ → ℕ → Option ℕ
found_below top x = elim (ltb x top) [ true ↦ Some x | false ↦ None ]
