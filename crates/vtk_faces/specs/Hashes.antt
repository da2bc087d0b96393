-- The hash of a face: a number below 16,384 of its least and its greatest vertex.
use Rattle.std.specs.Prelude.{ℕ, ◌+◌, ◌*◌, ◌/◌, ◌%◌, min, max, List, [], ◌∷◌}

unfoldable pub lowest : List ℕ → ℕ
lowest [] = 0
lowest (x ∷ []) = x
lowest (x ∷ y ∷ ys) = min x (lowest (y ∷ ys))

unfoldable pub highest : List ℕ → ℕ
highest [] = 0
highest (x ∷ []) = x
highest (x ∷ y ∷ ys) = max x (highest (y ∷ ys))

unfoldable pub mixed : ℕ → ℕ → ℕ
mixed x y = (x % 4294967296 * 407613262 + y % 4294967296 * 2246822507) / 262144 % 16384

unfoldable pub hash_of : List ℕ → ℕ
hash_of r = mixed (lowest r) (highest r)
