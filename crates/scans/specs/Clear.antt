-- Marks that are 0, between two slots; and marks with groups.
use Rattle.std.specs.Prelude.{ℕ, ◌+◌, ◌*◌, ◌≤◌, ◌<◌, ◌≡◌, List, length, get_or}

-- the marks from x to before y are 0
abbrev pub Clear : List ℕ → ℕ → ℕ → Type 0
Clear m x y = (z : ℕ) → x ≤ z → z < y → get_or m z 0 ≡ 0

-- a pass over the marks may go on from x to y
pub record Skips (m : List ℕ) (x y : ℕ) : Type 0 where
  pub onward : x ≤ y
  pub within : y ≤ length m
  pub clear : Clear m x y

-- each 256 marks have a group, and where its own mark is 0, theirs are
pub record Grouped (m gs : List ℕ) : Type 0 where
  pub long : length m ≡ 256 * length gs
  pub clear : (g : ℕ) → get_or gs g 0 ≡ 0 → Clear m (256 * g) (256 * g + 256)
