-- The darts that the block test has seen: `SeenGood`.
use Rattle.std.specs.Prelude.{ℕ, ◌≤◌, ◌<◌, ◌≡◌, ◌≢◌, false, List, [], ◌∷◌, length, get_or, set}
use Rattle.model.specs.Table.{slots}
use Rattle.model.specs.Cell.{in_wrong_cell}

-- the marks s, with 1 at each of the darts
unfoldable pub seen_with : List ℕ → List ℕ → List ℕ
seen_with s [] = s
seen_with s (x ∷ xs) = seen_with (set s x 1) xs

-- each slot has a mark; no dart that is seen is in a wrong cell
pub record SeenGood (n : ℕ) (t seen : List ℕ) : Type 0 where
  pub long : slots t ≤ length seen
  pub good : (x : ℕ) → x < slots t → get_or seen x 0 ≢ 0 → in_wrong_cell n t x ≡ false
