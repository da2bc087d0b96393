-- The darts of the wall, listed behind the new slots.
use Rattle.std.specs.Prelude.{ℕ, ◌*◌, ◌≡◌, List, length, take, drop}
use Rattle.new_darts.specs.Placed.{Placed}

-- behind n * size words, which stay, `queue` has the `size` darts of the list l, and `places` the places of their new darts
pub record ListedBehind (n : ℕ) (l : List ℕ) (size : ℕ) (queue₀ queue places₀ places : List ℕ) : Type 0 where
  pub placed : Placed n l size (drop (n * size) queue₀) (drop (n * size) queue) places₀ places
  pub before : take (n * size) queue ≡ take (n * size) queue₀
  pub long : length queue ≡ length queue₀
