-- The darts that get new ones, of a sheet or a wall, listed with the places of these: `Placed`.
use Rattle.std.specs.Prelude.{ℕ, ◌*◌, ◌<◌, ◌≡◌, List, length, get_or, take}

-- the first r darts are the list l, and `places` has for the k-th of them the place of its first new dart: n * k
pub record Placed (n : ℕ) (l : List ℕ) (r : ℕ) (darts₀ darts places₀ places : List ℕ) : Type 0 where
  pub front : take r darts ≡ l
  pub place : (k : ℕ) → k < r → get_or places (get_or darts k 0) 0 ≡ n * k
  pub long : length darts ≡ length darts₀
  pub wide : length places ≡ length places₀
