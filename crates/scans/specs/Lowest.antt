-- Slots listed in the first words of a lent slice.
use Rattle.std.specs.Prelude.{ℕ, ◌≡◌, List, length, take}

-- the list l, of r slots, is written
pub record Lists (l : List ℕ) (r : ℕ) (words₀ words : List ℕ) : Type 0 where
  pub size : r ≡ length l
  pub front : take r words ≡ l
  pub long : length words ≡ length words₀
