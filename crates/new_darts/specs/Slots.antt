-- The unused slots that new darts need: `SlotsFound`.
use Rattle.std.specs.Prelude.{ℕ, ◌+◌, ◌≤◌, ◌≡◌, ◌≢◌, Bool, true, false, List, length, take}
use Rattle.model.specs.Table.{slots, unused_slots}

-- r says that the first `new` words are the lowest unused slots, and with `live` others no more than all slots; else they are more, or
-- there are not so many unused ones
pub record SlotsFound (t : List ℕ) (new live : ℕ) (words₀ words : List ℕ) (r : Bool) : Type 0 where
  pub long : length words ≡ length words₀
  pub within : r ≡ true → new + live ≤ slots t
  pub listed : r ≡ true → take new words ≡ take new (unused_slots t)
  pub enough : r ≡ true → length (take new (unused_slots t)) ≡ new
  pub few : r ≡ false → new + live ≤ slots t → length (take new (unused_slots t)) ≢ new
