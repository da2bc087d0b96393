-- The length of a table that passes check 2, as facts.
use Rattle.std.specs.Prelude.{ℕ, ◌*◌, ◌≤◌, ◌≡◌, List, length}
use Rattle.model.specs.Table.{slots}

pub record Sized (t : List ℕ) : Type 0 where
  pub fits : length t ≡ 4 * slots t
  pub few : slots t ≤ 65536
