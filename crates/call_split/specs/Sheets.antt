-- The marks of a sheet as split reads them: `LeadsIn`.
use Rattle.std.specs.Prelude.{ℕ, ◌+◌, ◌*◌, ◌≤◌, ◌<◌, List, length}
use Rattle.model.specs.Table.{link}
use Rattle.model.specs.Meaning.Sets.{Marked}

-- link 1 leads from a dart with the mark 1 to a slot that has a mark
pub record LeadsIn (t m : List ℕ) : Type 0 where
  pub few : length m ≤ 65536
  pub slot : (x : ℕ) → Marked m x → 4 * x + 1 < length t
  pub leads : (x : ℕ) → Marked m x → link t 1 x < length m
