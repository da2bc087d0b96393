-- What a text gives, and what it is to write behind what stands in a buffer.
use Rattle.std.specs.Prelude.{ℕ, ◌+◌, ◌≡◌, List, ◌++◌, length, take}
use Rattle.std.specs.Prelude.{Option as Option_of_std, Some, None}
use Rattle.std.proofs.Math.Option.{Option, none, some}

-- what a text gives, as the model says it: the model's options are not std's
abbrev pub given_by : Option_of_std ℕ → Option ℕ
given_by (Some v) = some v
given_by None = none

-- the text was written at `at`, behind what stood before it, and ends at r
pub record Appended (before : List ℕ) (at : ℕ) (text after : List ℕ) (r : ℕ) : Type 0 where
  pub ends : r ≡ at + length text
  pub holds : take r after ≡ take at before ++ text
