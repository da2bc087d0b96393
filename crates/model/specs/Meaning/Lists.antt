-- Lists of slots: a number in one, each number once, rising.
use Rattle.std.specs.Prelude.{ℕ, ◌<◌, Bool, length, ltb}
use mathlib.Core.List.{List, [], ◌∷◌, Memᴰ as In}
use Rattle.model.specs.Lists.{index_of}

-- x stands in the list
unfoldable pub member : List ℕ → ℕ → Bool
member xs x = ltb (index_of x xs) (length xs)

-- no number stands in the list twice
pub data Distinct : List ℕ → Type 0 where
  none : Distinct []
  more : {x : ℕ} {l : List ℕ} → (In x l → ⊥) → Distinct l → Distinct (x ∷ l)

-- each entry is below all that come after it
pub data Rising : List ℕ → Type 0 where
  end : Rising []
  next : {x : ℕ} {l : List ℕ} → ((y : ℕ) → In y l → x < y) → Rising l → Rising (x ∷ l)
