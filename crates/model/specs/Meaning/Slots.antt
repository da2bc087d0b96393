-- "The lowest unused slots", which add and split fill (`Lowest`, `LowestUnused`), and the new darts of add in them.
use Rattle.std.specs.Prelude.{ℕ, ◌≤◌, ◌<◌, ◌≡◌, false, get_or}
use mathlib.Core.List.{List, Memᴰ as In}
use Rattle.model.specs.Table.{unused, slots, live}
use Rattle.model.specs.Add.{add_slots}
use Rattle.model.specs.Meaning.Lists.{Distinct, Rising}

-- the slots fs are distinct and unused
pub record Vacant (t fs : List ℕ) : Type 0 where
  pub once : Distinct fs
  pub inside : (x : ℕ) → In x fs → x < slots t
  pub dead : (x : ℕ) → In x fs → live t x ≡ false

-- the slots fs are unused, rise, and are below all other unused slots
pub record Lowest (t fs : List ℕ) : Type 0 where
  pub vacant : Vacant t fs
  pub rising : Rising fs
  pub lowest : (x y : ℕ) → In x fs → y < slots t → live t y ≡ false → (In y fs → ⊥) → x < y

-- p is unused, and no unused slot is below it
abbrev pub LowestUnused : List ℕ → ℕ → Type 0
LowestUnused t p = (p < slots t) × (live t p ≡ false) × ((y : ℕ) → y < slots t → live t y ≡ false → p ≤ y)

-- the k-th dart of the cell that add makes: "its k-th dart in the k-th of them"
abbrev pub added_dart : ℕ → List ℕ → ℕ → ℕ
added_dart n t k = get_or (add_slots n t) k unused
