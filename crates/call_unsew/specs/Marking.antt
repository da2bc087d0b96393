-- Darts that get the mark 1: what is left (`Marking`), which darts they are (`Couple`, `Unsewn`), and buffers for it (`Wide`, `Full`).
use Rattle.std.specs.Prelude.{ℕ, ◌+◌, ◌*◌, ◌≤◌, ◌<◌, ◌≡◌, ◌⊎◌, List, length}
use Rattle.model.specs.Lists.{count}
use Rattle.model.specs.Table.{slots, link}
use Rattle.model.specs.Sew.{side}
use Rattle.model.specs.Meaning.Sets.{Marked}

-- in m' the darts P have the mark 1 too, and r of them have it not in m
pub record Marking (P : ℕ → Type 0) (m m' : List ℕ) (r : ℕ) : Type 0 where
  pub long : length m' ≡ length m
  pub kept : (x : ℕ) → Marked m x → Marked m' x
  pub all : (x : ℕ) → P x → Marked m' x
  pub only : (x : ℕ) → Marked m' x → Marked m x ⊎ P x
  pub new : r + count 1 m ≡ count 1 m'

-- z is x or its partner
abbrev pub Couple : List ℕ → ℕ → ℕ → ℕ → Type 0
Couple t i x z = (z ≡ x) ⊎ (z ≡ link t i x)

-- z is a dart of d's side, or the partner of one
abbrev pub Unsewn : ℕ → List ℕ → ℕ → ℕ → ℕ → Type 0
Unsewn n t i d z = (x : ℕ) × Marked (side n t i d) x × Couple t i x z

-- each slot has a mark, and the marks are few
abbrev pub Wide : List ℕ → List ℕ → Type 0
Wide t m = (slots t ≤ length m) × (length m ≤ 65536)

-- each group counts as marked
pub record Full (m gs : List ℕ) : Type 0 where
  pub long : length m ≡ 256 * length gs
  pub marked : (g : ℕ) → g < length gs → Marked gs g
