-- Two sides joined pair by pair: what is asked (`Joining`) and what is left (`Joined`); and the buffers of it, whose marks are set
-- for one item alone (`Blank`, `Unmarking`).
use Rattle.std.specs.Prelude.{ℕ, ◌+◌, ◌*◌, ◌/◌, ◌≤◌, ◌<◌, ◌≡◌, ◌⊎◌, ◌≢◌, List, length, get_or}
use Rattle.model.specs.Table.{slots}
use Rattle.model.specs.Sew.{side, sew_table}
use Rattle.model.specs.Meaning.Sets.{Marked}
use Rattle.model.specs.Meaning.Pairings.{Sewable}
use Rattle.scans.specs.Clear.{Grouped}
use Rattle.sides.specs.Turns.{Listing}

-- ---- marks with groups

-- no mark is set, nor that of a group
pub record Blank (m gs : List ℕ) : Type 0 where
  pub long : length m ≡ 256 * length gs
  pub marks : (x : ℕ) → get_or m x 0 ≡ 0
  pub groups : (g : ℕ) → get_or gs g 0 ≡ 0

-- none is set but those of the darts P, and of their groups
pub record Only (P : ℕ → Type 0) (m gs : List ℕ) : Type 0 where
  pub marks : (x : ℕ) → (P x → ⊥) → get_or m x 0 ≡ 0
  pub groups : (g : ℕ) → ((x : ℕ) → P x → x / 256 ≢ g) → get_or gs g 0 ≡ 0

-- x has a mark, and its group
pub record Slot (m gs : List ℕ) (x : ℕ) : Type 0 where
  pub mark : x < length m
  pub group : x / 256 < length gs

-- the buffers for a table: marks that are not set, and two lists for half of the slots each
pub record Lent (t m gs xs ys : List ℕ) : Type 0 where
  pub blank : Blank m gs
  pub wide : slots t ≤ length m
  pub left : slots t ≤ 2 * length xs
  pub right : slots t ≤ 2 * length ys

-- ---- pairs of darts

-- x stands in one of the first k
abbrev pub Among : List ℕ → List ℕ → ℕ → ℕ → Type 0
Among xs ys k x = (l : ℕ) × (l < k) × ((x ≡ get_or xs l 0) ⊎ (x ≡ get_or ys l 0))

-- x is a slot with a mark
pub record Fit (t m gs : List ℕ) (i x : ℕ) : Type 0 where
  pub index : i < 4
  pub entry : 4 * x + i < length t
  pub slot : Slot m gs x

-- d and e can be sewn, xs and ys list their sides in pairs, and no mark is set
pub record Joining (n : ℕ) (t m gs : List ℕ) (i d e : ℕ) (xs ys : List ℕ) (size : ℕ) : Type 0 where
  pub able : Sewable n t i d e
  pub lists : Listing n t i d e size xs ys
  pub blank : Blank m gs
  pub wide : slots t ≤ length m
  pub room : (size ≤ length xs) × (size ≤ length ys)

pub record SomeJoining (t m gs : List ℕ) (i : ℕ) (xs ys : List ℕ) (size : ℕ) : Type 0 where
  pub n : ℕ
  pub d : ℕ
  pub e : ℕ
  pub is : Joining n t m gs i d e xs ys size

-- only the darts listed have marks, and have slots for them
pub record Unmarking (m gs xs ys : List ℕ) (size : ℕ) : Type 0 where
  pub long : length m ≡ 256 * length gs
  pub only : Only (Among xs ys size) m gs
  pub inside : (x : ℕ) → Among xs ys size x → x < length m
  pub room : (size ≤ length xs) × (size ≤ length ys)

-- they are sewn, and the darts of both sides have the mark 1
pub record Joined (n : ℕ) (t : List ℕ) (i d e : ℕ) (xs ys : List ℕ) (size : ℕ) (t' m' gs' : List ℕ) : Type 0 where
  pub table : t' ≡ sew_table n t i d e
  pub wide : slots t ≤ length m'
  pub marked : (x : ℕ) → Marked m' x → Marked (side n t i d) x ⊎ Marked (side n t i e) x
  pub unmarked : (x : ℕ) → (Marked m' x → ⊥) → (Marked (side n t i d) x → ⊥) × (Marked (side n t i e) x → ⊥)
  pub grouped : Grouped m' gs'
  pub unmarking : Unmarking m' gs' xs ys size
