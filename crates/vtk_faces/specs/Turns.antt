-- How one of two faces with the same four vertices is turned against the other.
-- Main definitions: `Leads`, `TurnOf`, `Turned`.
use Rattle.std.specs.Prelude.{ℕ, ◌+◌, ◌-◌, ◌/◌, ◌%◌, ◌<◌, ◌≡◌, true, false, Option, is_some, IfSome, List, get_or, eqb}
use Rattle.model.specs.Faces.{round, same_order}
use Rattle.vtk_faces.specs.Faces.{held_row, held_face}
use Rattle.vtk_faces.specs.Walks.{face_walk, walk_at}

-- how many steps lead back, where j led on
unfoldable pub turn_back : ℕ → ℕ
turn_back j = elim (eqb (j % 2) 0) [ true ↦ (8 - j) % 8 | false ↦ j ]

-- w is read from the dart to which r steps lead from the one that s is read from
pub record Leads (s w : List ℕ) (r : ℕ) : Type 0 where
  pub few : r < 8
  pub on : (row : List ℕ) (k : ℕ) → k < 48 → s ≡ round row k → w ≡ round row (face_walk r k)
  pub back : (row : List ℕ) (k : ℕ) → k < 48 → w ≡ round row k → s ≡ round row (face_walk (turn_back r) k)

-- some steps do, or none if their orders differ
pub record TurnOf (s w : List ℕ) (turn : Option ℕ) : Type 0 where
  pub order : same_order s w ≡ is_some turn
  pub leads : IfSome turn (Leads s w)

-- what is read from the dart at the place x of the walks of the cells in the buffer
unfoldable pub held_round : List ℕ → ℕ → List ℕ
held_round buffer x = round (held_row buffer (x / 48)) (walk_at (x % 48))

-- each of the first m faces of the buffer that has a mate is what is read from the place x, where its word is x + 8
abbrev pub Turned : List ℕ → ℕ → List ℕ → Type 0
Turned buffer m mates = (p x : ℕ) → p < m → get_or mates (p + 1) 0 ≡ x + 8 → held_face buffer p ≡ held_round buffer x
