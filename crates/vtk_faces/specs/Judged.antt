-- What is known of the faces F 0, .., F (i - 1), of which the first m are in chains and have mates.
-- Main definitions: `Judged` (no three of them have the same four vertices), `Ordered` (two that have, have them in the same order).
use Rattle.std.specs.Prelude.{ℕ, ◌+◌, ◌*◌, ◌/◌, ◌≤◌, ◌<◌, ◌≡◌, ◌⊎◌, ◌≢◌, Bool, true, false, Result, Ok, Err, List, length, get_or, set}
use Rattle.refusals.specs.declared.Reason.{Reason}
use Rattle.refusals.specs.Numbers.{number_of}
use Rattle.model.specs.Faces.{same_four, same_order}
use Rattle.vtk_faces.specs.Faces.{Sited, held_face}
use Rattle.vtk_faces.specs.Turns.{Turned}
use Rattle.vtk_faces.specs.Chains.{Chains}
use Rattle.vtk_faces.specs.declared.ThirdFace.{ThirdFace}

-- three of the first n faces have the same four vertices
pub record ThreeOf (F : ℕ → List ℕ) (n : ℕ) : Type 0 where
  pub i : ℕ
  pub j : ℕ
  pub k : ℕ
  pub ij : i < j
  pub jk : j < k
  pub low : k < n
  pub two : same_four (F i) (F j) ≡ true
  pub three : same_four (F i) (F k) ≡ true

-- two of the first n faces have the same four vertices in another order
pub record OtherOf (F : ℕ → List ℕ) (n : ℕ) : Type 0 where
  pub i : ℕ
  pub j : ℕ
  pub ij : i < j
  pub low : j < n
  pub four : same_four (F i) (F j) ≡ true
  pub order : same_order (F i) (F j) ≡ false

-- another of the first i faces has the same four vertices as F p: the one that the word tells, or one behind the first m
pub record Mate (F : ℕ → List ℕ) (m i p word : ℕ) : Type 0 where
  pub q : ℕ
  pub low : q < i
  pub other : q ≢ p
  pub same : same_four (F p) (F q) ≡ true
  pub which : (word / 8 ≡ q + 1) ⊎ (m ≤ q)

pub record Judged (F : ℕ → List ℕ) (m i : ℕ) (mates : List ℕ) : Type 0 where
  pub within : m ≤ i
  pub long : m < length mates
  pub alone : (p : ℕ) → p < m → get_or mates (p + 1) 0 ≡ 0 → (q : ℕ) → q < i → q ≢ p → same_four (F p) (F q) ≡ false
  pub paired : (p : ℕ) → p < m → 0 < get_or mates (p + 1) 0 → Mate F m i p (get_or mates (p + 1) 0)
  pub no_three : (p q r : ℕ) → p < m → p < q → q < r → r < i
      → same_four (F p) (F q) ≡ true → same_four (F p) (F r) ≡ true → ⊥

-- number 0: those of the first m agree with those behind them; else two differ
pub record Ordered (F : ℕ → List ℕ) (m i number : ℕ) : Type 0 where
  pub agree : number ≡ 0 → (p q : ℕ) → p < m → p < q → q < i
      → same_four (F p) (F q) ≡ true → same_order (F p) (F q) ≡ true
  pub differ : number ≢ 0 → OtherOf F i

-- the first i faces are judged, and `other` is what is found of their orders
pub record State (F : ℕ → List ℕ) (m i : ℕ) (mates : List ℕ) (other : ℕ) : Type 0 where
  pub judged : Judged F m i mates
  pub ordered : Ordered F m i other
  pub still : (other ≡ 0) ⊎ (other ≡ 23)

-- n faces were judged up to the last, or to the third with the same four vertices
pub record Ran (F : ℕ → List ℕ) (m n : ℕ) (mates : List ℕ) (number : ℕ) : Type 0 where
  pub three : number ≡ 22 → ThreeOf F n
  pub goes : number ≢ 22 → State F m n mates number

-- ---- one more face

abbrev pub order_number : Bool → ℕ
order_number b = elim b [ true ↦ 0 | false ↦ 23 ]

-- the numbers of what a pass finds, and of what is told of it: 0 where all pass
abbrev pub number_found : Result Bool ThirdFace → ℕ
number_found (Ok same) = order_number same
number_found (Err _) = 22

abbrev pub number_told : Result Unit Reason → ℕ
number_told (Ok _) = 0
number_told (Err reason) = number_of reason

-- the entry e meets a face: it gets the word `mark`, unless it has one; `agree` tells whether the orders are the same
pub record Met (e : ℕ) (agree : Bool) (mark : ℕ) (before mates : List ℕ) (number : ℕ) : Type 0 where
  pub long : length mates ≡ length before
  pub alone : e ≡ 0 → (number ≡ 0) × (mates ≡ before)
  pub third : 0 < e → 0 < get_or before e 0 → number ≡ 22
  pub pair : 0 < e → get_or before e 0 ≡ 0
      → (mates ≡ set before e mark) × (number ≡ order_number agree)

-- what a function that judges gives
abbrev pub Number : ℕ → Type 0
Number k = (k ≡ 0) ⊎ ((k ≡ 22) ⊎ (k ≡ 23))

-- F i is judged, after which the first m faces are in
pub record Stepped (F : ℕ → List ℕ) (m i : ℕ) (mates : List ℕ) (number : ℕ) : Type 0 where
  pub is : Number number
  pub third : number ≡ 22 → ThreeOf F (i + 1)
  pub goes : number ≢ 22 → Judged F m (i + 1) mates
  pub agree : number ≡ 0 → (p : ℕ) → p < m → p < i → same_four (F p) (F i) ≡ true → same_order (F p) (F i) ≡ true
  pub differ : number ≢ 0 → number ≢ 22 → OtherOf F (i + 1)

-- for the i-th face of the buffer, where those before it are in
pub record Going (rows sites heads nexts mates : List ℕ) (i : ℕ) : Type 0 where
  pub sited : Sited sites
  pub fits : i < 6 * (length rows / 8)
  pub few : i < 8190
  pub chains : Chains (held_face rows) i heads nexts
  pub judged : Judged (held_face rows) i i mates
  pub nexts_room : i + 1 < length nexts
  pub mates_room : i + 1 < length mates

-- and where it is in too
pub record Gone (rows before heads nexts mates : List ℕ) (i number : ℕ) : Type 0 where
  pub chains : Chains (held_face rows) (i + 1) heads nexts
  pub turned : number ≡ 0 → Turned rows i before → Turned rows (i + 1) mates
  pub stepped : Stepped (held_face rows) (i + 1) i mates number
