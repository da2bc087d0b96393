-- The steps of the flood over a wall: the links 0..n, with next in the place of link n-1.
use Rattle.std.specs.Prelude.{ℕ, ◌-◌, ◌*◌, ◌≤◌, ◌<◌, ◌≡◌, true, false, List, length, get_or, eqb}
use Rattle.model.specs.Table.{slots, link}
use Rattle.model.specs.Meaning.Maps.{Dim}
use Rattle.reach.specs.Given.{Room}

-- where nx has next
unfoldable pub step : ℕ → List ℕ → List ℕ → ℕ → ℕ → ℕ
step n t nx i x = elim (eqb i (n - 1)) [ true ↦ get_or nx x 0 | false ↦ link t i x ]

-- for the steps of x: table and next have them, and they lead to slots
pub record Stepping (n : ℕ) (t nx : List ℕ) (x : ℕ) : Type 0 where
  pub dim : Dim n
  pub fits : length t ≡ 4 * slots t
  pub few : slots t ≤ 65536
  pub room : slots t ≤ length nx
  pub inside : x < slots t
  pub goes : (i : ℕ) → i ≤ n → step n t nx i x < slots t

-- and there is room in the queue, behind r words, for those that are not seen
pub record Expanding (n : ℕ) (t nx : List ℕ) (x : ℕ) (seen queue : List ℕ) (r : ℕ) : Type 0 where
  pub stepping : Stepping n t nx x
  pub space : Room (slots t) seen queue r
