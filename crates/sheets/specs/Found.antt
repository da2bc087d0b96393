-- A sheet that is spread cell by cell: what holds while darts wait to be spread (`Spreading`).
use Rattle.std.specs.Prelude.{ℕ, ◌+◌, ◌*◌, ◌-◌, ◌≤◌, ◌<◌, ◌≡◌, ◌⊎◌, ◌≢◌, true, List, length, get_or}
use Rattle.model.specs.Lists.{count}
use Rattle.model.specs.Table.{slots, link, live}
use Rattle.model.specs.Sheet.{sheet}
use Rattle.model.specs.Meaning.Sets.{Marked}
use Rattle.model.specs.Meaning.Places.{place}
use Rattle.model.specs.Meaning.Sheets.{half, InCells}
use Rattle.sheets.specs.Spread.{sides, Inner}

-- one of the first `size` words is a dart that has y at a first place
abbrev pub Awaits : ℕ → List ℕ → List ℕ → ℕ → ℕ → Type 0
Awaits n t w size y = (i p : ℕ) × (i < size) × (p < half n) × (y ≡ place n t (get_or w i 0) p)

-- the marks m and the first `size` words w, on the way to the sheet of d: `found` darts have the mark 1
pub record Spreading (n : ℕ) (t : List ℕ) (d : ℕ) (m w : List ℕ) (size found : ℕ) : Type 0 where
  pub long : length m ≡ slots t
  pub few : (x : ℕ) → get_or m x 0 ≤ 3
  pub within : (x : ℕ) → get_or m x 0 ≡ 1 → Marked (sheet n t d) x
  pub waits : (i : ℕ) → i < size → Marked (sheet n t d) (get_or w i 0)
  pub firsts : (x p : ℕ) → get_or m x 0 ≡ 1 → p < half n → get_or m (place n t x p) 0 ≡ 1
  pub across : (x : ℕ) → get_or m x 0 ≡ 1 → (get_or m (link t n x) 0 ≡ 1) ⊎ Awaits n t w size (link t n x)
  pub cells : (x : ℕ) → Inner m x → InCells n t (sheet n t d) x
  pub whole : (x j : ℕ) → j < n → Inner m x → Inner m (link t j x)
  pub outer : (x : ℕ) → get_or m x 0 ≡ 3 → (live t x ≡ true) × Inner m (link t n x)
  pub led : (x : ℕ) → get_or m x 0 ≡ 2 → get_or m (link t n x) 0 ≢ 0
  pub begun : (get_or m d 0 ≡ 1) ⊎ Awaits n t w size d
  pub number : found ≡ count 1 m
  pub room : half n * size ≤ half n + (sides n - 1) * found
