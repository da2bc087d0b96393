-- Darts that enter the queue: they get the mark 1 and become its next words.
-- Main definitions: `Entered`; `side_at` and `beside_at` (darts that enter together), `Enters`.
use Rattle.std.specs.Prelude.{ℕ, ◌+◌, ◌≤◌, ◌<◌, ◌≡◌, ◌⊎◌, List, [], ◌∷◌, length, get_or}
use Rattle.model.specs.Table.{slots, link, walk}
use Rattle.model.specs.Meaning.Sheets.{half, BlockDart}
use Rattle.cells.specs.Listing.{MapDart}

-- x is a live slot of a map, n = 2 or 3
abbrev pub Dart : List ℕ → ℕ → Type 0
Dart t x = (n : ℕ) × MapDart n t x

-- from the marks m and the queue w the darts f 0, .., f (k - 1) have entered at the word a: the marks m' and the queue v
pub record Entered (m w : List ℕ) (a k : ℕ) (f : ℕ → ℕ) (m' v : List ℕ) : Type 0 where
  pub long : length m' ≡ length m
  pub words : length v ≡ length w
  pub kept : (i : ℕ) → i < a → get_or v i 0 ≡ get_or w i 0
  pub listed : (j : ℕ) → j < k → get_or v (a + j) 0 ≡ f j
  pub done : (j : ℕ) → j < k → get_or m' (f j) 0 ≡ 1
  pub only : (x : ℕ) → (get_or m' x 0 ≡ get_or m x 0) ⊎ ((get_or m' x 0 ≡ 1) × ((j : ℕ) × (j < k) × (x ≡ f j)))

-- ---- the darts that enter together

-- the opposite edge 1.0.1 of x
abbrev pub across : List ℕ → ℕ → ℕ
across t x = walk t (1 ∷ 0 ∷ 1 ∷ []) x

-- the edge of x and the opposite one
abbrev pub side_at : List ℕ → ℕ → ℕ → ℕ
side_at t x j = get_or (x ∷ link t 0 x ∷ across t x ∷ link t 0 (across t x) ∷ []) j 0

-- what link 2 leads to from the words of the queue at a
abbrev pub beside_at : List ℕ → List ℕ → ℕ → ℕ → ℕ
beside_at t w a j = link t 2 (get_or w (a + j) 0)

-- a dart g of a block map, and room for the first places of its cell at the word a
pub record Enters (n : ℕ) (t m w : List ℕ) (a g : ℕ) : Type 0 where
  pub dart : BlockDart n t g
  pub long : length m ≡ slots t
  pub words : length w ≡ slots t
  pub room : a + half n ≤ length w
