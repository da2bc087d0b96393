-- Spreading a sheet over one cell, listed from a dart of the sheet: which darts get a mark, which wait to be spread.
-- Main definitions: `sides` and `side_start` (the sides that the sheet crosses), `Fresh`, `Firsts`, `Touched`, `Other`, `Rest`, `Put`, `Waiting`, `Spread`.
use Rattle.std.specs.Prelude.{ℕ, ◌+◌, ◌*◌, ◌-◌, ◌/◌, ◌%◌, ◌^◌, ◌≤◌, ◌<◌, ◌≡◌, ◌⊎◌, ◌≢◌, List, length, get_or, set}
use Rattle.model.specs.Lists.{count}
use Rattle.model.specs.Table.{slots, link}
use Rattle.model.specs.Meaning.Sheets.{half, BlockDart}
use Rattle.model.specs.Meaning.Places.{place}
use Rattle.numbering.specs.Orders.{place_of}
use Rattle.cells.specs.Listing.{Listing}

-- ---- the sides that a sheet crosses

-- how many sides of the cell of one of its darts, for link n
abbrev pub sides : ℕ → ℕ
sides n = 2 * (n - 1)

-- the first place of the j-th of them: the sides of the last axis of the order j / 2, by the value j % 2 of its bit
unfoldable pub side_start : ℕ → ℕ → ℕ
side_start n j = place_of n (j / 2) (j % 2 * 2 ^ (n - 1 - j / 2))

-- ---- marks

-- x is one of the first k darts listed
abbrev pub ListedBelow : List ℕ → ℕ → ℕ → Type 0
ListedBelow cell k x = (j : ℕ) × (j < k) × (x ≡ get_or cell j 0)

-- the first k darts listed are darts without the mark 1, each once
pub record Fresh (m cell : List ℕ) (k : ℕ) : Type 0 where
  pub inside : (j : ℕ) → j < k → get_or cell j 0 < length m
  pub new : (j : ℕ) → j < k → get_or m (get_or cell j 0) 0 ≢ 1
  pub apart : (i j : ℕ) → i < j → j < k → get_or cell i 0 ≢ get_or cell j 0

-- r are the marks m, with 1 at the first k darts listed
pub record Firsts (m cell : List ℕ) (k : ℕ) (r : List ℕ) : Type 0 where
  pub long : length r ≡ length m
  pub done : (j : ℕ) → j < k → get_or r (get_or cell j 0) 0 ≡ 1
  pub only : (x : ℕ) → (get_or r x 0 ≡ get_or m x 0) ⊎ (ListedBelow cell k x × (get_or r x 0 ≡ 1))
  pub size : count 1 r ≡ count 1 m + k

-- x has the mark 1 or 2
abbrev pub Inner : List ℕ → ℕ → Type 0
Inner m x = (get_or m x 0 ≡ 1) ⊎ (get_or m x 0 ≡ 2)

-- r are the marks m, with 3 at y if it has the mark 0
abbrev pub Touched : List ℕ → ℕ → List ℕ → Type 0
Touched m y r = ((get_or m y 0 ≡ 0) × (r ≡ set m y 3)) ⊎ ((get_or m y 0 ≢ 0) × (r ≡ m))

-- r are the marks m, with 2 at x if it has no 1, and then 3 at the dart that link n leads to from x, if that has the mark 0
abbrev pub Other : ℕ → List ℕ → List ℕ → ℕ → List ℕ → Type 0
Other n t m x r = ((get_or m x 0 ≡ 1) × (r ≡ m)) ⊎ ((get_or m x 0 ≢ 1) × Touched (set m x 2) (link t n x) r)

-- r are the marks m, with 2 at the darts listed from the place a on, before b, that have no 1, and 3 at the darts with the mark 0 that
-- link n leads to from these
pub record Rest (n : ℕ) (t m cell : List ℕ) (a b : ℕ) (r : List ℕ) : Type 0 where
  pub long : length r ≡ length m
  pub done : (j : ℕ) → a ≤ j → j < b → Inner r (get_or cell j 0)
  pub beyond : (j : ℕ) → a ≤ j → j < b → get_or r (get_or cell j 0) 0 ≡ 2 → get_or r (link t n (get_or cell j 0)) 0 ≢ 0
  pub only : (x : ℕ) → (get_or r x 0 ≡ get_or m x 0) ⊎ (ListedBelow cell b x × (get_or m x 0 ≢ 1) × (get_or r x 0 ≡ 2))
      ⊎ ((get_or m x 0 ≡ 0) × (get_or r x 0 ≡ 3) × ((j : ℕ) × (j < b) × (x ≡ link t n (get_or cell j 0))))
  pub size : count 1 r ≡ count 1 m

-- ---- darts that wait

-- y is put behind the first `size` words, if it has not the mark 1
abbrev pub Put : List ℕ → List ℕ → ℕ → ℕ → List ℕ → ℕ → Type 0
Put m w size y v r =
    ((get_or m y 0 ≡ 1) × (v ≡ w) × (r ≡ size)) ⊎ ((get_or m y 0 ≢ 1) × (v ≡ set w size y) × (r ≡ size + 1))

-- the dart over link n from the first place of the j-th side
abbrev pub over : ℕ → List ℕ → List ℕ → ℕ → ℕ
over n t cell j = link t n (get_or cell (side_start n j) 0)

-- of the first k sides, the darts over link n that have not the mark 1 are put behind the first `size` words
pub record Waiting (n : ℕ) (t m cell : List ℕ) (k : ℕ) (w : List ℕ) (size : ℕ) (v : List ℕ) (r : ℕ) : Type 0 where
  pub long : length v ≡ length w
  pub low : size ≤ r
  pub high : r ≤ size + k
  pub kept : (i : ℕ) → i < size → get_or v i 0 ≡ get_or w i 0
  pub only : (i : ℕ) → size ≤ i → i < r → (j : ℕ) × (j < k) × (get_or v i 0 ≡ over n t cell j)
  pub all : (j : ℕ) → j < k → (get_or m (over n t cell j) 0 ≡ 1) ⊎ ((i : ℕ) × (i < r) × (get_or v i 0 ≡ over n t cell j))

-- ---- one cell

-- a listed cell whose first darts have not the mark 1, and room for what will wait
pub record Ready (n : ℕ) (t m cell w : List ℕ) (size : ℕ) : Type 0 where
  pub listing : Listing n t cell
  pub long : length m ≡ slots t
  pub fresh : Fresh m cell (half n)
  pub room : size + sides n ≤ length w

-- the marks m' after the cell is marked, and the words v that wait then
pub record Spread (n : ℕ) (t m cell w : List ℕ) (size : ℕ) (m' v : List ℕ) (r : ℕ) : Type 0 where
  pub long : length m' ≡ length m
  pub first : (j : ℕ) → j < half n → get_or m' (get_or cell j 0) 0 ≡ 1
  pub listed : (j : ℕ) → j < length cell → Inner m' (get_or cell j 0)
  pub beyond : (j : ℕ) → j < length cell → get_or m' (get_or cell j 0) 0 ≡ 2 → get_or m' (link t n (get_or cell j 0)) 0 ≢ 0
  pub only : (x : ℕ) → (get_or m' x 0 ≡ get_or m x 0) ⊎ (ListedBelow cell (half n) x × (get_or m' x 0 ≡ 1))
      ⊎ (ListedBelow cell (length cell) x × (get_or m x 0 ≢ 1) × (get_or m' x 0 ≡ 2))
      ⊎ ((get_or m x 0 ≡ 0) × (get_or m' x 0 ≡ 3) × ((j : ℕ) × (j < length cell) × (x ≡ link t n (get_or cell j 0))))
  pub number : count 1 m' ≡ count 1 m + half n
  pub waiting : Waiting n t m' cell (sides n) w size v r

-- a dart g of a block map none of whose first places has the mark 1, and room
pub record Begins (n : ℕ) (t m w : List ℕ) (size g : ℕ) : Type 0 where
  pub dart : BlockDart n t g
  pub long : length m ≡ slots t
  pub new : (j : ℕ) → j < half n → get_or m (place n t g j) 0 ≢ 1
  pub room : size + sides n ≤ length w
