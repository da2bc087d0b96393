-- What the parts of a text give, as it is read from front to back: the lines, POINTS, the rows of CELLS, the types of CELL_TYPES.
-- Where a part does not fit, nothing of the form can be read from there.
use Rattle.std.specs.Prelude.{ℕ, ◌+◌, ◌*◌, ◌≤◌, ◌<◌, ◌≡◌, Bool, true, false, List, [], length, get_or, take, drop, eqb, ltb, Option as Option_of_std, Some, None}
use Rattle.std.proofs.Math.Option.{Option, none, some}
use Rattle.model.specs.Lists.{all_of}
use Rattle.model.specs.Vtk.{words, Counted, numbers, Rows as RowsRead, points_of, cells_of}
use Rattle.model.specs.Meaning.Vtk.{rows_from}
use Rattle.vtk_words.specs.Words.{number_at, large}
use Rattle.vtk_form.specs.declared.Points.{Points}
use Rattle.vtk_form.specs.declared.Rows.{Rows}
use Rattle.vtk_form.specs.declared.Cells.{Cells}
use Rattle.vtk_form.specs.declared.CellType.{CellType}

-- the bytes behind a line, as a place
abbrev pub LineOf : List ℕ → Option (List ℕ) → Option_of_std ℕ → Type 0
LineOf text o (Some r) = (r ≤ length text) × (o ≡ some (drop r text))
LineOf text o None = o ≡ none

-- ---- POINTS

-- the number of points, and the place behind them; where there is none, no cells follow
abbrev pub PointsOf : List ℕ → ℕ → Option_of_std Points → Type 0
PointsOf text at (Some p) =
    (p.end ≤ length text) × (points_of (words (drop at text)) ≡ some (number_at text p.count p.end)) × (p.count < large)
PointsOf text at None =
    (p : Counted) → points_of (words (drop at text)) ≡ some p → (c : RowsRead) → cells_of p.rest ≡ some c → ⊥

-- ---- CELLS

-- each number of the row names a point
abbrev pub all_named : ℕ → List ℕ → Bool
all_named n row = all_of (λ x. ltb x n) row

-- it has 8 numbers
abbrev pub is_eight : List ℕ → Bool
is_eight row = eqb (length row) 8

-- the words that a buffer of this length has for the i-th row: the eight from `base` on, or none where it ends before
pub record RoomOf (i len base words : ℕ) : Type 0 where
  pub within : base + words ≤ len
  pub eight : 8 * i + 8 ≤ len → (base ≡ 8 * i) × (words ≡ 8)
  pub none : len < 8 * i + 8 → words ≡ 0

-- the first numbers of the row stand in the buffer's `room` words from `base` on, and all else stayed
pub record Kept (before after : List ℕ) (base room : ℕ) (row : List ℕ) : Type 0 where
  pub same : length after ≡ length before
  pub put : (j : ℕ) → j < room → j < length row → get_or after (base + j) 0 ≡ get_or row j 0
  pub below : (x : ℕ) → x < base → get_or after x 0 ≡ get_or before x 0
  pub above : (x : ℕ) → base + room ≤ x → get_or after x 0 ≡ get_or before x 0

-- as far as the buffer goes, it has each row of eight numbers, eight words to a row
abbrev pub Keeps : List ℕ → List (List ℕ) → Type 0
Keeps buffer rows = (c : ℕ) → c < length rows → length (get_or rows c []) ≡ 8 → 8 * c + 8 ≤ length buffer
    → take 8 (drop (8 * c) buffer) ≡ get_or rows c []

-- k numbers that name points
pub record RowFits (text : List ℕ) (at k n base room : ℕ) (before after : List ℕ) (r : ℕ) : Type 0 where
  pub high : r ≤ length text
  pub row : List ℕ
  pub read : numbers k (words (drop at text)) ≡ some row
  pub named : all_named n row ≡ true
  pub behind : drop k (words (drop at text)) ≡ words (drop r text)
  pub kept : Kept before after base room row

abbrev pub RowOf : List ℕ → ℕ → ℕ → ℕ → ℕ → ℕ → List ℕ → List ℕ → Option_of_std ℕ → Type 0
RowOf text at k n base room before after (Some r) = RowFits text at k n base room before after r
RowOf text at k n base room before after None = (row : List ℕ) → numbers k (words (drop at text)) ≡ some row → all_named n row ≡ true → ⊥

-- m rows of numbers that name points, in `size` words
pub record RowsFit (text : List ℕ) (at m size n : ℕ) (buffer : List ℕ) (eight : Bool) (r : ℕ) : Type 0 where
  pub high : r ≤ length text
  pub rows : List (List ℕ)
  pub read : rows_from m size (words (drop at text)) ≡ some rows
  pub long : length rows ≡ m
  pub named : all_of (all_named n) rows ≡ true
  pub eights : eight ≡ all_of is_eight rows
  pub behind : drop size (words (drop at text)) ≡ words (drop r text)
  pub kept : Keeps buffer rows

abbrev pub RowsOf : List ℕ → ℕ → ℕ → ℕ → ℕ → List ℕ → Option_of_std Rows → Type 0
RowsOf text at m size n buffer (Some r) = RowsFit text at m size n buffer r.eight r.end
RowsOf text at m size n buffer None =
    (rows : List (List ℕ)) → rows_from m size (words (drop at text)) ≡ some rows → all_of (all_named n) rows ≡ true → ⊥

-- CELLS, with m rows from the byte `first` on
pub record CellsFit (text : List ℕ) (at n : ℕ) (buffer : List ℕ) (m first : ℕ) (eight : Bool) (r : ℕ) : Type 0 where
  pub low : first ≤ length text
  pub few : m < large
  pub size : ℕ
  pub small : size < large
  pub fit : RowsFit text first m size n buffer eight r
  pub read : cells_of (words (drop at text)) ≡ some (record { rows = fit.rows; rest = words (drop r text) })

abbrev pub CellsOf : List ℕ → ℕ → ℕ → List ℕ → Option_of_std Cells → Type 0
CellsOf text at n buffer (Some c) = CellsFit text at n buffer c.count c.at c.eight c.end
CellsOf text at n buffer None =
    (c : RowsRead) → cells_of (words (drop at text)) ≡ some c → all_of (all_named n) c.rows ≡ true → ⊥

-- ---- CELL_TYPES

-- n types, and nothing behind them
unfoldable pub types_left : ℕ → List (List ℕ) → Option (List ℕ)
types_left n ws = elim (eqb (length ws) n) [ true ↦ numbers n ws | false ↦ none ]

-- the types of n cells stand from the place on
abbrev pub CountOf : List ℕ → ℕ → Option (List ℕ) → Option_of_std ℕ → Type 0
CountOf text n o (Some r) = (r ≤ length text) × (o ≡ types_left n (words (drop r text)))
CountOf text n o None = o ≡ none

-- whether the next word is the number 12, and the place behind it
abbrev pub TypeOf : List ℕ → Option Counted → Option_of_std CellType → Type 0
TypeOf text o (Some c) = (c.end ≤ length text) × ((v : ℕ) × (o ≡ some (number_at text v c.end)) × (c.twelve ≡ eqb v 12))
TypeOf text o None = o ≡ none

-- whether all types are 12
abbrev pub TypesOf : Option (List ℕ) → Option_of_std Bool → Type 0
TypesOf o (Some twelve) = (ts : List ℕ) × (o ≡ some ts) × (twelve ≡ all_of (λ x. eqb x 12) ts)
TypesOf o None = o ≡ none
