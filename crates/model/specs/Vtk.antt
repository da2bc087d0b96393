-- A VTK legacy text (02, R-1): its words, its form, and the grid that it gives.
-- "The form is version 2.0 or 3.0: version line, title line, then words between blanks, tabs or LF: ASCII, DATASET
-- UNSTRUCTURED_GRID, POINTS (three words a point, skipped), CELLS (one or more), CELL_TYPES, then nothing; the counts, plain
-- decimals, must fit, a type 12 row has 8 numbers, and each number names a point."
use Rattle.std.specs.Prelude.{ℕ, zero, suc, ◌+◌, ◌*◌, Bool, true, false, not, ◌&&◌, ◌||◌, List, [], ◌∷◌, ◌++◌, length, take, drop, eqb, leb, ltb}
use Rattle.std.proofs.Math.Option.{Option, none, some}
use Rattle.model.specs.Lists.{all_of, equal}
use Rattle.model.specs.Text.{bytes, newline, begins, number}

infixl 10 ◌≫◌
-- what f gives of what is there
abbrev pub ◌≫◌ : {A B : Type 0} → Option A → (A → Option B) → Option B
none ≫ f = none
some a ≫ f = f a

-- ---- words

-- "words between blanks, tabs or LF"
unfoldable pub is_blank : ℕ → Bool
is_blank b = eqb b 32 || eqb b 9 || eqb b newline

-- a word that ends here, and the words behind it
unfoldable pub ended : List ℕ → List (List ℕ) → List (List ℕ)
ended [] ws = ws
ended (b ∷ bs) ws = (b ∷ bs) ∷ ws

-- the words of a text, where w are the bytes before it of its first word
unfoldable pub words_from : List ℕ → List ℕ → List (List ℕ)
words_from w [] = ended w []
words_from w (b ∷ bs) = elim (is_blank b) [ true ↦ ended w (words_from [] bs) | false ↦ words_from (w ++ (b ∷ [])) bs ]

unfoldable pub words : List ℕ → List (List ℕ)
words bs = words_from [] bs

-- ---- the form

-- the bytes behind the first LF
unfoldable pub behind_line : List ℕ → Option (List ℕ)
behind_line [] = none
behind_line (b ∷ bs) = elim (eqb b newline) [ true ↦ some bs | false ↦ behind_line bs ]

abbrev pub version2 : List ℕ
version2 = bytes "# vtk DataFile Version 2.0\n"

abbrev pub version3 : List ℕ
version3 = bytes "# vtk DataFile Version 3.0\n"

-- "version 2.0 or 3.0: version line, title line": the bytes behind them
unfoldable pub behind_title : List ℕ → Option (List ℕ)
behind_title bs = elim (begins version2 bs || begins version3 bs) [ true ↦ behind_line (drop 27 bs) | false ↦ none ]

-- the words behind these
unfoldable pub behind_words : List (List ℕ) → List (List ℕ) → Option (List (List ℕ))
behind_words [] ws = some ws
behind_words (k ∷ ks) [] = none
behind_words (k ∷ ks) (w ∷ ws) = elim (equal k w) [ true ↦ behind_words ks ws | false ↦ none ]

-- a count, "plain decimals", and the words behind it
pub record Counted : Type 0 where
  pub value : ℕ
  pub rest : List (List ℕ)

unfoldable pub counted : List (List ℕ) → Option Counted
counted [] = none
counted (w ∷ ws) = number w ≫ λ v. some (record { value = v; rest = ws })

-- the first k words, each a plain decimal
unfoldable pub numbers : ℕ → List (List ℕ) → Option (List ℕ)
numbers zero ws = some []
numbers (suc k) [] = none
numbers (suc k) (w ∷ ws) = number w ≫ λ v. numbers k ws ≫ λ vs. some (v ∷ vs)

-- n rows, each its length and so many numbers, and nothing behind them
unfoldable pub rows_of : ℕ → List ℕ → Option (List (List ℕ))
rows_of zero [] = some []
rows_of zero (k ∷ xs) = none
rows_of (suc n) [] = none
rows_of (suc n) (k ∷ xs) =
    elim (leb k (length xs)) [ true ↦ rows_of n (drop k xs) ≫ λ rows. some (take k xs ∷ rows) | false ↦ none ]

-- the rows, the point count and the cell types that a text gives
pub record Grid : Type 0 where
  pub points : ℕ
  pub rows : List (List ℕ)
  pub types : List ℕ

-- rows, and the words behind them
pub record Rows : Type 0 where
  pub rows : List (List ℕ)
  pub rest : List (List ℕ)

-- "ASCII, DATASET UNSTRUCTURED_GRID, POINTS (three words a point, skipped)", after a word for their type
unfoldable pub points_of : List (List ℕ) → Option Counted
points_of ws =
    behind_words (bytes "ASCII" ∷ bytes "DATASET" ∷ bytes "UNSTRUCTURED_GRID" ∷ bytes "POINTS" ∷ []) ws ≫ λ a.
    counted a ≫ λ p.
    some (record { value = p.value; rest = drop (1 + 3 * p.value) p.rest })

-- "CELLS (one or more)": their number, the number of the words that follow, and the rows
unfoldable pub cells_of : List (List ℕ) → Option Rows
cells_of ws =
    behind_words (bytes "CELLS" ∷ []) ws ≫ λ a.
    counted a ≫ λ n.
    counted n.rest ≫ λ size.
    numbers size.value size.rest ≫ λ xs.
    rows_of n.value xs ≫ λ rows.
    some (record { rows = rows; rest = drop size.value size.rest })

-- "CELL_TYPES, then nothing": n, and so many types
unfoldable pub types_of : ℕ → List (List ℕ) → Option (List ℕ)
types_of n ws =
    behind_words (bytes "CELL_TYPES" ∷ []) ws ≫ λ a.
    counted a ≫ λ m.
    elim (eqb m.value n && eqb (length m.rest) n) [ true ↦ numbers n m.rest | false ↦ none ]

unfoldable pub sections_of : List (List ℕ) → Option Grid
sections_of ws =
    points_of ws ≫ λ p.
    cells_of p.rest ≫ λ c.
    types_of (length c.rows) c.rest ≫ λ types.
    some (record { points = p.value; rows = c.rows; types = types })

-- "a type 12 row has 8 numbers"
unfoldable pub eights : List (List ℕ) → List ℕ → Bool
eights [] ts = true
eights (r ∷ rs) [] = true
eights (r ∷ rs) (t ∷ ts) = elim (eqb t 12 && not (eqb (length r) 8)) [ true ↦ false | false ↦ eights rs ts ]

-- one cell or more, "a type 12 row has 8 numbers, and each number names a point"
unfoldable pub fits : Grid → Bool
fits g = ltb 0 (length g.rows) && all_of (all_of (λ x. ltb x g.points)) g.rows && eights g.rows g.types

-- what a text of the form gives
unfoldable pub grid_of : List ℕ → Option Grid
grid_of bs =
    behind_title bs ≫ λ body.
    sections_of (words body) ≫ λ g.
    elim (fits g) [ true ↦ some g | false ↦ none ]

-- its rows and types; none where the text is not of the form
unfoldable pub rows_in : Option Grid → List (List ℕ)
rows_in none = []
rows_in (some g) = g.rows

unfoldable pub types_in : Option Grid → List ℕ
types_in none = []
types_in (some g) = g.types
