-- Cells read from a text: the form in words (`OfForm`), where their rows stand in it, what 20 to 23 refuse, what the passed checks say of
-- them, when two of their darts are sewn, and what an accepted read gives (`VtkRead`).
use Rattle.std.specs.Prelude.{ℕ, zero, suc, ◌+◌, ◌*◌, ◌-◌, ◌/◌, ◌%◌, ◌≤◌, ◌<◌, ◌≡◌, ◌⊎◌, ◌≢◌, ◌↔◌, true, false, length, get_or, drop, ltb}
use mathlib.Core.List.{List, [], ◌∷◌, ◌++◌, Memᴰ as In}
use Rattle.std.proofs.Math.Option.{Option, none, some}
use Rattle.model.specs.Text.{bytes, newline, number}
use Rattle.model.specs.Vtk.{◌≫◌, Grid, version2, version3, words, numbers}
use Rattle.model.specs.Table.{slots, link, live, live_count}
use Rattle.model.specs.Numbering.{cell_link}
use Rattle.model.specs.Journal.{changes_from, record_of, written}
use Rattle.model.specs.Add.{add_table}
use Rattle.model.specs.Faces.{listed_at, round, face_darts, faces, same_four, same_order, darts, round_at, vtk_table}
use Rattle.model.specs.Calls.{Outcome}
use Rattle.model.specs.Meaning.Maps.{BlockMap}

-- ---- the form, in words

-- "blanks, tabs or LF"
pub data Blank : ℕ → Type 0 where
  is_blank_lem : Blank 32
  is_tab : Blank 9
  is_newline : Blank newline

-- a word: one byte or more, none of them blank
pub record Word (w : List ℕ) : Type 0 where
  pub some : 0 < length w
  pub plain : (x : ℕ) → In x w → Blank x → ⊥

-- "words between blanks, tabs or LF": the words of a text
pub data WordsOf : List ℕ → List (List ℕ) → Type 0 where
  ends : WordsOf [] []
  last : {w : List ℕ} → Word w → WordsOf w (w ∷ [])
  blank : {b : ℕ} {bs : List ℕ} {ws : List (List ℕ)} → Blank b → WordsOf bs ws → WordsOf (b ∷ bs) ws
  word : {w : List ℕ} {b : ℕ} {bs : List ℕ} {ws : List (List ℕ)} → Word w → Blank b → WordsOf bs ws → WordsOf (w ++ (b ∷ bs)) (w ∷ ws)

-- plain decimals, and the numbers that they are
pub data Decimals : List (List ℕ) → List ℕ → Type 0 where
  no_more : Decimals [] []
  decimal : {w : List ℕ} {ws : List (List ℕ)} {x : ℕ} {xs : List ℕ} → number w ≡ some x → Decimals ws xs → Decimals (w ∷ ws) (x ∷ xs)

-- the words of rows: of each row its length, and so many numbers
pub data RowWords : List (List ℕ) → List (List ℕ) → Type 0 where
  no_row : RowWords [] []
  row : {w : List ℕ} {ws more : List (List ℕ)} {xs : List ℕ} {rows : List (List ℕ)} → number w ≡ some (length xs)
      → Decimals ws xs → RowWords more rows → RowWords (w ∷ (ws ++ more)) (xs ∷ rows)

-- the words behind the title line, and the grid that they give
pub record Sections (ws : List (List ℕ)) (g : Grid) : Type 0 where
  pub points : List ℕ
  pub skipped : List (List ℕ)
  pub count : List ℕ
  pub size : List ℕ
  pub cells : List (List ℕ)
  pub again : List ℕ
  pub types : List (List ℕ)
  -- "ASCII, DATASET UNSTRUCTURED_GRID, POINTS (three words a point, skipped), CELLS (one or more), CELL_TYPES, then nothing"
  pub are : ws ≡ bytes "ASCII" ∷ bytes "DATASET" ∷ bytes "UNSTRUCTURED_GRID" ∷ bytes "POINTS" ∷ points
      ∷ (skipped ++ (bytes "CELLS" ∷ count ∷ size ∷ (cells ++ (bytes "CELL_TYPES" ∷ again ∷ types))))
  -- "the counts, plain decimals, must fit"; of the words that are skipped the first is for the type of the points
  pub points_fit : number points ≡ some g.points
  pub skipped_fit : length skipped ≡ 1 + 3 * g.points
  pub count_fits : number count ≡ some (length g.rows)
  pub size_fits : number size ≡ some (length cells)
  pub rows : RowWords cells g.rows
  pub again_fits : number again ≡ some (length g.rows)
  pub types_fit : length types ≡ length g.rows
  pub types_are : Decimals types g.types

-- a text of the form, and the grid that it gives
pub record OfForm (text : List ℕ) (g : Grid) : Type 0 where
  -- "version 2.0 or 3.0: version line, title line, then words"
  pub version : List ℕ
  pub title : List ℕ
  pub body : List ℕ
  pub versioned : (version ≡ version2) ⊎ (version ≡ version3)
  pub line : (x : ℕ) → In x title → x ≢ newline
  pub is : text ≡ version ++ (title ++ (newline ∷ body))
  pub ws : List (List ℕ)
  pub words : WordsOf body ws
  pub sections : Sections ws g
  pub some : 0 < length g.rows
  -- "each number names a point"
  pub names : (row : List ℕ) → In row g.rows → (x : ℕ) → In x row → x < g.points
  -- "a type 12 row has 8 numbers"
  pub eights : (c : ℕ) → c < length g.rows → get_or g.types c 0 ≡ 12 → length (get_or g.rows c []) ≡ 8

-- ---- rows in a text

-- a row of k numbers, where `left` words are left with its length, and the rows behind it
unfoldable pub row_then : ℕ → List (List ℕ) → (ℕ → List (List ℕ) → Option (List (List ℕ))) → ℕ → Option (List (List ℕ))
row_then left ws more k =
    elim (ltb k left) [
      | true ↦ numbers k ws ≫ λ row. more (left - suc k) (drop k ws) ≫ λ rows. some (row ∷ rows)
      | false ↦ none
    ]

-- n rows, for which `left` words are left
unfoldable pub rows_from : ℕ → ℕ → List (List ℕ) → Option (List (List ℕ))
rows_from zero zero ws = some []
rows_from zero (suc left) ws = none
rows_from (suc n) left [] = none
rows_from (suc n) left (w ∷ ws) = number w ≫ row_then left ws (rows_from n)

-- these rows stand in the text from the byte `at` on, and their numbers are below the text's length
pub record RowsAt (text : List ℕ) (at : ℕ) (rows : List (List ℕ)) : Type 0 where
  pub low : at ≤ length text
  pub size : ℕ
  pub read : rows_from (length rows) size (words (drop at text)) ≡ some rows
  pub few : (row : List ℕ) → In row rows → (x : ℕ) → In x row → x < length text

-- rows of eight numbers each, of which none stands twice in a row
pub record Hexahedra (rows : List (List ℕ)) : Type 0 where
  pub eight : (c : ℕ) → c < length rows → length (get_or rows c []) ≡ 8
  pub once : (c i j : ℕ) → c < length rows → i < 8 → j < 8 → get_or (get_or rows c []) i 0 ≡ get_or (get_or rows c []) j 0 → i ≡ j

-- ---- what 20 to 23 refuse, in words

-- 20: "other cell type"
abbrev pub OtherType : List ℕ → Type 0
OtherType types = (x : ℕ) × In x types × (x ≢ 12)

-- 21: "vertex repeated in a cell": two places of the cell c name the same vertex
pub record Repeated (rows : List (List ℕ)) : Type 0 where
  pub c : ℕ
  pub i : ℕ
  pub j : ℕ
  pub cell : c < length rows
  pub ij : i < j
  pub low : j < length (get_or rows c [])
  pub same : get_or (get_or rows c []) i 0 ≡ get_or (get_or rows c []) j 0

-- f is a face of the cell c: its vertices, one after the other round it
abbrev pub FaceOf : List (List ℕ) → ℕ → List ℕ → Type 0
FaceOf rows c f = (c < length rows) × In f (faces (get_or rows c []))

-- "the same four vertices"
abbrev pub SameFour : List ℕ → List ℕ → Type 0
SameFour f g = (x : ℕ) → In x f ↔ In x g

-- "in the same cyclic order, read in either sense": g reads as f does from its place k, onward or back
pub data SameCycle (f g : List ℕ) : Type 0 where
  onward : (k : ℕ) → ((i : ℕ) → i < 4 → get_or g i 0 ≡ get_or f ((k + i) % 4) 0) → SameCycle f g
  back : (k : ℕ) → ((i : ℕ) → i < 4 → get_or g i 0 ≡ get_or f ((k + (4 - i)) % 4) 0) → SameCycle f g

-- 22: "three cells with the same four vertices in a face"
pub record ThreeCells (rows : List (List ℕ)) : Type 0 where
  pub a : ℕ
  pub b : ℕ
  pub c : ℕ
  pub ab : a ≢ b
  pub ac : a ≢ c
  pub bc : b ≢ c
  pub f : List ℕ
  pub g : List ℕ
  pub h : List ℕ
  pub of_a : FaceOf rows a f
  pub of_b : FaceOf rows b g
  pub of_c : FaceOf rows c h
  pub fg : SameFour f g
  pub fh : SameFour f h

-- 23: "same four vertices in another order"
pub record OtherCycle (rows : List (List ℕ)) : Type 0 where
  pub a : ℕ
  pub b : ℕ
  pub f : List ℕ
  pub g : List ℕ
  pub of_a : FaceOf rows a f
  pub of_b : FaceOf rows b g
  pub four : SameFour f g
  pub other : SameCycle f g → ⊥

-- ---- faces by their position, six to a cell

-- the face at the position i: the (i % 6)-th of the cell i / 6
unfoldable pub face_at : List (List ℕ) → ℕ → List ℕ
face_at rows i = round (get_or rows (i / 6) []) (get_or face_darts (i % 6) 0)

-- three positions have the same four vertices
pub record Three (rows : List (List ℕ)) : Type 0 where
  pub i : ℕ
  pub j : ℕ
  pub k : ℕ
  pub ij : i < j
  pub jk : j < k
  pub low : k < 6 * length rows
  pub two : same_four (face_at rows i) (face_at rows j) ≡ true
  pub three : same_four (face_at rows i) (face_at rows k) ≡ true

-- two positions have them in another order
pub record OtherOrder (rows : List (List ℕ)) : Type 0 where
  pub i : ℕ
  pub j : ℕ
  pub ij : i < j
  pub low : j < 6 * length rows
  pub four : same_four (face_at rows i) (face_at rows j) ≡ true
  pub order : same_order (face_at rows i) (face_at rows j) ≡ false

-- ---- darts that meet

-- two darts of different cells, with the same vertex, edge and face: "sewn vertex to vertex"
pub record Meets (rows : List (List ℕ)) (d e : ℕ) : Type 0 where
  pub low : d < darts rows
  pub low_other : e < darts rows
  pub apart : d / 48 ≢ e / 48
  pub same : round_at rows d ≡ round_at rows e

-- the vertex of a dart, as the text numbers it, and that of the other end of its edge
abbrev pub vertex_at : List (List ℕ) → ℕ → ℕ
vertex_at rows d = get_or (round_at rows d) 0 0

abbrev pub end_at : List (List ℕ) → ℕ → ℕ
end_at rows d = get_or (round_at rows d) 1 0

-- what 2, 18, 19 to 22 and 14 say of a table and the cells of a text
pub record Readable (t : List ℕ) (rows : List (List ℕ)) : Type 0 where
  pub whole : length t ≡ 4 * slots t
  pub few : slots t ≤ 65536
  pub empty : (d : ℕ) → live t d ≡ false
  pub cells : Hexahedra rows
  pub no_three : (d e f : ℕ) → Meets rows d e → Meets rows d f → Meets rows e f → ⊥
  pub room : darts rows ≤ slots t

-- ---- an accepted read

-- c cells added one after the other: "Each cell is added as by add"
unfoldable pub add_all : ℕ → List ℕ → List ℕ
add_all zero t = t
add_all (suc c) t = add_table 3 (add_all c t)

-- another cell has a face with the four vertices of the face of d
pub record Shared (rows : List (List ℕ)) (d : ℕ) : Type 0 where
  pub c : ℕ
  pub f : List ℕ
  pub apart : c ≢ d / 48
  pub of_c : FaceOf rows c f
  pub four : SameFour (round_at rows d) f

-- what it gives, where rows are the text's cells
pub record VtkRead (t j : List ℕ) (tag : ℕ) (rows : List (List ℕ)) (r : Outcome) : Type 0 where
  pub number : r.number ≡ 0
  pub place : r.place ≡ 0
  pub count : r.count ≡ 48 * length rows
  pub table : r.table ≡ vtk_table t rows
  pub journal : r.journal ≡ written j (record_of tag (changes_from 0 t (vtk_table t rows)))
  -- "every entry whose value changed": 192 for each cell
  pub changes : length (changes_from 0 t r.table) ≡ 192 * length rows
  pub words : length (record_of tag (changes_from 0 t r.table)) ≡ 576 * length rows + 3
  pub block : BlockMap 3 r.table
  pub lives : live_count r.table ≡ 48 * length rows
  -- the cells are the text's, in order: the dart k of the cell c has the slot 48 c + k, and 01's links; no other slot is live
  pub live : (d : ℕ) → (live r.table d ≡ true) ↔ (d < 48 * length rows)
  pub cells : (i c k : ℕ) → i < 3 → c < length rows → k < 48 → link r.table i (48 * c + k) ≡ 48 * c + cell_link 3 i k
  -- "a cell's eight vertices, as listed": link 0 leads to the other end of an edge, the other links keep the vertex
  pub listed : (c k : ℕ) → c < length rows → k < 48 → vertex_at rows (48 * c + k) ≡ get_or (get_or rows c []) (listed_at (k % 8)) 0
  pub ends : (d : ℕ) → d < 48 * length rows → vertex_at rows (link r.table 0 d) ≡ end_at rows d
  pub vertices : (i d : ℕ) → 0 < i → i < 4 → d < 48 * length rows → vertex_at rows (link r.table i d) ≡ vertex_at rows d
  -- "Each cell is added as by add"
  pub added : (i d : ℕ) → i < 3 → link r.table i d ≡ link (add_all (length rows) t) i d
  -- "faces with the same four vertices .. are sewn vertex to vertex", and no other face is sewn
  pub sewn : (d e : ℕ) → d < 48 * length rows → e ≢ d → (link r.table 3 d ≡ e) ↔ Meets rows d e
  pub shared : (d : ℕ) → d < 48 * length rows → (link r.table 3 d ≢ d) ↔ Shared rows d
  pub stays : (i d : ℕ) → i < 4 → 48 * length rows ≤ d → link r.table i d ≡ link t i d
