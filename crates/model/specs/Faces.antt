-- The cells of a VTK text (02, R-1): their faces, what the checks 21 to 23 ask of them, and the table that they make.
use Rattle.std.specs.Prelude.{ℕ, ◌+◌, ◌*◌, ◌/◌, ◌%◌, Bool, true, false, ◌&&◌, ◌||◌, List, [], ◌∷◌, ◌++◌, reverse, length, get_or, eqb, ltb}
use Rattle.model.specs.Lists.{least, all_of, any_of, how_many, equal}
use Rattle.model.specs.Table.{link, retable}
use Rattle.model.specs.Numbering.{cell_link}

-- "a cell's eight vertices, as listed, are 01's s = 0, 1, 3, 2, 4, 5, 7, 6": where s is listed
unfoldable pub listed_at : ℕ → ℕ
listed_at s = get_or (0 ∷ 1 ∷ 3 ∷ 2 ∷ 4 ∷ 5 ∷ 7 ∷ 6 ∷ []) s 0

-- from the dart k of a cell, going 0, 1
unfoldable pub onward : ℕ → ℕ
onward k = cell_link 3 1 (cell_link 3 0 k)

-- where the four vertices of the face of k are listed: from the vertex of k along its edge, and on
unfoldable pub sites : ℕ → List ℕ
sites k =
    let a = onward k in
    let b = onward a in
    listed_at (k % 8) ∷ listed_at (a % 8) ∷ listed_at (b % 8) ∷ listed_at (onward b % 8) ∷ []

unfoldable pub pick : List ℕ → List ℕ → List ℕ
pick row [] = []
pick row (i ∷ is) = get_or row i 0 ∷ pick row is

-- these four vertices
unfoldable pub round : List ℕ → ℕ → List ℕ
round row k = pick row (sites k)

-- a dart of each face of a cell
unfoldable pub face_darts : List ℕ
face_darts = 0 ∷ 4 ∷ 8 ∷ 10 ∷ 24 ∷ 25 ∷ []

unfoldable pub faces_from : List ℕ → List ℕ → List (List ℕ)
faces_from row [] = []
faces_from row (k ∷ ks) = round row k ∷ faces_from row ks

unfoldable pub faces : List ℕ → List (List ℕ)
faces row = faces_from row face_darts

unfoldable pub all_faces : List (List ℕ) → List (List ℕ)
all_faces [] = []
all_faces (row ∷ rows) = faces row ++ all_faces rows

-- x stands in the list
unfoldable pub among : List ℕ → ℕ → Bool
among xs x = any_of (eqb x) xs

-- "the same four vertices"
unfoldable pub same_four : List ℕ → List ℕ → Bool
same_four r s = all_of (among s) r && all_of (among r) s

-- the list from its second on
unfoldable pub turned : List ℕ → List ℕ
turned [] = []
turned (x ∷ xs) = xs ++ (x ∷ [])

-- s reads as r, from one of its four
unfoldable pub reads : List ℕ → List ℕ → Bool
reads r s = equal r s || equal (turned r) s || equal (turned (turned r)) s || equal (turned (turned (turned r))) s

-- "in the same cyclic order, read in either sense"
unfoldable pub same_order : List ℕ → List ℕ → Bool
same_order r s = reads r s || reads (reverse r) s

-- ---- what 21 to 23 ask

-- a number stands twice in a list
unfoldable pub repeats : List ℕ → Bool
repeats [] = false
repeats (x ∷ xs) = elim (among xs x) [ true ↦ true | false ↦ repeats xs ]

-- how many of the cells have a face with these four vertices
unfoldable pub sharing : List ℕ → List (List ℕ) → ℕ
sharing r rows = how_many (length rows) (λ c. any_of (same_four r) (faces (get_or rows c [])))

-- the faces r and s do not have the same four vertices in another order
unfoldable pub agree : List ℕ → List ℕ → Bool
agree r s = elim (same_four r s) [ true ↦ same_order r s | false ↦ true ]

-- ---- the table

-- the number of darts
unfoldable pub darts : List (List ℕ) → ℕ
darts rows = 48 * length rows

-- the dart k of the cell c has the slot 48 c + k; the vertices of its face, from its own along its edge
unfoldable pub round_at : List (List ℕ) → ℕ → List ℕ
round_at rows d = round (get_or rows (d / 48) []) (d % 48)

-- two darts of different cells, with the same vertex, edge and face
unfoldable pub meets : List (List ℕ) → ℕ → ℕ → Bool
meets rows d e = elim (eqb (d / 48) (e / 48)) [ true ↦ false | false ↦ equal (round_at rows d) (round_at rows e) ]

-- "faces with the same four vertices in the same cyclic order, read in either sense, are sewn vertex to vertex"
unfoldable pub partner : List (List ℕ) → ℕ → ℕ
partner rows d = let e = least (darts rows) (meets rows d) in elim (ltb e (darts rows)) [ true ↦ e | false ↦ d ]

-- link i of d in its own cell: "Each cell is added as by add", in the lowest unused slots of a table with no live slot
unfoldable pub own_link : ℕ → ℕ → ℕ
own_link i d = 48 * (d / 48) + cell_link 3 i (d % 48)

unfoldable pub read_link : List ℕ → List (List ℕ) → ℕ → ℕ → ℕ
read_link t rows d i =
    elim (ltb d (darts rows)) [
      | true ↦ (elim (eqb i 3) [ true ↦ partner rows d | false ↦ own_link i d ])
      | false ↦ link t i d
    ]

unfoldable pub vtk_table : List ℕ → List (List ℕ) → List ℕ
vtk_table t rows = retable t (read_link t rows)
