-- The places of a cell: from a dart a word leads to each place of the numbering.
-- Main definitions: `path` (the word to the place k), `place` (the dart there), `Chart` (the darts of a cell, listed).
use Rattle.std.specs.Prelude.{ℕ, ◌/◌, ◌%◌, ◌<◌, ◌≡◌, ◌≢◌, true, false, List, [], ◌∷◌, ◌++◌, get_or, eqb}
use Rattle.model.specs.Table.{link, walk}
use Rattle.model.specs.Cell.{cell_size}
use Rattle.model.specs.Numbering.{corners, cell_link}
use Rattle.model.specs.Meaning.Maps.{Straight}

-- ---- the word to a place

-- the link i, then the word; where that would go i twice, neither
unfoldable pub go_first : ℕ → List ℕ → List ℕ
go_first i [] = i ∷ []
go_first i (j ∷ w) = elim (eqb i j) [ true ↦ w | false ↦ i ∷ j ∷ w ]

-- the word, with no link twice in a row
unfoldable pub shorten : List ℕ → List ℕ
shorten [] = []
shorten (i ∷ w) = go_first i (shorten w)

-- the word, where the vertex s has the bit b
unfoldable pub if_bit : ℕ → ℕ → List ℕ → List ℕ
if_bit s b w = elim (eqb (s / b % 2) 1) [ true ↦ w | false ↦ [] ]

-- from the vertex 0 to the vertex s, in the first axis order: link 0 flips the first axis, 1.0.1 the second, 2.1.0.1.2 the third
unfoldable pub to_vertex : ℕ → List ℕ
to_vertex s = if_bit s 1 (0 ∷ []) ++ if_bit s 2 (1 ∷ 0 ∷ 1 ∷ []) ++ if_bit s 4 (2 ∷ 1 ∷ 0 ∷ 1 ∷ 2 ∷ [])

-- from the first axis order to the order p, at one vertex
unfoldable pub to_order : ℕ → ℕ → List ℕ
to_order n p =
    elim (eqb n 3) [
      | true ↦ get_or ([] ∷ (2 ∷ []) ∷ (1 ∷ []) ∷ (1 ∷ 2 ∷ []) ∷ (2 ∷ 1 ∷ []) ∷ (1 ∷ 2 ∷ 1 ∷ []) ∷ []) p []
      | false ↦ get_or ([] ∷ (1 ∷ []) ∷ []) p []
    ]

-- from the place 0 to the place k: to its vertex, then to its axis order
unfoldable pub path : ℕ → ℕ → List ℕ
unfolding go_first shorten if_bit to_vertex to_order corners
path n k = shorten (to_vertex (k % corners n) ++ to_order n (k / corners n))

-- the dart at the place k of the cell of d, d at the place 0
unfoldable pub place : ℕ → List ℕ → ℕ → ℕ → ℕ
place n t d k = walk t (path n k) d

-- x is at a place of the cell of d
abbrev pub AtPlace : ℕ → List ℕ → ℕ → ℕ → Type 0
AtPlace n t d x = (k : ℕ) × (k < cell_size n) × (x ≡ place n t d k)

-- ---- darts listed by their places

-- the links of the listed darts are as the numbering says
abbrev pub Follows : ℕ → List ℕ → (ℕ → ℕ) → Type 0
Follows n t c = (i k : ℕ) → i < n → k < cell_size n → link t i (c k) ≡ c (cell_link n i k)

-- c lists the darts of a cell, each once, by their places
pub record Chart (n : ℕ) (t : List ℕ) (c : ℕ → ℕ) : Type 0 where
  pub follow : Follows n t c
  pub apart : (a b : ℕ) → a < b → b < cell_size n → c a ≡ c b → ⊥

-- what there is to test of the places of d
pub record Listed (n : ℕ) (t : List ℕ) (d : ℕ) : Type 0 where
  pub follow : Follows n t (place n t d)
  pub other : (k : ℕ) → 0 < k → k < cell_size n → place n t d k ≢ d
  pub straight : (k : ℕ) → k < cell_size n → Straight n t (place n t d k)
