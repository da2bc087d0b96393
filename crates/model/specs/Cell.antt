-- Cell: "all darts reached by links 0..n-1".
-- Block map: "a map where each cell has exactly 8 darts (n = 2) or 48 (n = 3), and from each dart going 0, 1 four
-- times returns, and for n = 3 going 1, 2 three times returns." And by 02's R-4: "a block map also has no live dart d whose
-- link n leads to a different dart of d's own side under links 0..n-2"; "such a dart's cell is a wrong cell."
use Rattle.std.specs.Prelude.{ℕ, suc, Bool, true, false, not, ◌&&◌, List, [], ◌∷◌, ltb, eqb}
use Rattle.model.specs.Lists.{count, least}
use Rattle.model.specs.Table.{slots, link, live}
use Rattle.model.specs.Map.{returns}
use Rattle.model.specs.Reach.{closure, links, in_set}
use Rattle.model.specs.Sew.{side}

unfoldable pub cell_words : ℕ → List (List ℕ)
cell_words n = links n (λ j. ltb j n)

unfoldable pub cell_of : ℕ → List ℕ → ℕ → List ℕ
cell_of n t d = closure t (cell_words n) (d ∷ [])

unfoldable pub cell_size : ℕ → ℕ
cell_size n = elim (eqb n 3) [ true ↦ 48 | false ↦ 8 ]

-- from x going 0, 1 four times returns, and for n = 3 going 1, 2 three times
unfoldable pub turns : ℕ → List ℕ → ℕ → Bool
turns n t x =
    returns t (0 ∷ 1 ∷ 0 ∷ 1 ∷ 0 ∷ 1 ∷ 0 ∷ 1 ∷ []) x
    && elim (eqb n 3) [ true ↦ returns t (1 ∷ 2 ∷ 1 ∷ 2 ∷ 1 ∷ 2 ∷ []) x | false ↦ true ]

-- link n leads to a different dart of x's own side; the side for link n is the one under links 0..n-2
unfoldable pub folded : ℕ → List ℕ → ℕ → Bool
folded n t x = elim (eqb (link t n x) x) [ true ↦ false | false ↦ in_set (side n t n x) (link t n x) ]

-- what is asked of each dart of a cell
unfoldable pub good_dart : ℕ → List ℕ → ℕ → Bool
good_dart n t x = turns n t x && not (folded n t x)

-- each dart that is in the set is good; the marks are those of the slots from a on
unfoldable pub all_good : ℕ → List ℕ → ℕ → List ℕ → Bool
all_good n t a [] = true
all_good n t a (x ∷ xs) =
    elim (eqb x 1) [
      | true ↦ (elim (good_dart n t a) [ true ↦ all_good n t (suc a) xs | false ↦ false ])
      | false ↦ all_good n t (suc a) xs
    ]

-- what makes a cell, given as marks, no wrong cell
unfoldable pub good_cell : ℕ → List ℕ → List ℕ → Bool
good_cell n t c = eqb (count 1 c) (cell_size n) && all_good n t 0 c

unfoldable pub in_wrong_cell : ℕ → List ℕ → ℕ → Bool
in_wrong_cell n t d = elim (live t d) [ true ↦ not (good_cell n t (cell_of n t d)) | false ↦ false ]

-- "least live slot in a wrong cell", or the number of slots
unfoldable pub least_wrong : ℕ → List ℕ → ℕ
least_wrong n t = least (slots t) (in_wrong_cell n t)

-- of a map: it is a block map
unfoldable pub is_block : ℕ → List ℕ → Bool
is_block n t = eqb (least_wrong n t) (slots t)
