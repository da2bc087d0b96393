-- sheet d: "S is the least set holding d and closed under link 0, the opposite edge 1.0.1, and links 2..n.
-- Marks: 1 in S, 2 for other darts of cells that hold a dart of S, 0 elsewhere"; and 02's R-10: 3 for "a dart outside the
-- layer's cells whose link n leads into them".
use Rattle.std.specs.Prelude.{ℕ, Bool, true, false, ◌&&◌, List, [], ◌∷◌, leb}
use Rattle.model.specs.Lists.{tabulate, ones}
use Rattle.model.specs.Table.{slots, link, live}
use Rattle.model.specs.Reach.{closure, links, in_set}
use Rattle.model.specs.Cell.{cell_words}

unfoldable pub sheet_words : ℕ → List (List ℕ)
sheet_words n = (0 ∷ []) ∷ (1 ∷ 0 ∷ 1 ∷ []) ∷ links n (λ j. leb 2 j)

-- S
unfoldable pub sheet : ℕ → List ℕ → ℕ → List ℕ
sheet n t d = closure t (sheet_words n) (d ∷ [])

-- 1 in S, else 2 in the layer's cells, else 3 where link n leads into them, else 0
unfoldable pub mark_of : Bool → Bool → Bool → ℕ
mark_of in_sheet in_cells leads =
    elim in_sheet [
      | true ↦ 1
      | false ↦ (elim in_cells [ true ↦ 2 | false ↦ (elim leads [ true ↦ 3 | false ↦ 0 ]) ])
    ]

-- the mark of x, where the darts of the layer's cells are c
unfoldable pub mark_at : ℕ → List ℕ → List ℕ → List ℕ → ℕ → ℕ
mark_at n t s c x = mark_of (in_set s x) (in_set c x) (live t x && in_set c (link t n x))

-- the marks of the sheet S; the layer's cells are those that hold a dart of S
unfoldable pub sheet_marks : ℕ → List ℕ → List ℕ → List ℕ
sheet_marks n t s = tabulate (slots t) (mark_at n t s (closure t (cell_words n) (ones s)))
