-- remove d: "cells with marks 1 or 2 become unused. A remaining dart whose link n led into them gets the first dart
-- outside on the walk: link n, then (opposite side, link n) again and again. Opposite side is 1.0.1 for n = 2 and
-- 2.1.0.1.2 for n = 3. All else stays."
use Rattle.std.specs.Prelude.{ℕ, zero, suc, ◌+◌, Bool, true, false, ◌||◌, List, [], ◌∷◌, get_or, eqb}
use Rattle.model.specs.Lists.{count}
use Rattle.model.specs.Table.{unused, slots, link, walk, retable}
use Rattle.model.specs.Sheet.{sheet, sheet_marks}

unfoldable pub opposite : ℕ → List ℕ
opposite n = elim (eqb n 3) [ true ↦ 2 ∷ 1 ∷ 0 ∷ 1 ∷ 2 ∷ [] | false ↦ 1 ∷ 0 ∷ 1 ∷ [] ]

-- 1 or 2, the marks of the layer's cells; 02's R-10: "3 counts as outside"
unfoldable pub cell_mark : ℕ → Bool
cell_mark k = eqb k 1 || eqb k 2

-- x has such a mark
unfoldable pub marked : List ℕ → ℕ → Bool
marked m x = cell_mark (get_or m x 0)

-- how many marks are 1 or 2
unfoldable pub count_marked : List ℕ → ℕ
count_marked m = count 1 m + count 2 m

-- the first dart outside from y on, by opposite side and link n
unfoldable pub outside : ℕ → List ℕ → List ℕ → ℕ → ℕ → ℕ
outside n t m zero y = y
outside n t m (suc fuel) y = elim (marked m y) [ true ↦ outside n t m fuel (link t n (walk t (opposite n) y)) | false ↦ y ]

unfoldable pub removed_link : ℕ → List ℕ → List ℕ → ℕ → ℕ → ℕ
removed_link n t m x j =
    elim (marked m x) [
      | true ↦ unused
      | false ↦ (elim (eqb j n) [ true ↦ outside n t m (slots t) (link t n x) | false ↦ link t j x ])
    ]

unfoldable pub removed : ℕ → List ℕ → List ℕ → List ℕ
removed n t m = retable t (removed_link n t m)

unfoldable pub remove_table : ℕ → List ℕ → ℕ → List ℕ
remove_table n t d = removed n t (sheet_marks n t (sheet n t d))
