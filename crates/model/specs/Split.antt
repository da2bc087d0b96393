-- split d: "each g in S, rising, gets new darts a, b (for n = 3 also c) in the lowest unused slots in that order.
-- With the links as they were before: .." The sentences on the links stand below, each with its dart.
use Rattle.std.specs.Prelude.{ℕ, zero, suc, ◌/◌, ◌%◌, Bool, true, false, ◌&&◌, ◌||◌, List, [], ◌∷◌, length, get_or, ltb, eqb}
use Rattle.model.specs.Lists.{ones, index_of}
use Rattle.model.specs.Table.{link, walk, retable}
use Rattle.model.specs.Reach.{in_set}
use Rattle.model.specs.Sheet.{sheet}
use Rattle.model.specs.NewDarts.{new_dart, slots_for}

-- "some g in S has g.1 in S", of the darts gs
unfoldable pub crosses : List ℕ → List ℕ → List ℕ → Bool
crosses t s [] = false
crosses t s (g ∷ gs) = in_set s (link t 1 g) || crosses t s gs

-- link j of x, which is the new dart r of g: a where r is 0, b where it is 1, c where it is 2
unfoldable pub new_dart_link : ℕ → List ℕ → List ℕ → List ℕ → ℕ → ℕ → ℕ → ℕ → ℕ
-- "a(g).0 = g", "a(g).1 = b(g)", "a(g).2 = a(g.2)", "a(g).3 = a(g.3)", but for n = 2 the dart itself
new_dart_link n t gs fs x g zero j =
    get_or
    (g
    ∷ new_dart n gs fs 1 g
    ∷ new_dart n gs fs 0 (link t 2 g)
    ∷ elim (eqb n 3) [ true ↦ new_dart n gs fs 0 (link t 3 g) | false ↦ x ]
    ∷ []) j 0
-- "b(g).0 = b(g.1.0.1)", "b(g).1 = a(g)", "b(g).2 = c(g)", "b(g).3 = b(g.3)"; for n = 2 "b(g).2 = b(g.0)" and the dart itself
new_dart_link n t gs fs x g (suc zero) j =
    get_or
    (new_dart n gs fs 1 (walk t (1 ∷ 0 ∷ 1 ∷ []) g)
    ∷ new_dart n gs fs 0 g
    ∷ elim (eqb n 3) [ true ↦ new_dart n gs fs 2 g | false ↦ new_dart n gs fs 1 (link t 0 g) ]
    ∷ elim (eqb n 3) [ true ↦ new_dart n gs fs 1 (link t 3 g) | false ↦ x ]
    ∷ []) j 0
-- "c(g).0 = c(g.1.0.1)", "c(g).1 = c(g.2)", "c(g).2 = b(g)", "c(g).3 = c(g.0)"
new_dart_link n t gs fs x g (suc (suc r)) j =
    get_or
    (new_dart n gs fs 2 (walk t (1 ∷ 0 ∷ 1 ∷ []) g)
    ∷ new_dart n gs fs 2 (link t 2 g)
    ∷ new_dart n gs fs 1 g
    ∷ new_dart n gs fs 2 (link t 0 g)
    ∷ []) j 0

-- link j of x: a new dart's, "g.0 = a(g)" for the darts of S; "All else stays."
unfoldable pub split_link : ℕ → List ℕ → List ℕ → List ℕ → ℕ → ℕ → ℕ
split_link n t gs fs x j =
    let k = index_of x fs in
    elim (ltb k (length fs)) [
      | true ↦ new_dart_link n t gs fs x (get_or gs (k / n) 0) (k % n) j
      | false ↦ (elim (eqb j 0 && ltb (index_of x gs) (length gs)) [ true ↦ new_dart n gs fs 0 x | false ↦ link t j x ])
    ]

unfoldable pub split_by : ℕ → List ℕ → List ℕ → List ℕ → List ℕ
split_by n t gs fs = retable t (split_link n t gs fs)

unfoldable pub split_table : ℕ → List ℕ → ℕ → List ℕ
split_table n t d = let gs = ones (sheet n t d) in split_by n t gs (slots_for n t gs)
