-- insert (02, R-5): "Each wall dart h, rising, gets 2 new darts p, q in 2D, 3 (also r) in 3D, in the lowest unused slots in that
-- order". The sentences on the links stand below, each with its dart.
use Rattle.std.specs.Prelude.{ℕ, zero, suc, ◌/◌, ◌%◌, true, false, ◌&&◌, List, [], ◌∷◌, length, get_or, ltb, eqb}
use Rattle.model.specs.Lists.{ones, index_of}
use Rattle.model.specs.Table.{link, retable}
use Rattle.model.specs.NewDarts.{new_dart, slots_for}
use Rattle.model.specs.Wall.{next}

-- link j of x, which is the new dart k of h: p where k is 0, q where it is 1, r where it is 2; nx h is next(h)
unfoldable pub layer_link : ℕ → List ℕ → List ℕ → List ℕ → (ℕ → ℕ) → ℕ → ℕ → ℕ → ℕ → ℕ
-- "p(h).0 = p(h.0)"; in 2D "p(h).1 = q(h)", "sewn to h by link 2"; in 3D "p(h).1 = p(h.1), p(h).2 = q(h)", "sewn to h by link 3"
layer_link n t hs fs nx x h zero j =
    get_or
    (new_dart n hs fs 0 (link t 0 h)
    ∷ elim (eqb n 3) [ true ↦ new_dart n hs fs 0 (link t 1 h) | false ↦ new_dart n hs fs 1 h ]
    ∷ elim (eqb n 3) [ true ↦ new_dart n hs fs 1 h | false ↦ h ]
    ∷ elim (eqb n 3) [ true ↦ h | false ↦ x ]
    ∷ []) j 0
-- in 2D "q(h).0 = q(h.2), q(h).2 = q(next(h))"; in 3D "q(h).0 = q(h.0), q(h).1 = r(h), q(h).3 = q(next(h))"
layer_link n t hs fs nx x h (suc zero) j =
    get_or
    (elim (eqb n 3) [ true ↦ new_dart n hs fs 1 (link t 0 h) | false ↦ new_dart n hs fs 1 (link t 2 h) ]
    ∷ elim (eqb n 3) [ true ↦ new_dart n hs fs 2 h | false ↦ new_dart n hs fs 0 h ]
    ∷ elim (eqb n 3) [ true ↦ new_dart n hs fs 0 h | false ↦ new_dart n hs fs 1 (nx h) ]
    ∷ elim (eqb n 3) [ true ↦ new_dart n hs fs 1 (nx h) | false ↦ x ]
    ∷ []) j 0
-- "r(h).0 = r(h.3), r(h).2 = r(h.1), r(h).3 = r(next(h))"
layer_link n t hs fs nx x h (suc (suc k)) j =
    get_or
    (new_dart n hs fs 2 (link t 3 h)
    ∷ new_dart n hs fs 1 h
    ∷ new_dart n hs fs 2 (link t 1 h)
    ∷ new_dart n hs fs 2 (nx h)
    ∷ []) j 0

-- link j of x: a new dart's; link n of a wall dart leads to its p; all else stays
unfoldable pub laid_link : ℕ → List ℕ → List ℕ → List ℕ → (ℕ → ℕ) → ℕ → ℕ → ℕ
laid_link n t hs fs nx x j =
    let k = index_of x fs in
    elim (ltb k (length fs)) [
      | true ↦ layer_link n t hs fs nx x (get_or hs (k / n) 0) (k % n) j
      | false ↦ (elim (eqb j n && ltb (index_of x hs) (length hs)) [ true ↦ new_dart n hs fs 0 x | false ↦ link t j x ])
    ]

unfoldable pub laid : ℕ → List ℕ → List ℕ → List ℕ → (ℕ → ℕ) → List ℕ
laid n t hs fs nx = retable t (laid_link n t hs fs nx)

-- of the wall whose marks are m
unfoldable pub insert_table : ℕ → List ℕ → List ℕ → List ℕ
insert_table n t m = let hs = ones m in laid n t hs (slots_for n t hs) (next n t m)
