-- Numbering of a new cell: "Vertex s has bit 1 for x, 2 for y, 4 for z. For n = 3 the dart k = 8p + s, with p = 0..5
-- for the axis orders xyz, xzy, yxz, yzx, zxy, zyx; for n = 2, k = 4p + s with xy, yx."
use Rattle.std.specs.Prelude.{ℕ, ◌+◌, ◌*◌, ◌-◌, ◌/◌, ◌%◌, true, false, ◌&&◌, [], ◌∷◌, get_or, eqb}

-- the number of vertices
unfoldable pub corners : ℕ → ℕ
corners n = elim (eqb n 3) [ true ↦ 8 | false ↦ 4 ]

-- the vertex s with its bit b flipped
unfoldable pub flip : ℕ → ℕ → ℕ
flip b s = elim (eqb (s / b % 2) 1) [ true ↦ s - b | false ↦ s + b ]

-- of the axis order p: the bit of the first axis
unfoldable pub first_bit : ℕ → ℕ → ℕ
first_bit n p = elim (eqb n 3) [ true ↦ get_or (1 ∷ 1 ∷ 2 ∷ 2 ∷ 4 ∷ 4 ∷ []) p 0 | false ↦ get_or (1 ∷ 2 ∷ []) p 0 ]

-- the order with the first two axes exchanged
unfoldable pub swap_first : ℕ → ℕ → ℕ
swap_first n p = elim (eqb n 3) [ true ↦ get_or (2 ∷ 4 ∷ 0 ∷ 5 ∷ 1 ∷ 3 ∷ []) p 0 | false ↦ 1 - p ]

-- the order with the last two axes exchanged (n = 3)
unfoldable pub swap_last : ℕ → ℕ
swap_last p = get_or (1 ∷ 0 ∷ 3 ∷ 2 ∷ 5 ∷ 4 ∷ []) p 0

-- link i of the dart k, as a number of the same cell: "Link 0 flips the bit of the first axis in s; link 1 exchanges
-- the first two axes; link 2 (n = 3) the last two; all other links go to the dart itself."
unfoldable pub cell_link : ℕ → ℕ → ℕ → ℕ
cell_link n i k =
    let c = corners n in
    let p = k / c in
    let s = k % c in
    elim (eqb i 0) [
      | true ↦ c * p + flip (first_bit n p) s
      | false ↦ (elim (eqb i 1) [
        | true ↦ c * swap_first n p + s
        | false ↦ (elim (eqb i 2 && eqb n 3) [ true ↦ c * swap_last p + s | false ↦ k ])
      ])
    ]
