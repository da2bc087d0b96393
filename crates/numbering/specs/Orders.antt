-- A place of a cell by its axis order and its vertex. The orders are xy, yx for n = 2; xyz, xzy, yxz, yzx, zxy, zyx for n = 3.
-- Main definitions: `place_of`, `next_order`, `next_vertex`.
use Rattle.std.specs.Prelude.{ℕ, ◌+◌, ◌*◌, ◌-◌, ◌/◌, ◌%◌, true, false, ◌&&◌, eqb, ltb}
use Rattle.model.specs.Numbering.{corners, flip, first_bit, swap_first, swap_last}

-- how many orders there are
unfoldable pub orders : ℕ → ℕ
orders n = elim (eqb n 3) [ true ↦ 6 | false ↦ 2 ]

-- the place of the vertex s in the order p
unfoldable pub place_of : ℕ → ℕ → ℕ → ℕ
place_of n p s = corners n * p + s

-- the first axis of the order p: 0 for x, 1 for y, 2 for z
unfoldable pub first_axis : ℕ → ℕ → ℕ
first_axis n p = elim (eqb n 3) [ true ↦ p / 2 | false ↦ p ]

-- the second axis of the order p of three axes: of the two orders with the same first axis, the lower of the axes left follows it in
-- one, the higher in the other
unfoldable pub second_axis : ℕ → ℕ
second_axis p = elim (ltb (p % 2) (p / 2)) [ true ↦ p % 2 | false ↦ p % 2 + 1 ]

-- the order of three axes that begins with a, b
unfoldable pub order_of : ℕ → ℕ → ℕ
order_of a b = elim (ltb b a) [ true ↦ 2 * a + b | false ↦ 2 * a + b - 1 ]

-- the order that link i leads to from the order p
unfoldable pub next_order : ℕ → ℕ → ℕ → ℕ
next_order n i p =
    elim (eqb i 1) [
      | true ↦ swap_first n p
      | false ↦ (elim (eqb i 2 && eqb n 3) [ true ↦ swap_last p | false ↦ p ])
    ]

-- the vertex that link i leads to from the vertex s in the order p
unfoldable pub next_vertex : ℕ → ℕ → ℕ → ℕ → ℕ
next_vertex n i p s = elim (eqb i 0) [ true ↦ flip (first_bit n p) s | false ↦ s ]
