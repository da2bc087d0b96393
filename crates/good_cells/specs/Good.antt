-- The tests of a listed cell.
-- Main definitions: `all_follow`, `only_first`, `all_straight`.
use Rattle.std.specs.Prelude.{ℕ, zero, suc, ◌*◌, ◌-◌, ◌/◌, ◌%◌, ◌^◌, Bool, not, ◌&&◌, ◌||◌, List, [], ◌∷◌, length, get_or, eqb, ltb}
use Rattle.model.specs.Lists.{all_below}
use Rattle.model.specs.Table.{link}
use Rattle.model.specs.Cell.{cell_size}
use Rattle.model.specs.Numbering.{corners, cell_link}
use Rattle.numbering.specs.Orders.{next_order, next_vertex, place_of}

-- link i leads from the place k where the numbering says
unfoldable pub follows_at : ℕ → List ℕ → List ℕ → ℕ → ℕ → Bool
follows_at n t cell i k = eqb (link t i (get_or cell k 0)) (get_or cell (cell_link n i k) 0)

-- so it does in the order p at the vertices from a on; an edge is looked at from its lower end
unfoldable pub follow_from : ℕ → List ℕ → List ℕ → ℕ → ℕ → ℕ → Bool
follow_from n t cell i p a =
    all_below (corners n) (λ s. ltb s a || (ltb (next_vertex n i p s) s || follows_at n t cell i (place_of n p s)))

-- the links that are tested: link 0 along x from the vertices that have y or z; in 3D along y from those that have z, and link 2 from zxy
unfoldable pub all_follow : ℕ → List ℕ → List ℕ → Bool
all_follow n t cell =
    follow_from n t cell 0 0 2 && (eqb n 2 || (follow_from n t cell 0 2 4 && follow_from n t cell 2 4 0))

-- the place k is the first, or does not hold d
unfoldable pub not_again : ℕ → List ℕ → ℕ → Bool
not_again d cell k = eqb k 0 || not (eqb (get_or cell k 0) d)

-- no place but the first holds d
unfoldable pub only_first : ℕ → List ℕ → Bool
only_first d cell = all_below (length cell) (not_again d cell)

-- the darts of a side for link n: 2 or 8
unfoldable pub side_size : ℕ → ℕ
side_size n = cell_size n / (2 * n)

-- c places from the place k on, by links i, n-2-i, i, .. in turn
unfoldable pub side_from : ℕ → ℕ → ℕ → ℕ → List ℕ
side_from n zero i k = []
side_from n (suc c) i k = k ∷ side_from n c (n - 2 - i) (cell_link n i k)

-- the order with the axis a last: from the first order that begins with a, links 1 and 2 bring it there
unfoldable pub last_order : ℕ → ℕ → ℕ
last_order n a = next_order n 2 (next_order n 1 ((n - 1) * a))

-- the places of the k-th side, that of the axis k / 2 and the value k % 2 of its bit: links 0, 1, 0, .. lead through them, for n = 2 link 0
unfoldable pub side_of : ℕ → ℕ → List ℕ
side_of n k = side_from n (side_size n) 0 (place_of n (last_order n (k / 2)) (k % 2 * 2 ^ (k / 2)))

-- the place k of the side is its first, or link n does not lead there from the first
unfoldable pub not_led : ℕ → List ℕ → List ℕ → List ℕ → ℕ → Bool
not_led n t cell side k = eqb k 0 || not (eqb (get_or cell (get_or side k 0) 0) (link t n (get_or cell (get_or side 0 0) 0)))

-- link n leads from the first place of the side to no other of it
unfoldable pub is_straight : ℕ → List ℕ → List ℕ → List ℕ → Bool
is_straight n t cell side = all_below (length side) (not_led n t cell side)

unfoldable pub all_straight : ℕ → List ℕ → List ℕ → Bool
all_straight n t cell = all_below (2 * n) (λ k. is_straight n t cell (side_of n k))
