-- Layers of T, 01's three quads in a row, removed in two orders, computed from the definitions (`orders_hold` in proofs/Orders.antt): the
-- two outer layers; the first and the middle one, which touch; all three. `touching_moves` there: what touches a layer can be other
-- darts when the one beside it is removed.
use Rattle.std.specs.Prelude.{ℕ, Bool, true, false, not, ◌&&◌, List, [], ◌∷◌}
use Rattle.model.specs.Lists.{all_below, all_of, equal}
use Rattle.model.specs.Table.{slots, live}
use Rattle.model.specs.Remove.{marked}
use Rattle.model.specs.Calls.{Outcome, remove_call}
use Rattle.model.specs.Runs.{effect}
use Rattle.model.specs.Meaning.Sheets.{marks_of}
use Rattle.model.specs.Meaning.Worked.{Seen, goes, live_are, begin_on, sees_all}
use Rattle.model.specs.Worked.{three, made_of, made}

-- T, three quads in a row
unfoldable pub three_quads : List ℕ
unfolding three made_of made effect
three_quads = made 2 24 three

-- the sheets of d and e share no cell, by their marks
unfoldable pub apart : ℕ → List ℕ → ℕ → ℕ → Bool
apart n t d e = all_below (slots t) (λ x. not (marked (marks_of n t d) x && marked (marks_of n t e) x))

-- these darts are live, and no two of their sheets share a cell
unfoldable pub parted : ℕ → List ℕ → List ℕ → Bool
parted n t [] = true
parted n t (d ∷ ds) = live t d && all_of (apart n t d) ds && parted n t ds

-- removals one after the other: number and count of each, and what the last one left
pub record InTurn : Type 0 where
  pub answers : List ℕ
  pub left : Outcome

unfoldable pub in_turn : ℕ → Outcome → List ℕ → InTurn
in_turn n o [] = record { answers = []; left = o }
in_turn n o (d ∷ ds) =
    let r = remove_call n o.table o.marks o.journal 0 d in
    let rest = in_turn n r ds in
    record { answers = r.number ∷ r.count ∷ rest.answers; left = rest.left }

-- darts of T in one order and in another, what the removals answer in either, and what is seen after them
pub record OrderCase : Type 0 where
  pub label : ℕ
  pub order : List ℕ
  pub other : List ℕ
  pub answers : List ℕ
  pub seen : List Seen

-- with a fresh journal of 400 words: no two of the sheets share a cell, and both orders answer so and leave the same table
unfoldable pub holds_order : OrderCase → Bool
holds_order c =
    let o = begin_on three_quads 400 in
    let one = in_turn 2 o c.order in
    let two = in_turn 2 o c.other in
    parted 2 three_quads c.order
    && equal one.answers c.answers && equal two.answers c.answers
    && equal one.left.table two.left.table && sees_all 2 o one.left c.seen

-- the labels of the cases that do not hold
unfoldable pub failing_orders : List OrderCase → List ℕ
failing_orders [] = []
failing_orders (c ∷ cs) = elim (holds_order c) [ true ↦ failing_orders cs | false ↦ c.label ∷ failing_orders cs ]

-- label, darts in one order, in another, what the removals answer, what is seen
unfoldable pub order_row : ℕ → List ℕ → List ℕ → List ℕ → List Seen → OrderCase
order_row l ds es a ss = record { label = l; order = ds; other = es; answers = a; seen = ss }

unfoldable pub order_cases : List OrderCase
order_cases =
    order_row 11401 (0 ∷ 16 ∷ []) (16 ∷ 0 ∷ []) (0 ∷ 8 ∷ 0 ∷ 8 ∷ [])
    (live_are 8 ∷ goes 12 2 12 ∷ goes 14 2 14 ∷ goes 13 2 13 ∷ goes 15 2 15 ∷ goes 12 0 14 ∷ [])
    ∷ order_row 11402 (0 ∷ 8 ∷ []) (8 ∷ 0 ∷ []) (0 ∷ 8 ∷ 0 ∷ 8 ∷ []) (live_are 8 ∷ goes 20 2 20 ∷ goes 22 2 22 ∷ goes 20 0 22 ∷ [])
    ∷ order_row 11403 (0 ∷ 8 ∷ 16 ∷ []) (16 ∷ 0 ∷ 8 ∷ []) (0 ∷ 8 ∷ 0 ∷ 8 ∷ 0 ∷ 8 ∷ []) (live_are 0 ∷ [])
    ∷ []
