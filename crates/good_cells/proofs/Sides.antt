-- The test of the sides of a listed cell: its rows go through each side, by links 0..n-2, and each place is in one of them. Link n
-- carries a side onto a side, so where it leads from the first dart of each side to no other dart of it, no side is folded.
-- Main theorems: `all_straight_lem` and `straight_all` (the test passes exactly if no side is folded); `round_starts` and `round_next` (the
-- code goes through a side place by place).
use Prim.Native.Nat.{ℕ, zero, suc, ◌+◌, ◌*◌, ◌/◌, ◌%◌, ◌-◌, ◌^◌, ◌≤◌, ◌<◌}
use mathlib.Core.Path.{◌≡◌, refl, sym, ap, ◌∙◌, subst}
use mathlib.Core.Logic.{◌≢◌, inr}
use mathlib.Core.Bool.{Bool, true, false, not, ◌&&◌}
use mathlib.Core.List.{List}
use native.Mathlib.Omega.{arith}
use lib.ListN.{length, get_or}
use lib.Dec.{eqb, ltb}
use borrow.Author.Tests.{ltb-true, eqb-true, eqb-false, eq-eqb, ne_eqb, not-true, not-false}
use Rattle.model.specs.Lists.{index_of, all_below}
use Rattle.model.specs.Table.{link}
use Rattle.model.specs.Cell.{cell_size}
use Rattle.model.specs.Numbering.{corners, cell_link}
use Rattle.model.specs.Sew.{side}
use Rattle.model.specs.Meaning.Maps.{Dim, Straight}
use Rattle.model.specs.Meaning.Sets.{Marked}
use Rattle.model.specs.Meaning.Pairings.{OnSide}
use Rattle.model.specs.Meaning.Places.{place, Follows, Chart}
use Rattle.theorems.proofs.Lists.Scan.{if_eq, clash, and_l, and_r, or_i, below_at, below_of, below_not}
use Rattle.theorems.proofs.Lists.Ones.{member_in, index_in, get_or_index}
use Rattle.theorems.proofs.Maps.Dim.{two_cases}
use Rattle.theorems.proofs.Sewing.Side.{on_side, side_own, side_far, side_within, straight_side}
use Rattle.theorems.proofs.Cells.Chart.{chart_one}
use Rattle.model.specs.Everything.{everything}
use Rattle.model.specs.Meaning.Lists.{member}
use Rattle.numbering.specs.Orders.{orders, next_order, next_vertex, place_of}
use Rattle.numbering.proofs.Orders.{order_low, vertex_low, place_low, next_place}
use Rattle.cells.specs.Listing.{MapDart, places}
use Rattle.good_cells.specs.Good.{side_size, side_from, last_order, side_of, not_led, is_straight, all_straight}
use Rattle.cells.proofs.Listing.{places_at, place_live}

-- ---- the test that link n does not lead to a place

module _ (n : ℕ) (t cell side : List ℕ) where
  -- where it leads
  abbrev Leads : ℕ → Type 0
  Leads to = to ≡ link t n (get_or cell (get_or side 0 0) 0)

  pub first_not_led : not_led n t cell side 0 ≡ true
  unfolding not_led
  first_not_led = refl

  pub not_led_lem : (k to : ℕ) → Leads to → get_or cell (get_or side k 0) 0 ≢ to → not_led n t cell side k ≡ true
  unfolding not_led
  not_led_lem k to e h = or_i (eqb k 0) _ (inr (ap not (ne_eqb _ _ (λ q. h (q ∙ sym e)))))

  pub led : (k to : ℕ) → 0 < k → Leads to → get_or cell (get_or side k 0) 0 ≡ to → not_led n t cell side k ≡ false
  unfolding not_led
  led k to some e h = rw (ne_eqb k 0 (λ q. omega arith), eq-eqb _ _ (h ∙ e))

-- ---- the rows of the sides

-- where in a row a place stands that is in it
member_at : (row : List ℕ) (p : ℕ) → member row p ≡ true → (j : ℕ) × (j < length row) × (get_or row j 0 ≡ p)
member_at row p h = let i = member_in row p h in (index_of p row, index_in row p i, get_or_index row p 0 i)

-- the link by which the j-th place of a row leads to the next: 0, 1, 0, .., for n = 2 always 0
abbrev turn : ℕ → ℕ → ℕ
turn n j = j % 2 * (n - 2)

-- so it does, and the next place is not the first again
is_next : ℕ → List ℕ → ℕ → Bool
is_next n row j = eqb (get_or row (suc j) 0) (cell_link n (turn n j) (get_or row j 0)) && not (eqb (get_or row (suc j) 0) (get_or row 0 0))

-- the j-th place of the row is one of the cell, and links 0..n-2 lead from it to places of the row
is_kept : ℕ → List ℕ → ℕ → Bool
is_kept n row j = ltb (get_or row j 0) (cell_size n) && all_below (n - 1) (λ i. member row (cell_link n i (get_or row j 0)))

is_side : ℕ → List ℕ → Bool
is_side n row =
    eqb (length row) (side_size n) && (all_below (side_size n - 1) (is_next n row) && all_below (side_size n) (is_kept n row))

-- the place p is in one of the sides
in_sides : ℕ → ℕ → Bool
in_sides n p = not (all_below (2 * n) (λ k. not (member (side_of n k) p)))

record Rows (n : ℕ) : Type 0 where
  some : 0 < side_size n
  sides : all_below (2 * n) (λ k. is_side n (side_of n k)) ≡ true
  all : all_below (cell_size n) (in_sides n) ≡ true

rows_true : (n : ℕ) → Dim n → Rows n
unfolding member is_next is_kept is_side in_sides side_size side_from last_order side_of next_order place_of everything
rows_true n dim = two_cases n dim Rows
    (record { some = omega arith; sides = refl; all = refl })
    (record { some = omega arith; sides = refl; all = refl })

-- a row, by what the tests say
pub record Side (n : ℕ) (row : List ℕ) : Type 0 where
  long : length row ≡ side_size n
  next : (j : ℕ) → suc j < side_size n → get_or row (suc j) 0 ≡ cell_link n (turn n j) (get_or row j 0)
  other : (j : ℕ) → suc j < side_size n → get_or row (suc j) 0 ≢ get_or row 0 0
  pub low : (j : ℕ) → j < side_size n → get_or row j 0 < cell_size n
  kept : (j i : ℕ) → j < side_size n → i + 2 ≤ n → (k : ℕ) × (k < side_size n) × (get_or row k 0 ≡ cell_link n i (get_or row j 0))

is_side_lem : (n : ℕ) (row : List ℕ) → is_side n row ≡ true → Side n row
unfolding is_side is_next is_kept
is_side_lem n row h = record {
  long = long;
  next = λ j l. eqb-true _ _ (and_l (leads j) _ (step j l));
  other = λ j l. eqb-false _ _ (not-true _ (and_r (leads j) _ (step j l)));
  low = λ j l. ltb-true _ _ (and_l (ltb (get_or row j 0) (cell_size n)) _ (each j l));
  kept = λ j i l b.
      let there = below_at (λ i. member row (cell_link n i (get_or row j 0))) (n - 1)
      (and_r (ltb (get_or row j 0) (cell_size n)) _ (each j l)) i (omega arith) in
      let (k, low, e) = member_at row (cell_link n i (get_or row j 0)) there in
      (k, omega (arith, long), e);
}
  where
    leads : ℕ → Bool
    leads j = eqb (get_or row (suc j) 0) (cell_link n (turn n j) (get_or row j 0))

    long : length row ≡ side_size n
    long = eqb-true _ _ (and_l (eqb (length row) (side_size n)) _ h)

    later : (all_below (side_size n - 1) (is_next n row) && all_below (side_size n) (is_kept n row)) ≡ true
    later = and_r (eqb (length row) (side_size n)) _ h

    step : (j : ℕ) → suc j < side_size n → is_next n row j ≡ true
    step j l = below_at (is_next n row) (side_size n - 1) (and_l (all_below (side_size n - 1) (is_next n row)) _ later) j (omega arith)

    each : (j : ℕ) → j < side_size n → is_kept n row j ≡ true
    each j l = below_at (is_kept n row) (side_size n) (and_r (all_below (side_size n - 1) (is_next n row)) _ later) j l

pub side_is : (n k : ℕ) → Dim n → k < 2 * n → Side n (side_of n k)
side_is n k dim l = is_side_lem n _ (below_at (λ k. is_side n (side_of n k)) (2 * n) (rows_true n dim).sides k l)

-- each place is in a side
in_a_side : (n p : ℕ) → Dim n → p < cell_size n → (k : ℕ) × (k < 2 * n) × (member (side_of n k) p ≡ true)
unfolding in_sides
in_a_side n p dim l =
    let one = below_at (in_sides n) (cell_size n) (rows_true n dim).all p l in
    let (k, low, f) = below_not (λ k. not (member (side_of n k) p)) (2 * n) (not-true _ one) in
    (k, low, not-false _ f)

-- ---- the sides of a listed cell

module _ {n : ℕ} {t : List ℕ} {d : ℕ} (D : MapDart n t d) where
  abbrev cell : List ℕ
  cell = places n t d

  abbrev dim : Dim n
  dim = D.table.dim

  module _ (follow : Follows n t (place n t d)) (row : List ℕ) (s : Side n row) where
    abbrev dart : ℕ → ℕ
    dart j = place n t d (get_or row j 0)

    abbrev darts : List ℕ
    darts = side n t n (dart 0)

    some : 0 < side_size n
    some = (rows_true n dim).some

    on : OnSide n t n (dart 0)
    on = on_side D.table _ (place_live D _ (s.low 0 some))

    -- the darts at its places are in the side ..
    row_in : (j : ℕ) → j < side_size n → Marked darts (dart j)
    row_in zero l = side_own on
    row_in (suc j) l =
        let i = turn n j in
        let top = dim.1 in
        let near : i + 2 ≤ n = two_cases n dim (λ n. turn n j + 2 ≤ n) (omega arith) (omega arith) in
        let at : link t i (dart j) ≡ dart (suc j)
        = follow i (get_or row j 0) (omega arith) (s.low j (omega arith)) ∙ ap (place n t d) (sym (s.next j l)) in
        subst (Marked darts) at (side_far on (dart j) i (row_in j (omega arith)) (inr near) (omega arith))

    -- .. and all of it
    in_side : (y : ℕ) → Marked darts y → (j : ℕ) × (j < side_size n) × (y ≡ dart j)
    in_side = side_within n t (dart 0) (λ y. (j : ℕ) × (j < side_size n) × (y ≡ dart j)) (0, some, refl) (λ y i near (j, l, e).
        let (k, low, q) = s.kept j i l near in
        (k, low, ap (link t i) e ∙ follow i (get_or row j 0) (omega arith) (s.low j l) ∙ ap (place n t d) (sym q)))

    cell_at : (j : ℕ) → j < side_size n → get_or cell (get_or row j 0) 0 ≡ dart j
    cell_at j l = places_at D _ (s.low j l)

    first_to : Leads n t cell row (link t n (dart 0))
    first_to = ap (link t n) (sym (cell_at 0 some))

    test_straight : is_straight n t cell row ≡ true → Straight n t (dart 0)
    unfolding is_straight
    test_straight h m =
        let (j, l, e) = in_side (link t n (dart 0)) m in
        if_eq j 0 (λ q. e ∙ ap dart q) (λ q.
        let passed = below_at (not_led n t cell row) (length row) h j (rw s.long l) in
        absurd (clash passed (led n t cell row j (link t n (dart 0)) (omega arith) first_to (cell_at j l ∙ sym e))))

    straight_test : Chart n t (place n t d) → Straight n t (dart 0) → is_straight n t cell row ≡ true
    unfolding is_straight
    straight_test chart straight = below_of _ _ each
      where
        each : (j : ℕ) → j < length row → not_led n t cell row j ≡ true
        each zero l = first_not_led n t cell row
        each (suc j) l =
            let low : suc j < side_size n = rw s.long at l in
            not_led_lem n t cell row (suc j) (link t n (dart 0)) first_to (λ e.
            let here = sym (cell_at (suc j) low) ∙ e in
            let own = straight (subst (Marked darts) here (row_in (suc j) low)) in
            s.other j low (chart_one chart _ _ (s.low (suc j) low) (s.low 0 some) (here ∙ own)))

  -- ---- all sides

  -- the first dart of each side tells of all
  pub firsts_straight : Follows n t (place n t d)
      → ((k : ℕ) → k < 2 * n → Straight n t (place n t d (get_or (side_of n k) 0 0)))
      → (p : ℕ) → p < cell_size n → Straight n t (place n t d p)
  firsts_straight follow firsts p l =
      let (k, low, f) = in_a_side n p dim l in
      let row = side_of n k in
      let s = side_is n k dim low in
      let (j, lj, e) = member_at row p f in
      subst (λ (p : ℕ). Straight n t (place n t d p)) e
      (straight_side (on follow row s) (firsts k low) _ (row_in follow row s j (rw s.long at lj)))

  pub all_straight_lem : Follows n t (place n t d) → all_straight n t (places n t d) ≡ true
      → (p : ℕ) → p < cell_size n → Straight n t (place n t d p)
  unfolding all_straight
  all_straight_lem follow h = firsts_straight follow (λ k low.
      test_straight follow (side_of n k) (side_is n k dim low)
      (below_at (λ k. is_straight n t cell (side_of n k)) (2 * n) h k low))

  pub straight_all : Chart n t (place n t d) → ((p : ℕ) → p < cell_size n → Straight n t (place n t d p))
      → all_straight n t (places n t d) ≡ true
  unfolding all_straight
  straight_all chart straight = below_of _ _ (λ k l.
      let s = side_is n k dim l in
      straight_test chart.follow (side_of n k) s chart (straight _ (s.low 0 (rows_true n dim).some)))

-- ---- round a side, place by place

-- at the j-th place of the k-th side, the vertex s in the order p; the link `by` leads to the next
pub record Round (n k j p s by : ℕ) : Type 0 where
  pub order : p < orders n
  pub vertex : s < corners n
  pub at : place_of n p s ≡ get_or (side_of n k) j 0
  pub link : by ≡ turn n j

-- the vertex that the k-th side begins at, as the code works it out, is one, and at the side's first place
is_first : ℕ → ℕ → Bool
is_first n k =
    ltb (k % 2 * 2 ^ (k / 2) % 4294967296) (corners n)
    && eqb (place_of n (last_order n (k / 2)) (k % 2 * 2 ^ (k / 2) % 4294967296)) (get_or (side_of n k) 0 0)

firsts_true : (n : ℕ) → Dim n → all_below (2 * n) (is_first n) ≡ true
unfolding is_first side_size side_from last_order side_of next_order place_of everything
firsts_true n dim = two_cases n dim (λ n. all_below (2 * n) (is_first n) ≡ true) refl refl

module _ (n k : ℕ) (dim : Dim n) (low : k < 2 * n) where
  pub axis_first : (n - 1) * (k / 2) < orders n
  unfolding orders
  axis_first = two_cases n dim (λ n. k < 2 * n → (n - 1) * (k / 2) < orders n) (λ h. omega arith) (λ h. omega arith) low

  is_first_lem : is_first n k ≡ true
  is_first_lem = below_at (is_first n) (2 * n) (firsts_true n dim) k low

  pub round_starts : (q p s by : ℕ) → q ≡ next_order n 1 ((n - 1) * (k / 2)) → p ≡ next_order n 2 q → s ≡ k % 2 * 2 ^ (k / 2) % 4294967296
      → by ≡ 0 → Round n k 0 p s by
  unfolding is_first last_order
  round_starts q p s by eq ep es eb = record {
    order = rw (ep, eq) (order_low n dim _ (order_low n dim _ axis_first 1) 2);
    vertex = rw es (ltb-true _ _ (and_l (ltb (k % 2 * 2 ^ (k / 2) % 4294967296) (corners n)) _ is_first_lem));
    at = rw (ep, eq, es) (eqb-true _ _ (and_r (ltb (k % 2 * 2 ^ (k / 2) % 4294967296) (corners n)) _ is_first_lem));
    link = omega arith;
  }

  pub round_next : {j p s by : ℕ} (q r : ℕ) → suc j < side_size n → Round n k j p s by → q ≡ next_order n by p → r ≡ next_vertex n by p s
      → Round n k (suc j) q r (n - 2 - by)
  round_next {j} {p} {s} {by} q r l R eq er =
      let side = side_is n k dim low in
      record {
        order = rw eq (order_low n dim p R.order by);
        vertex = rw er (vertex_low n dim p R.order s R.vertex by);
        at = rw (eq, er, next_place n dim p R.order s R.vertex by, R.at, R.link) (sym (side.next j l));
        link = rw R.link (two_cases n dim (λ n. n - 2 - turn n j ≡ turn n (suc j)) (omega arith) (omega arith));
      }

  pub turn_few : {j p s by : ℕ} → Round n k j p s by → by ≤ n - 2
  turn_few {j} R = rw R.link (two_cases n dim (λ n. turn n j ≤ n - 2) (omega arith) (omega arith))

  -- a place of the side is one of the cell
  pub round_in : {j p s by : ℕ} → Round n k j p s by → place_of n p s < cell_size n
  round_in R = place_low n dim _ R.order _ R.vertex

  pub side_length : length (side_of n k) ≡ side_size n
  side_length = (side_is n k dim low).long

pub side_some : (n : ℕ) → Dim n → 0 < side_size n
side_some n dim = (rows_true n dim).some

pub side_few : (n : ℕ) → Dim n → side_size n ≤ 8
unfolding side_size cell_size
side_few n dim = two_cases n dim (λ n. side_size n ≤ 8) (omega arith) (omega arith)

pub side_solid : (n : ℕ) → n ≡ 3 → side_size n ≡ 8
unfolding side_size cell_size
side_solid n e = rw e

pub side_flat : (n : ℕ) → Dim n → n ≢ 3 → side_size n ≡ 2
unfolding side_size cell_size
side_flat n dim e = let two : n ≡ 2 = let h = dim.1 in let g = dim.0 in omega arith in rw two
