-- The listing of a cell: a step keeps a live slot at each place, and after all steps each place has its dart.
-- Main theorems: `walked_listing`, `around_listing` and `spread_listing`; `listed_flat` and `listed_solid`;
-- `walk_starts`, `walk_next` and `walk_ends` (the loop of a walk).
use Prim.Native.Nat.{ℕ, zero, suc, ◌+◌, ◌*◌, ◌-◌, ◌%◌, ◌^◌, ◌≤◌, ◌<◌}
use mathlib.Core.Path.{◌≡◌, refl, ◌∙◌}
use mathlib.Core.Bool.{true}
use mathlib.Core.List.{List}
use native.Mathlib.Numerals.{add-one}
use native.Mathlib.Omega.{arith}
use lib.ListN.{length, get_or, set, length-set}
use lib.Seq.{get_or-set_same, get_or-set_other}
use Rattle.model.specs.Table.{link, live}
use Rattle.model.specs.Cell.{cell_size}
use Rattle.model.specs.Numbering.{corners, cell_link}
use Rattle.model.specs.Meaning.Places.{path, place}
use Rattle.model.specs.Everything.{everything}
use Rattle.theorems.proofs.Lists.Scan.{if_eq, below_three, length_tab, get_or_tab}
use Rattle.theorems.proofs.Maps.Tables.{live_below, rule_at}
use Rattle.theorems.proofs.Cells.Rows.{row_goes}
use Rattle.theorems.proofs.Cells.Cell.{cell_live, place_in}
use Rattle.numbering.specs.Orders.{orders, next_order, next_vertex, place_of}
use Rattle.numbering.proofs.Orders.{order_low, vertex_low, place_low, next_place}
use Rattle.cells.specs.Listing.{MapDart, places, start, Listing, stepped, walked, around, spread}

-- ---- the darts of a cell by their places

module _ {n : ℕ} {t : List ℕ} {d : ℕ} (D : MapDart n t d) where
  pub places_length : length (places n t d) ≡ cell_size n
  unfolding places
  places_length = length_tab (place n t d) (cell_size n)

  pub places_at : (k : ℕ) → k < cell_size n → get_or (places n t d) k 0 ≡ place n t d k
  unfolding places
  places_at k l = get_or_tab (place n t d) (cell_size n) k 0 l

  pub place_live : (k : ℕ) → k < cell_size n → live t (place n t d k) ≡ true
  place_live k l = cell_live D.table d D.lives _ (place_in D.table d D.lives k l)

  pub places_listing : Listing n t (places n t d)
  places_listing = record { table = D.table; long = places_length; lives = λ k l. rw (places_at k l) (place_live k l) }

-- ---- steps

-- link i of the dart at the place k is there
pub link_there : {n : ℕ} {t cell : List ℕ} → Listing n t cell → (i k : ℕ) → i ≤ n → k < cell_size n → 4 * get_or cell k 0 + i < length t
link_there L i k by at =
    let inside = live_below L.table _ (L.lives k at) in
    let whole = L.table.whole in
    let top = L.table.dim.1 in
    omega arith

module _ {n : ℕ} {t cell : List ℕ} (L : Listing n t cell) (i k : ℕ) (by : i < n) (at : k < cell_size n) where
  pub step_goes : cell_link n i k < cell_size n
  step_goes = let top = L.table.dim.1 in row_goes n k L.table.dim at i (omega arith)

  pub stepped_listing : Listing n t (stepped n t i k cell)
  unfolding stepped
  stepped_listing =
      let top = L.table.dim.1 in
      let long = L.long in
      let goes = step_goes in
      let next = (rule_at L.table _ (L.lives k at)).goes i (omega arith) in
      record {
        table = L.table;
        long = length-set cell _ _ ∙ L.long;
        lives = λ m l.
            if_eq m (cell_link n i k)
            (λ e. rw (e, get_or-set_same cell (cell_link n i k) _ 0 (omega arith)) next)
            (λ e. rw (get_or-set_other cell (cell_link n i k) m _ 0 e) (L.lives m l));
      }

pub walked_listing : {n : ℕ} {t : List ℕ} (c i j k : ℕ) {cell : List ℕ} → i < n → j < n → k < cell_size n → Listing n t cell
    → Listing n t (walked n t c i j k cell)
unfolding walked
walked_listing zero i j k hi hj hk L = L
walked_listing (suc c) i j k hi hj hk L =
    walked_listing c j i _ hj hi (step_goes L i k hi hk) (stepped_listing L i k hi hk)

pub around_listing : {t : List ℕ} (far k : ℕ) {cell : List ℕ} → k < 48 → Listing 3 t cell → Listing 3 t (around t far k cell)
unfolding around cell_size
around_listing far k low L =
    walked_listing (5 - far) 2 1 k (omega arith) (omega arith) low (walked_listing far 1 2 k (omega arith) (omega arith) low L)

-- no axis has more edges than a face has vertices
pub bit_few : (a : ℕ) → a < 3 → 2 ^ a ≤ 4
bit_few = below_three (λ a. 2 ^ a ≤ 4) (omega arith) (omega arith) (omega arith)

pub bit_is : (a : ℕ) → a < 3 → 1 * 2 ^ a % 4294967296 ≡ 2 ^ a
bit_is = below_three (λ a. 1 * 2 ^ a % 4294967296 ≡ 2 ^ a) refl refl refl

pub spread_listing : {t : List ℕ} (a far c s : ℕ) {cell : List ℕ} → a < 3 → s + c ≤ 2 ^ a → Listing 3 t cell
    → Listing 3 t (spread t a far c s cell)
unfolding spread place_of corners cell_size
spread_listing a far zero s low ends L = L
spread_listing a far (suc c) s low ends L =
    let few = bit_few a low in
    spread_listing a far c (suc s) low (omega arith)
    (around_listing far _ (omega arith) (walked_listing 1 0 0 _ (omega arith) (omega arith) (omega arith) L))

-- from a vertex to the next
pub spread_next : (t : List ℕ) (a far c s bit : ℕ) (cell once both end : List ℕ) → bit ≡ 2 ^ a
    → once ≡ walked 3 t 1 0 0 (place_of 3 (2 * a) s) cell → both ≡ around t far (place_of 3 (2 * a) (s + bit)) once
    → spread t a far (suc c) s cell ≡ end → spread t a far c (s + 1) both ≡ end
unfolding spread
spread_next t a far c s bit cell once both end e f g h = rw (g, f, e, add-one s) h

pub spread_none : (t : List ℕ) (a far s : ℕ) (cell end : List ℕ) → spread t a far 0 s cell ≡ end → cell ≡ end
unfolding spread
spread_none t a far s cell end h = h

-- ---- all steps

pub listed_flat : (t : List ℕ) (d : ℕ) → walked 2 t 3 1 0 (place_of 2 0 0) (walked 2 t 4 0 1 (place_of 2 0 0) (start 2 d)) ≡ places 2 t d
unfolding stepped walked start place_of places place path everything
listed_flat t d = refl

pub listed_solid : (t : List ℕ) (d : ℕ)
    → spread t 2 5 (2 ^ 2) 0 (spread t 1 3 (2 ^ 1) 0 (spread t 0 3 (2 ^ 0) 0 (around t 3 (place_of 3 0 0) (start 3 d)))) ≡ places 3 t d
unfolding stepped walked around spread start place_of places place path everything
listed_solid t d = refl

-- ---- a walk on its way

-- at the vertex s in the order p, with `left` links to go, the next of them `by`; the walk ends with the list `end`
pub record Walking (n : ℕ) (t : List ℕ) (i j : ℕ) (end cell : List ℕ) (p s by left : ℕ) : Type 0 where
  pub listing : Listing n t cell
  pub order : p < orders n
  pub vertex : s < corners n
  pub link : by < n
  pub other : i + j - by < n
  pub turns : by ≤ i + j
  pub ends : walked n t left by (i + j - by) (place_of n p s) cell ≡ end

module _ (n : ℕ) (t : List ℕ) (i j : ℕ) where
  pub walk_starts : (count p s : ℕ) (cell : List ℕ) → Listing n t cell → p < orders n → s < corners n → i < n → j < n
      → Walking n t i j (walked n t count i j (place_of n p s) cell) cell p s i (count - 0)
  walk_starts count p s cell L hp hs hi hj =
      let back : i + j - i ≡ j = omega arith in
      let whole : count - 0 ≡ count = omega arith in
      record {
        listing = L;
        order = hp;
        vertex = hs;
        link = hi;
        other = omega arith;
        turns = omega arith;
        ends = rw (back, whole);
      }

  -- the place that it is at
  pub walk_at : {end cell : List ℕ} {p s by left : ℕ} → Walking n t i j end cell p s by left → place_of n p s < cell_size n
  walk_at W = place_low n W.listing.table.dim _ W.order _ W.vertex

  pub walk_next : {end cell : List ℕ} {p s by left : ℕ} → Walking n t i j end cell p s by (suc left) → (q r at from x : ℕ)
      → q ≡ next_order n by p → r ≡ next_vertex n by p s → at ≡ place_of n q r → from ≡ get_or cell (place_of n p s) 0 → x ≡ link t by from
      → Walking n t i j end (set cell at x) q r (i + j - by) left
  unfolding stepped walked
  walk_next {end} {cell} {p} {s} {by} W q r at from x eq er ea ef ex =
      let dim = W.listing.table.dim in
      let turns = W.turns in
      let low = W.link in
      let back : i + j - (i + j - by) ≡ by = omega arith in
      let next = next_place n dim p W.order s W.vertex by in
      let put : set cell at x ≡ stepped n t by (place_of n p s) cell = rw (ea, ex, ef, eq, er, next) in
      record {
        listing = rw put (stepped_listing W.listing by _ W.link (walk_at W));
        order = rw eq (order_low n dim p W.order by);
        vertex = rw er (vertex_low n dim p W.order s W.vertex by);
        link = W.other;
        other = omega arith;
        turns = omega arith;
        ends = rw (put, back, eq, er, next) W.ends;
      }

  pub walk_ends : {end cell : List ℕ} {p s by : ℕ} → Walking n t i j end cell p s by 0 → cell ≡ end
  unfolding walked
  walk_ends W = W.ends
