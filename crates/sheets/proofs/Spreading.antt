-- Spreading a sheet cell by cell: what holds at first (`spreading_start`), when a dart that waits has the mark 1 already
-- (`spreading_taken`), when its cell can be spread (`begins_of`) and when it is (`spreading_next`).
use Prim.Native.Nat.{ℕ, zero, suc, ◌+◌, ◌*◌, ◌-◌, ◌≤◌, ◌<◌}
use mathlib.Core.Path.{◌≡◌, refl, sym, ap, ◌∙◌}
use mathlib.Core.Logic.{◌⊎◌, inl, inr, ◌≢◌, ⊎_elim}
use mathlib.Core.Bool.{true}
use mathlib.Core.List.{List}
use native.Mathlib.Omega.{arith}
use lib.ListN.{length, get_or, replicate, length-replicate}
use Rattle.model.specs.Lists.{count}
use Rattle.model.specs.Table.{slots, link, live}
use Rattle.model.specs.Cell.{cell_size}
use Rattle.model.specs.Sheet.{sheet}
use Rattle.model.specs.Meaning.Maps.{Dim, MapTable, BlockTable}
use Rattle.model.specs.Meaning.Sets.{Marked}
use Rattle.model.specs.Meaning.Places.{place}
use Rattle.model.specs.Meaning.Sheets.{BlockDart, InCells, half}
use Rattle.theorems.proofs.Lists.Scan.{if_eq, if_lt}
use Rattle.theorems.proofs.Lists.Ones.{ones_of, ones_in}
use Rattle.theorems.proofs.Sets.Pigeon.{count_none, count_most}
use Rattle.theorems.proofs.Maps.Dim.{two_cases}
use Rattle.theorems.proofs.Maps.Tables.{map_table, live_below}
use Rattle.theorems.proofs.Cells.Rows.{rows_in, path_zero}
use Rattle.theorems.proofs.Cells.Cell.{place_in}
use Rattle.theorems.proofs.Cells.Chart.{place_chart, place_one, place_live}
use Rattle.theorems.proofs.Layers.Walk.{link_live, link_back}
use Rattle.theorems.proofs.Layers.Sheet.{sheet_own, sheet_live, sheet_of}
use Rattle.theorems.proofs.Layers.Half.{in_half_lem}
use Rattle.cells.specs.Listing.{MapDart, places}
use Rattle.cells.proofs.Listing.{places_length, places_at, places_listing}
use Rattle.sheets.specs.Spread.{sides, side_start, ListedBelow, Fresh, Firsts, Inner, over, Ready, Spread, Begins}
use Rattle.sheets.specs.Found.{Awaits, Spreading}
use Rattle.sheets.proofs.Halves.{half_half, half_back, half_over, size_half, start_low}
use Rattle.sheets.proofs.Marks.{firsts_none, firsts_next}

-- ---- numbers

pub half_some : (n : ℕ) → Dim n → 0 < half n
unfolding half
half_some n dim = two_cases n dim (λ n. 0 < half n) (omega arith) (omega arith)

-- the cell's words wait, and as many darts as it has first places are new
room_next : (n : ℕ) → Dim n → (size found r : ℕ) → 0 < size → half n * size ≤ half n + (sides n - 1) * found
    → r ≤ size - 1 + sides n → half n * r ≤ half n + (sides n - 1) * (found + half n)
unfolding half
room_next n dim = two_cases n dim (λ n. (size found r : ℕ) → 0 < size → half n * size ≤ half n + (sides n - 1) * found
    → r ≤ size - 1 + sides n → half n * r ≤ half n + (sides n - 1) * (found + half n))
    (λ size found r a b c. omega arith) (λ size found r a b c. omega arith)

room_less : (n : ℕ) → Dim n → (size found : ℕ) → half n * size ≤ half n + (sides n - 1) * found
    → half n * (size - 1) ≤ half n + (sides n - 1) * found
unfolding half
room_less n dim = two_cases n dim (λ n. (size found : ℕ) → half n * size ≤ half n + (sides n - 1) * found
    → half n * (size - 1) ≤ half n + (sides n - 1) * found) (λ size found a. omega arith) (λ size found a. omega arith)

-- half a word for each slot is enough
room_enough : (n : ℕ) → Dim n → (size found slots long : ℕ) → 0 < size → half n * size ≤ half n + (sides n - 1) * found
    → found + half n ≤ slots → slots ≤ 2 * long → size - 1 + sides n ≤ long
unfolding half
room_enough n dim = two_cases n dim (λ n. (size found slots long : ℕ) → 0 < size → half n * size ≤ half n + (sides n - 1) * found
    → found + half n ≤ slots → slots ≤ 2 * long → size - 1 + sides n ≤ long)
    (λ size found slots long a b c e. omega arith) (λ size found slots long a b c e. omega arith)

-- no more wait than there are words
room_within : (n : ℕ) → Dim n → (size found slots long : ℕ) → half n * size ≤ half n + (sides n - 1) * found
    → found ≤ slots → slots ≤ 2 * long → 0 < long → size ≤ long
unfolding half
room_within n dim = two_cases n dim (λ n. (size found slots long : ℕ) → half n * size ≤ half n + (sides n - 1) * found
    → found ≤ slots → slots ≤ 2 * long → 0 < long → size ≤ long)
    (λ size found slots long a b c e. omega arith) (λ size found slots long a b c e. omega arith)

room_few : (n : ℕ) → Dim n → (size found slots : ℕ) → half n * size ≤ half n + (sides n - 1) * found → found ≤ slots → size ≤ 1 + slots
unfolding half
room_few n dim = two_cases n dim (λ n. (size found slots : ℕ) → half n * size ≤ half n + (sides n - 1) * found → found ≤ slots
    → size ≤ 1 + slots) (λ size found slots a b. omega arith) (λ size found slots a b. omega arith)

room_first : (n : ℕ) → Dim n → half n * 1 ≤ half n + (sides n - 1) * 0
unfolding half
room_first n dim = two_cases n dim (λ n. half n * 1 ≤ half n + (sides n - 1) * 0) (omega arith) (omega arith)

-- with each cell, what is left falls
pub falls : (n : ℕ) → Dim n → (size found r slots : ℕ) → 0 < size → r ≤ size - 1 + sides n → found + half n ≤ slots
    → r + (slots - (found + half n)) < size + (slots - found)
unfolding half
falls n dim = two_cases n dim (λ n. (size found r slots : ℕ) → 0 < size → r ≤ size - 1 + sides n → found + half n ≤ slots
    → r + (slots - (found + half n)) < size + (slots - found))
    (λ size found r slots a b c. omega arith) (λ size found r slots a b c. omega arith)

-- darts without the mark 1 are not among those that have it
pub fresh_few : {m cell : List ℕ} {k : ℕ} → Fresh m cell k → count 1 m + k ≤ length m
fresh_few {m} {cell} {k} F =
    let (r, R) = all k (omega arith) in
    let most = count_most r in
    let long = R.long in
    let size = R.size in
    omega arith
  where
    all : (j : ℕ) → j ≤ k → (r : List ℕ) × Firsts m cell j r
    all zero h = (m, firsts_none m cell)
    all (suc j) h =
        let (r, R) = all j (omega arith) in
        let next = firsts_next F (omega arith) R in
        let same : j + 1 ≡ suc j = omega arith in
        (_, rw same at next)

pub zeros_at : (k x : ℕ) → ◌≡◌ {A = ℕ} (get_or (replicate k 0) x 0) 0
zeros_at zero x = refl
zeros_at (suc k) zero = refl
zeros_at (suc k) (suc x) = zeros_at k x

-- ---- a cell that is to be spread

map_dart : {n : ℕ} {t : List ℕ} {g : ℕ} → BlockDart n t g → MapDart n t g
map_dart G = record { table = map_table G.table; lives = G.lives }

pub cell_dart_lem : {n : ℕ} {t m w : List ℕ} {size g : ℕ} → Begins n t m w size g → MapDart n t g
cell_dart_lem P = map_dart P.dart

module _ {n : ℕ} {t : List ℕ} {g : ℕ} (G : BlockDart n t g) where
  abbrev B : BlockTable n t
  B = G.table

  abbrev at : (k : ℕ) → k < cell_size n → get_or (places n t g) k 0 ≡ place n t g k
  at = places_at (map_dart G)

  pub places_fresh : (m : List ℕ) → length m ≡ slots t → ((j : ℕ) → j < half n → get_or m (place n t g j) 0 ≢ 1)
      → Fresh m (places n t g) (half n)
  places_fresh m long new = record {
    inside = λ j h.
        let low = size_half B j h in
        rw (at j low, long) (live_below (map_table B) _ (place_live B g j G.lives low));
    new = λ j h. rw (at j (size_half B j h)) (new j h);
    apart = λ i j ij h e.
        let low = size_half B j h in
        let below : i < cell_size n = omega arith in
        let same = place_one B g i j G.lives below low (sym (at i below) ∙ e ∙ at j low) in
        omega arith;
  }

pub ready_of : {n : ℕ} {t m w : List ℕ} {size g : ℕ} (cell : List ℕ) → Begins n t m w size g → cell ≡ places n t g
    → Ready n t m cell w size
ready_of {n} {t} {m} {w} {size} {g} cell P e = rw e (record {
  listing = places_listing (map_dart P.dart);
  long = P.long;
  fresh = places_fresh P.dart m P.long P.new;
  room = P.room;
})

-- ---- the dimension k that n is

module _ {n k : ℕ} {t m w : List ℕ} {size : ℕ} (g : ℕ) (same : n ≡ k) where
  pub begins_same : Begins n t m w size g → Begins k t m w size g
  begins_same P = rw same at P

  pub spread_same : {m' v : List ℕ} {r : ℕ} → Spread k t m (places k t g) w size m' v r → Spread n t m (places n t g) w size m' v r
  spread_same Q = rw same Q

-- ---- on the way to the sheet of d

module _ {n : ℕ} {t : List ℕ} {d : ℕ} (D : BlockDart n t d) where
  abbrev S : List ℕ
  S = sheet n t d

  abbrev T : MapTable n t
  T = map_table D.table

  pub spreading_start : (w : List ℕ) → get_or w 0 0 ≡ d → Spreading n t d (replicate (slots t) 0) w 1 0
  spreading_start w first = record {
    long = length-replicate (slots t) 0;
    few = λ x. rw (zeros_at (slots t) x) (omega arith);
    within = λ x e. absurd (none x e);
    waits = λ i h. let zero : i ≡ 0 = omega arith in rw (zero, first) (sheet_own D);
    firsts = λ x p e. absurd (none x e);
    across = λ x e. absurd (none x e);
    cells = λ x e. absurd (not_inner x e);
    whole = λ x j h e. absurd (not_inner x e);
    outer = λ x e. absurd (let z = zeros_at (slots t) x in omega arith);
    led = λ x e. absurd (let z = zeros_at (slots t) x in omega arith);
    begun = inr (0, 0, omega arith, half_some n D.table.dim, rw first (path_zero n D.table.dim t d));
    number = sym (count_none (replicate (slots t) 0) none);
    room = room_first n D.table.dim;
  }
    where
      none : (x : ℕ) → Marked (replicate (slots t) 0) x → ⊥
      none x e = let z = zeros_at (slots t) x in omega arith

      not_inner : (x : ℕ) → Inner (replicate (slots t) 0) x → ⊥
      not_inner x e = let z = zeros_at (slots t) x in ⊎_elim (λ one. omega arith) (λ two. omega arith) e

  -- some word can wait
  pub some_room : (long : ℕ) → slots t ≤ 2 * long → 0 < long
  some_room long enough = let low = live_below T d D.lives in omega arith

  module _ {m w : List ℕ} {size found : ℕ} (P : Spreading n t d m w size found) where
    found_most : found ≤ slots t
    found_most =
        let most = count_most m in
        let long = P.long in
        let number = P.number in
        omega arith

    pub size_few : size ≤ 1 + slots t
    size_few = room_few n D.table.dim size found (slots t) P.room found_most

    pub size_within : slots t ≤ 2 * length w → size ≤ length w
    size_within enough =
        room_within n D.table.dim size found (slots t) (length w) P.room found_most enough (some_room (length w) enough)

  module _ {m w : List ℕ} {size found : ℕ} (P : Spreading n t d m w size found) (some : 0 < size) where
    -- the dart that is taken
    abbrev g : ℕ
    g = get_or w (size - 1) 0

    pub taken_dart : BlockDart n t (get_or w (size - 1) 0)
    taken_dart = record { table = D.table; lives = sheet_live D g (P.waits (size - 1) (omega arith)) }

    -- it has the mark 1 already
    pub spreading_taken : get_or m (get_or w (size - 1) 0) 0 ≡ 1 → Spreading n t d m w (size - 1) found
    spreading_taken one = record {
      long = P.long;
      few = P.few;
      within = P.within;
      waits = λ i h. P.waits i (omega arith);
      firsts = P.firsts;
      across = λ x e. ⊎_elim inl (fewer (link t n x)) (P.across x e);
      cells = P.cells;
      whole = P.whole;
      outer = P.outer;
      led = P.led;
      begun = ⊎_elim inl (fewer d) P.begun;
      number = P.number;
      room = room_less n D.table.dim size found P.room;
    }
      where
        fewer : (y : ℕ) → Awaits n t w size y → (get_or m y 0 ≡ 1) ⊎ Awaits n t w (size - 1) y
        fewer y (i, p, hi, hp, e) = if_eq i (size - 1)
            (λ q. inl (rw (e, q) (P.firsts g p one hp)))
            (λ q. inr (i, p, omega arith, hp, e))

    -- it has not: its cell can be spread
    module _ (new : get_or m (get_or w (size - 1) 0) 0 ≢ 1) where
      firsts_new : (j : ℕ) → j < half n → get_or m (place n t g j) 0 ≢ 1
      firsts_new j h e =
          let (q, hq, back) = half_back D.table g taken_dart.lives j h in
          new (rw back at (P.firsts (place n t g j) q e hq))

      pub found_few : found + half n ≤ slots t
      found_few =
          let few = fresh_few (places_fresh taken_dart m P.long firsts_new) in
          let long = P.long in
          let number = P.number in
          omega arith

      pub begins_of : slots t ≤ 2 * length w → Begins n t m w (size - 1) (get_or w (size - 1) 0)
      begins_of enough = record {
        dart = taken_dart;
        long = P.long;
        new = firsts_new;
        room = room_enough n D.table.dim size found (slots t) (length w) some P.room found_few enough;
      }

    -- and is
    module _ {m' v : List ℕ} {r : ℕ} (Q : Spread n t m (places n t g) w (size - 1) m' v r) where
      abbrev c : ℕ → ℕ
      c = place n t g

      lives : live t g ≡ true
      lives = taken_dart.lives

      in_sheet_lem : Marked S g
      in_sheet_lem = P.waits (size - 1) (omega arith)

      long_cell : length (places n t g) ≡ cell_size n
      long_cell = places_length (map_dart taken_dart)

      abbrev First : ℕ → Type 0
      First x = (k : ℕ) × (k < half n) × (x ≡ c k)

      abbrev Placed : ℕ → Type 0
      Placed x = (k : ℕ) × (k < cell_size n) × (x ≡ c k)

      first_one : (k : ℕ) → k < half n → get_or m' (c k) 0 ≡ 1
      first_one k h = rw (at taken_dart k (size_half D.table k h)) at (Q.first k h)

      placed_inner : (k : ℕ) → k < cell_size n → Inner m' (c k)
      placed_inner k h = rw (at taken_dart k h) at (Q.listed k (rw long_cell h))

      as_first : (x : ℕ) → ListedBelow (places n t g) (half n) x → First x
      as_first x (k, h, e) = (k, h, e ∙ at taken_dart k (size_half D.table k h))

      as_placed : (x : ℕ) → ListedBelow (places n t g) (length (places n t g)) x → Placed x
      as_placed x (k, h, e) = let low : k < cell_size n = rw long_cell at h in (k, low, e ∙ at taken_dart k low)

      first_placed : (x : ℕ) → First x → Placed x
      first_placed x (k, h, e) = (k, size_half D.table k h, e)

      ones_kept : (x : ℕ) → get_or m x 0 ≡ 1 → get_or m' x 0 ≡ 1
      ones_kept x e = ⊎_elim (λ same. same ∙ e) (⊎_elim (λ (_, one). one)
          (⊎_elim (λ (_, other, _). absurd (other e)) (λ (none, _, _). absurd (omega arith)))) (Q.only x)

      inner_kept : (x : ℕ) → Inner m x → Inner m' x
      inner_kept x e = ⊎_elim (λ same. ⊎_elim (λ one. inl (same ∙ one)) (λ two. inr (same ∙ two)) e) (⊎_elim (λ (_, one). inl one)
          (⊎_elim (λ (_, _, two). inr two) (λ (none, _, _). absurd (⊎_elim (λ one. omega arith) (λ two. omega arith) e)))) (Q.only x)

      some_kept : (x : ℕ) → get_or m x 0 ≢ 0 → get_or m' x 0 ≢ 0
      some_kept x e z = ⊎_elim (λ same. e (sym same ∙ z)) (⊎_elim (λ (_, one). absurd (omega arith))
          (⊎_elim (λ (_, _, two). absurd (omega arith)) (λ (none, _, _). e none))) (Q.only x)

      one_cases : (x : ℕ) → get_or m' x 0 ≡ 1 → (get_or m x 0 ≡ 1) ⊎ First x
      one_cases x e = ⊎_elim (λ same. inl (sym same ∙ e)) (⊎_elim (λ (f, _). inr (as_first x f))
          (⊎_elim (λ (_, _, two). absurd (omega arith)) (λ (_, three, _). absurd (omega arith)))) (Q.only x)

      placed_two : (x : ℕ) → get_or m' x 0 ≡ 2 → (get_or m x 0 ≡ 2) ⊎ Placed x
      placed_two x e = ⊎_elim (λ same. inl (sym same ∙ e)) (⊎_elim (λ (_, one). absurd (omega arith))
          (⊎_elim (λ (f, _, _). inr (as_placed x f)) (λ (_, three, _). absurd (omega arith)))) (Q.only x)

      inner_cases : (x : ℕ) → Inner m' x → Inner m x ⊎ Placed x
      inner_cases x = ⊎_elim (λ one. ⊎_elim (λ old. inl (inl old)) (λ f. inr (first_placed x f)) (one_cases x one))
          (λ two. ⊎_elim (λ old. inl (inr old)) inr (placed_two x two))

      few_next : (x : ℕ) → get_or m' x 0 ≤ 3
      few_next x =
          let few = P.few x in
          ⊎_elim (λ same. omega arith) (⊎_elim (λ (_, one). omega arith)
          (⊎_elim (λ (_, _, two). omega arith) (λ (_, three, _). omega arith))) (Q.only x)

      first_sheet : (x : ℕ) → First x → Marked S x
      first_sheet x (k, h, e) =
          rw e (ones_of S (c k) (in_half_lem D.table (sheet_of D) g k (ones_in S g in_sheet_lem) h))

      firsts_on : (x p : ℕ) → get_or m' x 0 ≡ 1 → p < half n → get_or m' (place n t x p) 0 ≡ 1
      firsts_on x p e h = ⊎_elim (λ old. ones_kept _ (P.firsts x p old h))
          (λ (k, hk, at). let (q, hq, to) = half_half D.table g lives k p hk h in rw (at, to) (first_one q hq)) (one_cases x e)

      -- what waited, waits or has the mark 1
      awaits_next : (y : ℕ) → Awaits n t w size y → (get_or m' y 0 ≡ 1) ⊎ Awaits n t v r y
      awaits_next y (i, p, hi, hp, e) =
          let low = Q.waiting.low in
          if_eq i (size - 1) (λ q. inl (rw (e, q) (first_one p hp)))
          (λ q. let below : i < size - 1 = omega arith in inr (i, p, omega arith, hp, rw (Q.waiting.kept i below) e))

      -- the dart over a side's first place
      over_is : (j : ℕ) → j < sides n → over n t (places n t g) j ≡ link t n (c (side_start n j))
      over_is j h = ap (link t n) (at taken_dart (side_start n j) (size_half D.table _ (start_low n D.table.dim j h)))

      across_first : (x : ℕ) → First x → (get_or m' (link t n x) 0 ≡ 1) ⊎ Awaits n t v r (link t n x)
      across_first x (k, h, e) =
          let (j, q, hj, hq, to) = half_over D.table g lives k h in
          let y = over n t (places n t g) j in
          let leads : link t n x ≡ place n t y q = ap (link t n) e ∙ to ∙ ap (λ (z : ℕ). place n t z q) (sym (over_is j hj)) in
          ⊎_elim (λ one. inl (rw leads (firsts_on y q one hq)))
          (λ (i, hi, is). inr (i, q, hi, hq, rw is leads)) (Q.waiting.all j hj)

      across_next : (x : ℕ) → get_or m' x 0 ≡ 1 → (get_or m' (link t n x) 0 ≡ 1) ⊎ Awaits n t v r (link t n x)
      across_next x e = ⊎_elim
          (λ old. ⊎_elim (λ one. inl (ones_kept _ one)) (awaits_next (link t n x)) (P.across x old))
          (across_first x) (one_cases x e)

      waits_next : (i : ℕ) → i < r → Marked S (get_or v i 0)
      waits_next i h = if_lt i (size - 1) (λ l. rw (Q.waiting.kept i l) (P.waits i (omega arith))) (λ l.
          let (j, hj, e) = Q.waiting.only i l h in
          let start = start_low n D.table.dim j hj in
          let x = c (side_start n j) in
          let inside = in_half_lem D.table (sheet_of D) g (side_start n j) (ones_in S g in_sheet_lem) start in
          rw (e, over_is j hj) (ones_of S (link t n x) ((sheet_of D).far x n D.table.dim.0 (omega arith) inside)))

      cells_next : (x : ℕ) → Inner m' x → InCells n t S x
      cells_next x e = ⊎_elim (P.cells x) (λ (k, h, at). (g, in_sheet_lem, rw at (place_in T g lives k h))) (inner_cases x e)

      whole_next : (x j : ℕ) → j < n → Inner m' x → Inner m' (link t j x)
      whole_next x j h e = ⊎_elim (λ old. inner_kept _ (P.whole x j h old))
          (λ (k, hk, at). rw (at, (place_chart D.table g lives).follow j k h hk) (placed_inner _ (rows_in n j k D.table.dim h hk)))
          (inner_cases x e)

      led_next : (x : ℕ) → get_or m' x 0 ≡ 2 → get_or m' (link t n x) 0 ≢ 0
      led_next x e = ⊎_elim (λ old. some_kept _ (P.led x old)) (λ (k, h, is).
          let two : get_or m' (get_or (places n t g) k 0) 0 ≡ 2 = rw (at taken_dart k h, sym is) e in
          rw (is, sym (at taken_dart k h)) (Q.beyond k (rw long_cell h) two)) (placed_two x e)

      outer_next : (x : ℕ) → get_or m' x 0 ≡ 3 → (live t x ≡ true) × Inner m' (link t n x)
      outer_next x e = ⊎_elim
          (λ same. let (l, inner) = P.outer x (sym same ∙ e) in (l, inner_kept _ inner))
          (⊎_elim (λ (_, one). absurd (omega arith)) (⊎_elim (λ (_, _, two). absurd (omega arith)) (λ (_, _, (k, h, is)).
          let low : k < cell_size n = rw long_cell at h in
          let lk = place_live D.table g k lives low in
          let to : x ≡ link t n (c k) = is ∙ ap (link t n) (at taken_dart k low) in
          (rw to (link_live D.table (c k) lk), rw (to, link_back D.table (c k) lk) (placed_inner k low))))) (Q.only x)

      pub spreading_next : Spreading n t d m' v r (found + half n)
      spreading_next = record {
        long = Q.long ∙ P.long;
        few = few_next;
        within = λ x e. ⊎_elim (P.within x) (first_sheet x) (one_cases x e);
        waits = waits_next;
        firsts = firsts_on;
        across = across_next;
        cells = cells_next;
        whole = whole_next;
        outer = outer_next;
        led = led_next;
        begun = ⊎_elim (λ one. inl (ones_kept d one)) (awaits_next d) P.begun;
        number = ap (λ (k : ℕ). k + half n) P.number ∙ sym Q.number;
        room = room_next n D.table.dim size found r some P.room Q.waiting.high;
      }
