-- The test of a listed cell. Each link between places is a step of the listing, one that is tested, one of these turned round, or
-- link 0 beside one of these; a step leads where the numbering says, so where the tested links do, every link does.
-- Main theorems: `tests_follow`, `follow_tests`, `tests_other` and `other_tests` (the tests pass exactly if the places follow the
-- numbering and none but the first is the cell's dart).
use Prim.Native.Nat.{ℕ, zero, suc, ◌-◌, ◌/◌, ◌%◌, ◌<◌}
use mathlib.Core.Path.{◌≡◌, refl, sym, ap, ◌∙◌}
use mathlib.Core.Logic.{◌≢◌, inl, inr, ⊎_elim}
use mathlib.Core.Bool.{Bool, true, false, not, ◌&&◌, ◌||◌}
use mathlib.Core.List.{List}
use native.Mathlib.Omega.{arith}
use lib.ListN.{length, get_or, take, drop, length-drop}
use Rattle.std.proofs.Common.{length-take-le, get_or-drop, get_or-take}
use lib.Dec.{eqb, ltb}
use borrow.Author.Tests.{eqb-true, eq-eqb, ne_eqb, not-true}
use Rattle.model.specs.Lists.{tabulate, all_below}
use Rattle.model.specs.Table.{link, live}
use Rattle.model.specs.Cell.{cell_size}
use Rattle.model.specs.Numbering.{corners, cell_link}
use Rattle.model.specs.Everything.{everything}
use Rattle.model.specs.Meaning.Maps.{Dim, MapTable}
use Rattle.model.specs.Meaning.Places.{path, place, Listed}
use Rattle.theorems.proofs.Lists.Scan.{test, if_eq, clash, and_l, and_r, and_i, or_cases, or_i, below_at, below_of, below_both, get_or_tab}
use Rattle.theorems.proofs.Maps.Dim.{two_cases}
use Rattle.theorems.proofs.Maps.Tables.{rule_at}
use Rattle.theorems.proofs.Cells.Rows.{rows_in, row_comes}
use Rattle.numbering.specs.Orders.{orders, next_vertex, place_of}
use Rattle.numbering.proofs.Orders.{orders_solid, orders_some, vertex_in, place_is, place_low}
use Rattle.cells.specs.Listing.{MapDart, places}
use Rattle.good_cells.specs.Good.{follows_at, follow_from, all_follow, not_again, only_first}
use Rattle.cells.proofs.Listing.{places_length, places_at, place_live}

-- one test that fails
pub not_all : (p : ℕ → Bool) (k i : ℕ) → i < k → p i ≡ false → all_below k p ≡ false
not_all p k i l f = test (all_below k p) (λ h. absurd (clash (below_at p k h i l) f)) (λ h. h)

-- ---- the test that a dart is not again

module _ (d : ℕ) (cell : List ℕ) where
  pub not_again_first : not_again d cell 0 ≡ true
  unfolding not_again
  not_again_first = refl

  pub not_again_lem : (k : ℕ) → get_or cell k 0 ≢ d → not_again d cell k ≡ true
  unfolding not_again
  not_again_lem k e = or_i (eqb k 0) _ (inr (ap not (ne_eqb _ _ e)))

  pub again : (k : ℕ) → 0 < k → get_or cell k 0 ≡ d → not_again d cell k ≡ false
  unfolding not_again
  again k some e = rw (ne_eqb k 0 (λ e. omega arith), eq-eqb _ _ e)

  -- the places behind the first, as a slice has them
  abbrev pub later : List ℕ
  later = take (length cell - 1) (drop 1 cell)

  pub later_length : length later ≡ length cell - 1
  later_length = let tail = length-drop 1 cell in length-take-le (length cell - 1) (drop 1 cell) (omega arith)

  pub later_at : (k : ℕ) → suc k < length cell → get_or later k 0 ≡ get_or cell (suc k) 0
  later_at k l =
      get_or-take (length cell - 1) (drop 1 cell) k 0 (omega arith) ∙ get_or-drop 1 cell k 0
      ∙ ap (λ (j : ℕ). get_or cell j 0) (omega arith)

-- ---- the links that are tested

-- link i from the place k is link j in the order p, from a vertex from a on that is the lower end
is_in : ℕ → ℕ → ℕ → ℕ → ℕ → ℕ → Bool
is_in n j p a k i =
    let s = k % corners n in
    eqb i j && (eqb (k / corners n) p && (not (ltb s a) && not (ltb (next_vertex n j p s) s)))

is_tested : ℕ → ℕ → ℕ → Bool
is_tested n k i = is_in n 0 0 2 k i || (not (eqb n 2) && (is_in n 0 2 4 k i || is_in n 2 4 0 k i))

module _ (n : ℕ) (dim : Dim n) (t cell : List ℕ) where
  from_at : (j p a k i : ℕ) → follow_from n t cell j p a ≡ true → is_in n j p a k i ≡ true → follows_at n t cell i k ≡ true
  unfolding follow_from is_in
  from_at j p a k i h e =
      let link = eqb-true i j (and_l (eqb i j) _ e) in
      let later = and_r (eqb i j) _ e in
      let order = eqb-true (k / corners n) p (and_l (eqb (k / corners n) p) _ later) in
      let s = k % corners n in
      let which = and_r (eqb (k / corners n) p) _ later in
      let behind = not-true _ (and_l (not (ltb s a)) _ which) in
      let lower = not-true _ (and_r (not (ltb s a)) _ which) in
      let is : place_of n p s ≡ k = rw (← order) (place_is n dim k) in
      let here = below_at (λ s. ltb s a || (ltb (next_vertex n j p s) s || follows_at n t cell j (place_of n p s))) (corners n) h s
      (vertex_in n dim k) in
      rw (link, ← is) (⊎_elim (λ f. absurd (clash f behind))
      (λ g. ⊎_elim (λ f. absurd (clash f lower)) (λ f. f) (or_cases (ltb (next_vertex n j p s) s) _ g)) (or_cases (ltb s a) _ here))

  tested_at : all_follow n t cell ≡ true → (k i : ℕ) → is_tested n k i ≡ true → follows_at n t cell i k ≡ true
  unfolding is_tested all_follow
  tested_at h k i e =
      let first = follow_from n t cell 0 0 2 in
      let second = follow_from n t cell 0 2 4 in
      ⊎_elim (from_at 0 0 2 k i (and_l first _ h))
      (λ e.
      let solid = not-true _ (and_l (not (eqb n 2)) _ e) in
      let later = ⊎_elim (λ two. absurd (clash two solid)) (λ g. g) (or_cases (eqb n 2) _ (and_r first _ h)) in
      ⊎_elim (from_at 0 2 4 k i (and_l second _ later)) (from_at 2 4 0 k i (and_r second _ later))
      (or_cases (is_in n 0 2 4 k i) _ (and_r (not (eqb n 2)) _ e)))
      (or_cases (is_in n 0 0 2 k i) _ e)

-- ---- each link is a step, is tested, or is one of these turned round; or it is link 0 beside such links

-- the last link of the path to the place k; no link of the cell for the place 0, whose path is empty
unfoldable last_link : ℕ → ℕ → ℕ
last_link n k = get_or (path n k) (length (path n k) - 1) n

-- a step goes by link i from the place k
is_step : ℕ → ℕ → ℕ → Bool
is_step n k i = eqb (last_link n (cell_link n i k)) i

known : ℕ → ℕ → ℕ → Bool
known n k i = is_step n k i || is_tested n k i

is_shown : ℕ → ℕ → ℕ → Bool
is_shown n k i = known n k i || known n (cell_link n i k) i

-- for n = 3: link 2, then link 0, then link 2 again
is_beside : ℕ → ℕ → ℕ → Bool
is_beside n k i =
    let m = cell_link n 2 k in
    (eqb n 3 && eqb i 0)
    && (is_shown n m 0 && (is_shown n m 2 && (is_shown n (cell_link n 0 m) 2 && eqb (cell_link n 2 (cell_link n 0 m)) (cell_link n 0 k))))

shown_true : (n : ℕ) → Dim n → all_below (cell_size n) (λ k. all_below n (λ i. is_shown n k i || is_beside n k i)) ≡ true
unfolding is_in is_tested last_link is_step known is_shown is_beside next_vertex path everything
shown_true n dim =
    two_cases n dim (λ n. all_below (cell_size n) (λ k. all_below n (λ i. is_shown n k i || is_beside n k i)) ≡ true) refl refl

-- ---- the steps

step_zero : (n : ℕ) → Dim n → last_link n 0 ≡ n
unfolding last_link path everything
step_zero n dim = two_cases n dim (λ n. last_link n 0 ≡ n) refl refl

-- the dart that the step to the place k leads to
abbrev reached : ℕ → List ℕ → ℕ → ℕ → ℕ
reached n t d k = link t (last_link n k) (place n t d (cell_link n (last_link n k) k))

steps_true : (n : ℕ) (t : List ℕ) (d : ℕ) → Dim n
    → tabulate (cell_size n - 1) (λ k. reached n t d (suc k)) ≡ tabulate (cell_size n - 1) (λ k. place n t d (suc k))
unfolding last_link place path everything
steps_true n t d dim =
    two_cases n dim
    (λ n. tabulate (cell_size n - 1) (λ k. reached n t d (suc k)) ≡ tabulate (cell_size n - 1) (λ k. place n t d (suc k)))
    refl refl

step_at_lem : (n : ℕ) (t : List ℕ) (d k : ℕ) → Dim n → k ≢ 0 → k < cell_size n → reached n t d k ≡ place n t d k
step_at_lem n t d zero dim some l = absurd (some refl)
step_at_lem n t d (suc k) dim some l =
    sym (get_or_tab (λ k. reached n t d (suc k)) (cell_size n - 1) k 0 (omega arith))
    ∙ ap (λ (l : List ℕ). get_or l k 0) (steps_true n t d dim)
    ∙ get_or_tab (λ k. place n t d (suc k)) (cell_size n - 1) k 0 (omega arith)

-- ---- where the links lead

module _ {n : ℕ} {t : List ℕ} {d : ℕ} (D : MapDart n t d) where
  goes_in : (i k : ℕ) → i < n → k < cell_size n → cell_link n i k < cell_size n
  goes_in i k hi hk = rows_in n i k D.table.dim hi hk

  comes : (i k : ℕ) → i < n → k < cell_size n → cell_link n i (cell_link n i k) ≡ k
  comes i k hi hk = let three = D.table.dim.1 in row_comes n k D.table.dim hk i (omega arith)

  abbrev Follows : ℕ → ℕ → Type 0
  Follows i k = link t i (place n t d k) ≡ place n t d (cell_link n i k)

  turned : (i k : ℕ) → i < n → k < cell_size n → Follows i (cell_link n i k) → Follows i k
  turned i k hi hk h =
      let m = cell_link n i k in
      let three = D.table.dim.1 in
      let back = (rule_at D.table _ (place_live D m (goes_in i k hi hk))).comes i (omega arith) in
      ap (link t i) (sym (h ∙ ap (place n t d) (comes i k hi hk))) ∙ back

  by_step : (i k : ℕ) → i < n → k < cell_size n → is_step n k i ≡ true → Follows i k
  unfolding is_step
  by_step i k hi hk h =
      let m = cell_link n i k in
      let last = eqb-true (last_link n m) i h in
      let zero = step_zero n D.table.dim in
      let some : m ≢ 0 = λ (e : m ≡ 0). let at = ap (last_link n) e in omega arith in
      rw (last, comes i k hi hk) at (step_at_lem n t d m D.table.dim some (goes_in i k hi hk))

  follows_is : (i k : ℕ) → i < n → k < cell_size n
      → follows_at n t (places n t d) i k ≡ eqb (link t i (place n t d k)) (place n t d (cell_link n i k))
  unfolding follows_at
  follows_is i k hi hk = rw (places_at D k hk, places_at D _ (goes_in i k hi hk))

  module _ (all : all_follow n t (places n t d) ≡ true) where
    by_test : (i k : ℕ) → i < n → k < cell_size n → is_tested n k i ≡ true → Follows i k
    by_test i k hi hk h = eqb-true _ _ (sym (follows_is i k hi hk) ∙ tested_at n D.table.dim t _ all k i h)

    by_known : (i k : ℕ) → i < n → k < cell_size n → known n k i ≡ true → Follows i k
    unfolding known
    by_known i k hi hk h = ⊎_elim (by_step i k hi hk) (by_test i k hi hk) (or_cases (is_step n k i) _ h)

    by_shown : (i k : ℕ) → i < n → k < cell_size n → is_shown n k i ≡ true → Follows i k
    unfolding is_shown
    by_shown i k hi hk h =
        ⊎_elim (by_known i k hi hk) (λ e. turned i k hi hk (by_known i _ hi (goes_in i k hi hk) e)) (or_cases (known n k i) _ h)

    -- links 0 and 2 commute
    beside : (k : ℕ) → n ≡ 3 → k < cell_size n → let m = cell_link n 2 k in
        Follows 0 m → Follows 2 m → Follows 2 (cell_link n 0 m) → cell_link n 2 (cell_link n 0 m) ≡ cell_link n 0 k → Follows 0 k
    beside k three hk first second third same =
        let m = cell_link n 2 k in
        let x = place n t d m in
        let y = link t 2 (link t 0 x) in
        let lives = place_live D m (goes_in 2 k (omega arith) hk) in
        let y_lives = goes _ 2 (goes x 0 lives (omega arith)) (omega arith) in
        let at : link t 2 x ≡ place n t d k = second ∙ ap (place n t d) (comes 2 k (omega arith) hk) in
        let there : y ≡ place n t d (cell_link n 0 k) = ap (link t 2) first ∙ third ∙ ap (place n t d) same in
        let round : link t 0 y ≡ link t 2 x
        = sym ((rule_at T _ (goes y 0 y_lives (omega arith))).comes 2 (omega arith)) ∙ ap (link t 2) ((rule_at T x lives).cross 0 2 (omega arith) (omega arith)) in
        ap (link t 0) (sym at ∙ sym round) ∙ (rule_at T y y_lives).comes 0 (omega arith) ∙ there
      where
        T : MapTable n t
        T = D.table

        goes : (x i : ℕ) → live t x ≡ true → i < 4 → live t (link t i x) ≡ true
        goes x i lives l = (rule_at T x lives).goes i l

    by_beside : (i k : ℕ) → k < cell_size n → is_beside n k i ≡ true → Follows i k
    unfolding is_beside
    by_beside i k hk h =
        let m = cell_link n 2 k in
        let which = and_l (eqb n 3 && eqb i 0) _ h in
        let three = eqb-true n 3 (and_l (eqb n 3) _ which) in
        let rest = and_r (eqb n 3 && eqb i 0) _ h in
        let later = and_r (is_shown n m 0) _ rest in
        let last = and_r (is_shown n m 2) _ later in
        let hm = goes_in 2 k (omega arith) hk in
        rw (eqb-true i 0 (and_r (eqb n 3) _ which))
        (beside k three hk (by_shown 0 m (omega arith) hm (and_l (is_shown n m 0) _ rest))
        (by_shown 2 m (omega arith) hm (and_l (is_shown n m 2) _ later))
        (by_shown 2 _ (omega arith) (goes_in 0 m (omega arith) hm) (and_l (is_shown n (cell_link n 0 m) 2) _ last))
        (eqb-true _ _ (and_r (is_shown n (cell_link n 0 m) 2) _ last)))

    pub tests_follow : (i k : ℕ) → i < n → k < cell_size n → Follows i k
    tests_follow i k hi hk =
        ⊎_elim (by_shown i k hi hk) (by_beside i k hk)
        (or_cases (is_shown n k i) _
        (below_both (λ k i. is_shown n k i || is_beside n k i) (cell_size n) n (shown_true n D.table.dim) k i hk hi))

  pub tests_other : only_first d (places n t d) ≡ true → (k : ℕ) → 0 < k → k < cell_size n → place n t d k ≢ d
  unfolding only_first
  tests_other h k some l e =
      clash (below_at (not_again d (places n t d)) _ h k (rw (places_length D) l)) (again d _ k some (places_at D k l ∙ e))

  follow_from_lem : Listed n t d → (i p a : ℕ) → i < n → p < orders n → follow_from n t (places n t d) i p a ≡ true
  unfolding follow_from
  follow_from_lem h i p a hi hp = below_of _ _ (λ s l.
      let low = place_low n D.table.dim p hp s l in
      or_i (ltb s a) _ (inr (or_i (ltb (next_vertex n i p s) s) _ (inr (follows_is i _ hi low ∙ eq-eqb _ _ (h.follow i _ hi low))))))

  pub other_tests : Listed n t d → only_first d (places n t d) ≡ true
  unfolding only_first
  other_tests h = below_of _ _ (λ k l.
      let low : k < cell_size n = rw (places_length D) at l in
      if_eq k 0 (λ e. rw e (not_again_first d _))
      (λ e. not_again_lem d _ k (rw (places_at D k low) (h.other k (omega arith) low))))

  pub follow_tests : Listed n t d → all_follow n t (places n t d) ≡ true
  unfolding all_follow
  follow_tests h =
      let dim = D.table.dim in
      let some = orders_some n in
      and_i (follow_from_lem h 0 0 2 (omega arith) (omega arith))
      (or_i (eqb n 2) _ (if_eq n 2 (λ e. inl (eq-eqb n 2 e)) (λ e.
      let six = orders_solid n (omega arith) in
      inr (and_i (follow_from_lem h 0 2 4 (omega arith) (omega arith)) (follow_from_lem h 2 4 0 (omega arith) (omega arith))))))
