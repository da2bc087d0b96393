-- The cell of a live dart, and what makes it good: its darts are its places, each once, their links follow the rows, and no side
-- is folded.
-- Main theorems: `good_cell_lem` (the test says what 01 and R-4 say), `cell_same`, `good_chart` and `chart_good`, `cell_words_lem`.
use Prim.Native.Nat.{ℕ, zero, suc, ◌+◌, ◌<◌}
use mathlib.Core.Path.{◌≡◌, refl, sym, ap, ◌∙◌, subst}
use mathlib.Core.Logic.{◌↔◌, ◌≢◌}
use mathlib.Core.Bool.{Bool, true, false, not, ◌&&◌}
use mathlib.Core.List.{List, [], ◌∷◌}
use native.Mathlib.Nat.{add-zero}
use native.Mathlib.Omega.{arith}
use lib.Dec.{eqb}
use borrow.Author.Tests.{eqb-true, eq-eqb, ne_eqb, not-true}
use Rattle.model.specs.Lists.{count, all_below}
use Rattle.model.specs.Table.{link, walk, live}
use Rattle.model.specs.Map.{returns}
use Rattle.model.specs.Reach.{in_set}
use Rattle.model.specs.Cell.{cell_size, cell_of, turns, folded, good_dart, all_good, good_cell}
use Rattle.model.specs.Numbering.{cell_link}
use Rattle.model.specs.Everything.{everything}
use Rattle.model.specs.Meaning.Sets.{Marked, ByLink}
use Rattle.model.specs.Meaning.Maps.{Dim, MapTable, Straight, GoodCell, square_word, corner_word}
use Rattle.model.specs.Meaning.Places.{path, place, AtPlace, Follows, Chart}
use Rattle.theorems.proofs.Lists.Scan.{test, if_eq, clash, and_l, and_r, and_i, below_at, below_three}
use Rattle.theorems.proofs.Sets.Least.{cell_is}
use Rattle.theorems.proofs.Sets.Classes.{class_same}
use Rattle.theorems.proofs.Sets.Pigeon.{count_by, apart_by}
use Rattle.theorems.proofs.Maps.Dim.{two_cases, size_some}
use Rattle.theorems.proofs.Maps.Tables.{live_below, rule_at, links_reversible}
use Rattle.theorems.proofs.Cells.Rows.{small, row_walk, walk_keeps, walk_rows, rows_in, path_small, path_zero}
use Rattle.theorems.proofs.Cells.Places.{around, Turning, places_follow}

-- ---- the test of a cell

module _ (n : ℕ) (t : List ℕ) where
  abbrev corner_turns : ℕ → Bool
  corner_turns x = elim (eqb n 3) [ true ↦ returns t corner_word x | false ↦ true ]

  abbrev Turned : ℕ → Type 0
  Turned x = (walk t square_word x ≡ x) × (n ≡ 3 → walk t corner_word x ≡ x)

  turns_exactly : (x : ℕ) → (turns n t x ≡ true) ↔ Turned x
  unfolding turns returns
  turns_exactly x = (to, from)
    where
      to : turns n t x ≡ true → Turned x
      to h = (
        eqb-true _ _ (and_l (returns t square_word x) (corner_turns x) h),
        λ e. eqb-true _ _ (rw (eq-eqb n 3 e, corner_turns) at (and_r (returns t square_word x) (corner_turns x) h)),
      )

      from : Turned x → turns n t x ≡ true
      from (square, corner) = and_i (eq-eqb _ _ square)
          (test (eqb n 3) (λ e. rw (e, corner_turns) (eq-eqb _ _ (corner (eqb-true n 3 e)))) (λ e. rw (e, corner_turns)))

  straight_exactly : (x : ℕ) → (folded n t x ≡ false) ↔ Straight n t x
  unfolding folded in_set
  straight_exactly x = (
    λ h m. if_eq (link t n x) x (λ e. e) (λ e. absurd (clash (rw (ne_eqb (link t n x) x e, folded) (eq-eqb _ _ m)) h)),
    λ straight. if_eq (link t n x) x (λ e. rw (eq-eqb (link t n x) x e, folded)) (λ e.
        rw (ne_eqb (link t n x) x e, folded) (ne_eqb _ 1 (λ m. e (straight m)))),
  )

  good_dart_lem : (x : ℕ) → (good_dart n t x ≡ true) ↔ (Turned x × Straight n t x)
  unfolding good_dart
  good_dart_lem x = (
    λ h. ((turns_exactly x).0 (and_l (turns n t x) _ h), (straight_exactly x).0 (not-true _ (and_r (turns n t x) _ h))),
    λ (turned, straight). and_i ((turns_exactly x).1 turned) (ap not ((straight_exactly x).1 straight)),
  )

  first_good : (a y : ℕ) (ys : List ℕ)
      → (all_good n t a (y ∷ ys) ≡ true) ↔ ((y ≡ 1 → good_dart n t a ≡ true) × (all_good n t (suc a) ys ≡ true))
  unfolding all_good
  first_good a y ys = (λ h. if_eq y 1 (one h) (other h), from)
    where
      one : all_good n t a (y ∷ ys) ≡ true → y ≡ 1 → (y ≡ 1 → good_dart n t a ≡ true) × (all_good n t (suc a) ys ≡ true)
      one h e =
          let i = eq-eqb y 1 e in
          test (good_dart n t a) (λ q. (λ _. q, rw (i, q, all_good) at h)) (λ q. absurd (clash h (rw (i, q, all_good))))

      other : all_good n t a (y ∷ ys) ≡ true → y ≢ 1 → (y ≡ 1 → good_dart n t a ≡ true) × (all_good n t (suc a) ys ≡ true)
      other h e = (λ q. absurd (e q), rw (ne_eqb y 1 e, all_good) at h)

      from : (y ≡ 1 → good_dart n t a ≡ true) × (all_good n t (suc a) ys ≡ true) → all_good n t a (y ∷ ys) ≡ true
      from (now, later) = if_eq y 1 (λ e. rw (eq-eqb y 1 e, now e, all_good) later) (λ e. rw (ne_eqb y 1 e, all_good) later)

  -- each marked dart is good; the marks are those of the slots from a on
  abbrev AllGood : ℕ → List ℕ → Type 0
  AllGood a xs = (x : ℕ) → Marked xs x → good_dart n t (a + x) ≡ true

  all_good_exactly : (a : ℕ) (xs : List ℕ) → (all_good n t a xs ≡ true) ↔ AllGood a xs
  unfolding all_good
  all_good_exactly a [] = (λ h x m. absurd (omega arith), λ h. refl)
  all_good_exactly a (y ∷ ys) =
      let rec = all_good_exactly (suc a) ys in
      let split = first_good a y ys in
      (λ h. to (split.0 h).0 (rec.0 (split.0 h).1), λ f. split.1 (now f, rec.1 (later f)))
    where
      to : (y ≡ 1 → good_dart n t a ≡ true) → AllGood (suc a) ys → AllGood a (y ∷ ys)
      to first rest zero m = ap (good_dart n t) (add-zero a) ∙ first m
      to first rest (suc x) m = ap (good_dart n t) (omega arith) ∙ rest x m

      now : AllGood a (y ∷ ys) → y ≡ 1 → good_dart n t a ≡ true
      now f e = ap (good_dart n t) (sym (add-zero a)) ∙ f 0 e

      later : AllGood a (y ∷ ys) → AllGood (suc a) ys
      later f x m = ap (good_dart n t) (omega arith) ∙ f (suc x) m

  pub good_cell_lem : (c : List ℕ) → (good_cell n t c ≡ true) ↔ GoodCell n t c
  unfolding good_cell
  good_cell_lem c = (to, from)
    where
      each : all_good n t 0 c ≡ true → (x : ℕ) → Marked c x → Turned x × Straight n t x
      each h x m = (good_dart_lem x).0 (ap (good_dart n t) (omega arith) ∙ (all_good_exactly 0 c).0 h x m)

      to : good_cell n t c ≡ true → GoodCell n t c
      to h =
          let all = each (and_r (eqb (count 1 c) (cell_size n)) (all_good n t 0 c) h) in
          record {
            size = eqb-true _ _ (and_l (eqb (count 1 c) (cell_size n)) (all_good n t 0 c) h);
            square = λ x m. (all x m).0.0;
            corner = λ e x m. (all x m).0.1 e;
            straight = λ x m. (all x m).1;
          }

      from : GoodCell n t c → good_cell n t c ≡ true
      from g = and_i (eq-eqb _ _ g.size) ((all_good_exactly 0 c).1 (λ x m.
          ap (good_dart n t) (omega arith) ∙ (good_dart_lem x).1 ((g.square x m, λ e. g.corner e x m), g.straight x m)))

-- ---- the words of the rule, on the rows

rows_return : ℕ → List ℕ → Bool
rows_return n w = small n w && all_below (cell_size n) (λ k. eqb (row_walk n w k) k)

square_returns : (n : ℕ) → Dim n → rows_return n square_word ≡ true
unfolding everything small row_walk rows_return
square_returns n dim = two_cases n dim (λ n. rows_return n square_word ≡ true) refl refl

corner_returns : rows_return 3 corner_word ≡ true
unfolding everything small row_walk rows_return
corner_returns = refl

-- ---- the cell of a live dart of a map

module _ {n : ℕ} {t : List ℕ} (T : MapTable n t) where
  module _ (d : ℕ) (live_d : live t d ≡ true) where
    abbrev cell : List ℕ
    cell = cell_of n t d

    pub cell_own : Marked cell d
    cell_own = (cell_is n t d).holds d refl (live_below T d live_d)

    pub cell_live : (x : ℕ) → Marked cell x → live t x ≡ true
    cell_live = (cell_is n t d).within (λ x. live t x ≡ true) (λ x e _. rw e live_d) (λ x y _ l s _. step x y l s)
      where
        step : (x y : ℕ) → live t x ≡ true → ByLink t (λ j. j < n) x y → live t y ≡ true
        step x y l s =
            let low = s.allowed in
            rw s.leads ((rule_at T x l).goes s.by (omega arith))

    pub cell_goes : (x j : ℕ) → Marked cell x → j < n → Marked cell (link t j x)
    cell_goes x j h l =
        let next = (rule_at T x (cell_live x h)).goes j (omega arith) in
        (cell_is n t d).closed x (link t j x) h (record { by = j; allowed = l; leads = refl }) (live_below T _ next)

    -- the places are in the cell
    pub place_in : (k : ℕ) → k < cell_size n → Marked cell (place n t d k)
    unfolding place
    place_in k l = walk_keeps n t (Marked cell) (λ x i b h. cell_goes x i h b) (path n k) (path_small n k T.dim l) d cell_own

    -- where their links follow the rows, they are all of it
    pub all_places : Follows n t (place n t d) → (x : ℕ) → Marked cell x → AtPlace n t d x
    all_places follow =
        (cell_is n t d).within (AtPlace n t d) (λ x e _. first x e) (λ x y _ p s _. step x y p s)
      where
        first : (x : ℕ) → x ≡ d → AtPlace n t d x
        first x e = (0, size_some n T.dim, e ∙ path_zero n T.dim t d)

        step : (x y : ℕ) → AtPlace n t d x → ByLink t (λ j. j < n) x y → AtPlace n t d y
        step x y (k, l, e) s = (
          cell_link n s.by k,
          rows_in n s.by k T.dim s.allowed l,
          s.leads ∙ ap (link t s.by) e ∙ follow s.by k s.allowed l,
        )

    -- ---- a good cell has a chart

    module _ (good : GoodCell n t cell) where
      comes : (x i : ℕ) → i < n → Marked cell x → link t i (link t i x) ≡ x
      comes x i l h = (rule_at T x (cell_live x h)).comes i (omega arith)

      -- the word returns with the link i after it
      abbrev Back : ℕ → List ℕ → Type 0
      Back i w = (x : ℕ) → Marked cell x → link t i (walk t w x) ≡ x

      -- and so it does if it returns with the link before it
      back_of : (i : ℕ) (w : List ℕ) → i < n → ((x : ℕ) → Marked cell x → walk t (i ∷ w) x ≡ x) → Back i w
      unfolding walk
      back_of i w l h x c =
          ap (λ (z : ℕ). link t i (walk t w z)) (sym (comes x i l c))
          ∙ ap (link t i) (h (link t i x) (cell_goes x i c l)) ∙ comes x i l c

      cross : n ≡ 3 → (x : ℕ) → Marked cell x → walk t (0 ∷ 2 ∷ 0 ∷ 2 ∷ []) x ≡ x
      unfolding walk
      cross e x c = (rule_at T x (cell_live x c)).cross 0 2 (omega arith) (omega arith)

      abbrev Turns : ℕ → ℕ → Type 0
      Turns i j = i < n → j < n → i ≢ j → Back i (around i j)

      turn : (i j : ℕ) → Turns i j
      unfolding around walk
      turn i j hi hj =
          let i3 : i < 3 = omega arith in
          let j3 : j < 3 = omega arith in
          below_three (λ i. Turns i j) (zeroth j j3) (first j j3) (second j j3) i i3 hi hj
        where
          none : (k : ℕ) → Turns k k
          none k _ _ e = absurd (e refl)

          zeroth : (j : ℕ) → j < 3 → Turns 0 j
          zeroth = below_three (Turns 0) (none 0) (λ l _ _. back_of 0 (around 0 1) l good.square)
              (λ l h _. back_of 0 (around 0 2) l (cross (omega arith)))

          first : (j : ℕ) → j < 3 → Turns 1 j
          first = below_three (Turns 1) (λ _ _ _. good.square) (none 1)
              (λ l h _. back_of 1 (around 1 2) l (good.corner (omega arith)))

          second : (j : ℕ) → j < 3 → Turns 2 j
          second = below_three (Turns 2) (λ h _ _. cross (omega arith)) (λ h _ _. good.corner (omega arith)) (none 2)

      turning : Turning n t (Marked cell)
      turning = record { goes = λ x i l c. cell_goes x i c l; comes = comes; turn = λ x i j hi hj e c. turn i j hi hj e x c }

      good_follows : Follows n t (place n t d)
      good_follows = places_follow n t d (Marked cell) T.dim turning cell_own

      good_listed : Chart n t (place n t d)
      good_listed = record {
        follow = good_follows;
        apart = apart_by cell (place n t d) (cell_size n) (all_places good_follows) good.size;
      }

    pub good_chart : good_cell n t cell ≡ true → Chart n t (place n t d)
    good_chart h = good_listed ((good_cell_lem n t cell).0 h)

    -- ---- a cell with a chart, and with no folded side, is good

    module _ (ch : Chart n t (place n t d)) where
      rows_return_lem : (w : List ℕ) → rows_return n w ≡ true → (x : ℕ) → Marked cell x → walk t w x ≡ x
      unfolding rows_return
      rows_return_lem w h x m =
          let (k, l, e) = all_places ch.follow x m in
          let low = and_l (small n w) _ h in
          let back = eqb-true _ _ (below_at (λ k. eqb (row_walk n w k) k) (cell_size n) (and_r (small n w) _ h) k l) in
          ap (walk t w) e ∙ walk_rows n t (place n t d) T.dim ch.follow w k low l ∙ ap (place n t d) back ∙ sym e

      pub chart_good : ((k : ℕ) → k < cell_size n → Straight n t (place n t d k)) → good_cell n t cell ≡ true
      chart_good straight = (good_cell_lem n t cell).1 (record {
        size = count_by cell (place n t d) (cell_size n) (all_places ch.follow) place_in ch.apart;
        square = rows_return_lem square_word (square_returns n T.dim);
        corner = λ e. rows_return_lem corner_word (subst (λ (k : ℕ). rows_return k corner_word ≡ true) (sym e) corner_returns);
        straight = λ x m. let (k, l, e) = all_places ch.follow x m in subst (Straight n t) (sym e) (straight k l);
      })

  -- ---- the darts of one cell have one cell

  pub cell_same : (d x : ℕ) → live t d ≡ true → Marked (cell_of n t d) x → cell_of n t x ≡ cell_of n t d
  cell_same =
      let top = T.dim.1 in
      class_same (cell_of n t) (cell_is n t) (links_reversible T (λ j low. omega arith))

  -- ---- words in a good cell

  -- a word leads to a place
  pub word_place : (d : ℕ) → live t d ≡ true → good_cell n t (cell_of n t d) ≡ true
      → (w : List ℕ) → small n w ≡ true → walk t w d ≡ place n t d (row_walk n w 0)
  word_place d ld good w h =
      ap (walk t w) (path_zero n T.dim t d)
      ∙ walk_rows n t (place n t d) T.dim (good_chart d ld good).follow w 0 h (size_some n T.dim)

  -- two words that agree in the rows agree at its darts
  pub cell_words_lem : (d : ℕ) → live t d ≡ true → good_cell n t (cell_of n t d) ≡ true
      → (v w : List ℕ) → small n v ≡ true → small n w ≡ true → row_walk n v 0 ≡ row_walk n w 0 → walk t v d ≡ walk t w d
  cell_words_lem d ld good v w hv hw e =
      word_place d ld good v hv ∙ ap (place n t d) e ∙ sym (word_place d ld good w hw)
