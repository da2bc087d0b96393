-- The walk of remove, "link n, then (opposite side, link n) again and again", over cells of a block map that are taken away:
-- it ends at one live dart outside, within the model's fuel (walk_ends, walk_live, outside_unique); it can be walked back
-- (walk_back); it goes with the links 0..n-2 (walk_far); where it meets a free side it turns and comes back (walk_turns).
use Prim.Native.Nat.{ℕ, zero, suc, ◌+◌, ◌≤◌, ◌<◌}
use mathlib.Core.Path.{◌≡◌, refl, sym, ap, ◌∙◌}
use mathlib.Core.Logic.{inr}
use mathlib.Core.Bool.{true, false}
use mathlib.Core.List.{List, [], ◌∷◌, ◌++◌}
use native.Mathlib.Nat.{le_refl}
use native.Mathlib.Omega.{arith}
use Rattle.model.specs.Table.{slots, link, walk, live}
use Rattle.model.specs.Remove.{opposite, marked, outside}
use Rattle.model.specs.Everything.{everything}
use Rattle.model.specs.Meaning.Maps.{Dim, BlockTable, Rule}
use Rattle.model.specs.Meaning.Walks.{Layer, hop, Reaches, arrived, onward, FirstOutside}
use Rattle.theorems.proofs.Lists.Scan.{test, clash}
use Rattle.theorems.proofs.Sets.Escape.{leave, OneWay, escapes}
use Rattle.theorems.proofs.Maps.Dim.{two_cases}
use Rattle.theorems.proofs.Maps.Tables.{map_table, live_below, rule_at}
use Rattle.theorems.proofs.Sewing.Side.{past}
use Rattle.theorems.proofs.Cells.Rows.{row_walk, small}
use Rattle.theorems.proofs.Cells.Cell.{cell_words_lem}
use Rattle.theorems.proofs.Cells.Chart.{word_keeps}

pub walk_append : (t v w : List ℕ) (x : ℕ) → walk t (v ++ w) x ≡ walk t w (walk t v x)
unfolding walk
walk_append t [] w x = refl
walk_append t (i ∷ v) w x = walk_append t v w (link t i x)

-- ---- the opposite side, in the rows of a cell

-- two words of a cell's links lead to one place
record Agree (n : ℕ) (v w : List ℕ) : Type 0 where
  small_v : small n v ≡ true
  small_w : small n w ≡ true
  meet : row_walk n v 0 ≡ row_walk n w 0

pub opposite_small : (n : ℕ) → Dim n → small n (opposite n) ≡ true
unfolding everything small
opposite_small n dim = two_cases n dim (λ n. small n (opposite n) ≡ true) refl refl

opposite_twice : (n : ℕ) → Dim n → Agree n (opposite n ++ opposite n) []
unfolding everything small row_walk
opposite_twice n dim = two_cases n dim (λ n. Agree n (opposite n ++ opposite n) [])
    (record { small_v = refl; small_w = refl; meet = refl }) (record { small_v = refl; small_w = refl; meet = refl })

opposite_far : (n j : ℕ) → Dim n → j + 2 ≤ n → Agree n (j ∷ opposite n) (opposite n ++ (j ∷ []))
unfolding everything small row_walk
opposite_far n zero dim far = two_cases n dim (λ n. Agree n (0 ∷ opposite n) (opposite n ++ (0 ∷ [])))
    (record { small_v = refl; small_w = refl; meet = refl }) (record { small_v = refl; small_w = refl; meet = refl })
opposite_far n (suc zero) dim far =
    let three : n ≡ 3 = omega arith in
    rw three (record { small_v = refl; small_w = refl; meet = refl })
opposite_far n (suc (suc j)) dim far = absurd (omega arith)

-- ---- the opposite side and the hop, in a block map

-- the dart at the opposite side of x
abbrev pub facing : ℕ → List ℕ → ℕ → ℕ
facing n t x = walk t (opposite n) x

module _ {n : ℕ} {t : List ℕ} (B : BlockTable n t) where
  agree : {v w : List ℕ} → Agree n v w → (x : ℕ) → live t x ≡ true → walk t v x ≡ walk t w x
  agree {v} {w} a x l = cell_words_lem (map_table B) x l (B.good x l) v w a.small_v a.small_w a.meet

  rule : (x : ℕ) → live t x ≡ true → Rule n t x
  rule = rule_at (map_table B)

  -- links below 4
  low : n < 4
  low = let dim = B.dim in omega arith

  pub facing_twice : (x : ℕ) → live t x ≡ true → facing n t (facing n t x) ≡ x
  unfolding walk
  facing_twice x l = sym (walk_append t (opposite n) (opposite n) x) ∙ agree (opposite_twice n B.dim) x l

  pub facing_far : (x j : ℕ) → live t x ≡ true → j + 2 ≤ n → facing n t (link t j x) ≡ link t j (facing n t x)
  unfolding walk
  facing_far x j l far = agree (opposite_far n j B.dim far) x l ∙ walk_append t (opposite n) (j ∷ []) x

  facing_keeps : (P : ℕ → Type 0) → ((x j : ℕ) → j < n → live t x ≡ true → P x → P (link t j x)) → (x : ℕ) → live t x ≡ true → P x
      → (live t (facing n t x) ≡ true) × P (facing n t x)
  facing_keeps P kept x l = word_keeps B P kept (opposite n) (opposite_small n B.dim) x l

  facing_live : (x : ℕ) → live t x ≡ true → live t (facing n t x) ≡ true
  facing_live x l = (facing_keeps (λ _. Unit {0}) (λ _ _ _ _ _. tt) x l tt).0

  pub link_live : (x : ℕ) → live t x ≡ true → live t (link t n x) ≡ true
  link_live x l = (rule x l).goes n low

  pub link_back : (x : ℕ) → live t x ≡ true → link t n (link t n x) ≡ x
  link_back x l = (rule x l).comes n low

  pub link_far : (x j : ℕ) → live t x ≡ true → j + 2 ≤ n → link t n (link t j x) ≡ link t j (link t n x)
  link_far x j l far = past (map_table B) x l n j (le_refl n) (omega arith) (inr far)

  pub hop_live : (y : ℕ) → live t y ≡ true → live t (hop n t y) ≡ true
  unfolding hop
  hop_live y l = link_live (facing n t y) (facing_live y l)

  pub hop_back : (y : ℕ) → live t y ≡ true → link t n (hop n t y) ≡ facing n t y
  unfolding hop
  hop_back y l = link_back (facing n t y) (facing_live y l)

  hop_facing : (y : ℕ) → live t y ≡ true → hop n t (facing n t y) ≡ link t n y
  unfolding hop
  hop_facing y l = ap (link t n) (facing_twice y l)

  hop_far : (y j : ℕ) → live t y ≡ true → j + 2 ≤ n → hop n t (link t j y) ≡ link t j (hop n t y)
  unfolding hop
  hop_far y j l far = ap (link t n) (facing_far y j l far) ∙ link_far (facing n t y) j (facing_live y l) far

  hop_one : (y z : ℕ) → live t y ≡ true → live t z ≡ true → hop n t y ≡ hop n t z → y ≡ z
  hop_one y z ly lz e =
      sym (facing_twice y ly) ∙ ap (facing n t) (sym (hop_back y ly) ∙ ap (link t n) e ∙ hop_back z lz) ∙ facing_twice z lz

-- ---- the walk, and the model's

module _ {n : ℕ} {t m : List ℕ} where
  pub reaches_on : {x y z : ℕ} → Reaches n t m y z → Reaches n t m x y → Reaches n t m x z
  reaches_on (arrived e) q = rw e q
  reaches_on (onward r p) q = onward r (reaches_on p q)

  reaches_one : {z w y : ℕ} → marked m z ≡ false → marked m w ≡ false → Reaches n t m z y → Reaches n t m w y → z ≡ w
  reaches_one a b (arrived e) (arrived f) = sym e ∙ f
  reaches_one a b (arrived e) (onward r q) = absurd (clash r (ap (marked m) e ∙ a))
  reaches_one a b (onward r p) (arrived f) = absurd (clash r (ap (marked m) f ∙ b))
  reaches_one a b (onward r p) (onward _ q) = reaches_one a b p q

  pub outside_unique : {z w y : ℕ} → FirstOutside n t m z y → FirstOutside n t m w y → z ≡ w
  outside_unique p q = reaches_one p.outside q.outside p.reached q.reached

module _ (n : ℕ) (t m : List ℕ) where
  outside_reaches : (fuel y : ℕ) → Reaches n t m (outside n t m fuel y) y
  unfolding outside hop
  outside_reaches zero y = arrived refl
  outside_reaches (suc fuel) y =
      let rec = outside_reaches fuel (hop n t y) in
      test (marked m y) (λ e. rw (e, outside) (onward e rec)) (λ e. rw (e, outside) (arrived refl))

  pub outside_leaves : (fuel y : ℕ) → outside n t m fuel y ≡ leave (marked m) (hop n t) fuel y
  unfolding outside leave hop
  outside_leaves zero y = refl
  outside_leaves (suc fuel) y =
      let rec = outside_leaves fuel (hop n t y) in
      test (marked m y) (λ e. rw (e, outside, leave) rec) (λ e. rw (e, outside, leave))

-- ---- the walk over cells that are taken away

module _ {n : ℕ} {t m : List ℕ} (L : Layer n t m) where
  abbrev B : BlockTable n t
  B = L.table

  -- the links of a cell do not lead from outside into a cell that is taken away
  pub stays_outside : (x j : ℕ) → j < n → live t x ≡ true → marked m x ≡ false → marked m (link t j x) ≡ false
  stays_outside x j b l out = test (marked m (link t j x)) (λ e.
      let four = low B in
      let back : link t j (link t j x) ≡ x = (rule B x l).comes j (omega arith) in
      absurd (clash (rw back at (L.closed (link t j x) j b e)) out)) (λ e. e)

  pub facing_marked : (x : ℕ) → marked m x ≡ true → marked m (facing n t x) ≡ true
  facing_marked x e = (facing_keeps B (λ y. marked m y ≡ true) (λ y j b _ p. L.closed y j b p) x (L.lives x e) e).1

  reaches_live : {z y : ℕ} → live t y ≡ true → Reaches n t m z y → live t z ≡ true
  reaches_live l (arrived e) = rw (← e) l
  reaches_live {z} {y} l (onward r p) = reaches_live (hop_live B y l) p

  -- what is reached from link n of y is reached from link n of each dart that is reached from y
  reaches_back : {x z y : ℕ} → live t y ≡ true → Reaches n t m z y → Reaches n t m x (link t n y) → Reaches n t m x (link t n z)
  reaches_back l (arrived e) q = rw (← e) q
  reaches_back {x} {z} {y} l (onward r p) q =
      reaches_back (hop_live B y l) p (rw (hop_back B y l) (onward (facing_marked y r) (rw (hop_facing B y l) q)))

  reaches_far : {z y : ℕ} (j : ℕ) → live t y ≡ true → j + 2 ≤ n → Reaches n t m z y → Reaches n t m (link t j z) (link t j y)
  reaches_far j l far (arrived e) = arrived (ap (link t j) e)
  reaches_far {z} {y} j l far (onward r p) =
      onward (L.closed y j (omega arith) r) (rw (hop_far B y j l far) (reaches_far j (hop_live B y l) far p))

  -- ---- from a remaining dart x

  module _ (x : ℕ) (lives : live t x ≡ true) (remains : marked m x ≡ false) where
    returns : Reaches n t m x (link t n (link t n x))
    returns = arrived (link_back B x lives)

    one_way : OneWay (slots t) (marked m) (hop n t) (link t n x)
    one_way = record {
      below = λ y e. live_below (map_table B) y (L.lives y e);
      one = λ y z p q. hop_one B y z (L.lives y p) (L.lives z q);
      first = λ y e h.
          let back : facing n t y ≡ x = sym (hop_back B y (L.lives y e)) ∙ ap (link t n) h ∙ link_back B x lives in
          clash (facing_marked y e) (ap (marked m) back ∙ remains);
    }

    -- the walk ends outside, within the fuel that the model gives it
    pub walk_ends : FirstOutside n t m (outside n t m (slots t) (link t n x)) (link t n x)
    walk_ends = record {
      reached = outside_reaches n t m (slots t) (link t n x);
      outside = ap (marked m) (outside_leaves n t m (slots t) (link t n x)) ∙ escapes one_way;
    }

    pub walk_live : {z : ℕ} → FirstOutside n t m z (link t n x) → live t z ≡ true
    walk_live p = reaches_live (link_live B x lives) p.reached

    -- it can be walked back
    pub walk_back : {z : ℕ} → FirstOutside n t m z (link t n x) → FirstOutside n t m x (link t n z)
    walk_back p = record { reached = reaches_back (link_live B x lives) p.reached returns; outside = remains }

    -- and goes with the links 0..n-2
    pub walk_far : {z : ℕ} (j : ℕ) → j + 2 ≤ n → FirstOutside n t m z (link t n x)
        → FirstOutside n t m (link t j z) (link t n (link t j x))
    walk_far {z} j far p = record {
      reached = rw (link_far B x j lives far) (reaches_far j (link_live B x lives) far p.reached);
      outside = stays_outside z j (omega arith) (walk_live p) p.outside;
    }

    -- where the opposite side of a dart y on the walk is n-free, the walk turns and comes back to x
    pub walk_turns : (y : ℕ) → Reaches n t m y (link t n x) → marked m y ≡ true
        → link t n (walk t (opposite n) y) ≡ walk t (opposite n) y → FirstOutside n t m x (link t n x)
    unfolding hop
    walk_turns y p e free =
        let l = L.lives y e in
        let back : Reaches n t m x (link t n y) = reaches_back (link_live B x lives) p returns in
        let turn : Reaches n t m x (facing n t y) = onward (facing_marked y e) (rw (hop_facing B y l) back) in
        record { reached = reaches_on p (onward e (rw free turn)); outside = remains }
