-- Darts and the vertices that the text names. `meets_exactly`: where 21 and 23 pass, two darts of different cells meet exactly if they have
-- the same vertex, the same other end of their edge, and the same four vertices of their face. `read_listed`: the vertex of a dart is the
-- one listed for it. `read_ends`, `read_vertices`: link 0 leads to the other end of an edge, the other links keep the vertex.
use Prim.Native.Nat.{ℕ, ◌+◌, ◌*◌, ◌/◌, ◌%◌, ◌<◌}
use mathlib.Core.Path.{◌≡◌, refl, sym, ap, ◌∙◌, subst}
use mathlib.Core.Logic.{◌≢◌, ◌↔◌}
use mathlib.Core.Bool.{Bool, true, false}
use mathlib.Core.List.{List, [], Memᴰ as In}
use native.Mathlib.Omega.{arith}
use lib.ListN.{length, get_or}
use lib.Dec.{eqb, ltb}
use borrow.Author.Tests.{eqb-true, eq-eqb, ltb-true}
use Rattle.model.specs.Lists.{all_below, least}
use Rattle.model.specs.Faces.{listed_at, sites, pick, round, same_four, darts, round_at, own_link, vtk_table}
use Rattle.model.specs.Table.{link}
use Rattle.model.specs.Numbering.{cell_link}
use Rattle.model.specs.Checks.{pass, order_ok}
use Rattle.model.specs.Everything.{everything}
use Rattle.model.specs.Meaning.Vtk.{Hexahedra, SameFour, Meets, vertex_at, end_at, Readable}
use Rattle.theorems.proofs.Lists.Scan.{clash, if_eq, if_lt, below_at, least_is}
use Rattle.theorems.proofs.Lists.Ones.{get_or_in, each_at}
use Rattle.theorems.proofs.Vtk.Sites.{site_low_lem, flipped, round_own}
use Rattle.theorems.proofs.Vtk.Faces.{four_back, four_on, four_exactly, face_round, face_four, dart_face}
use Rattle.theorems.proofs.Vtk.Table.{own_cell, own_rest, read_own, read_sewn}
use Rattle.theorems.proofs.Vtk.Three.{within_pick}
use Rattle.theorems.proofs.Vtk.Other.{pick_get_or, four_sites}
use Rattle.theorems.proofs.Vtk.Order.{shared_sewn}
use Rattle.theorems.proofs.Vtk.Fails.{four_sets}

-- ---- in one cell

-- the places of the vertex and of the other end are the same, and so are the four of the face
corner : ℕ → ℕ → Bool
corner i k =
    elim (eqb (get_or (sites i) 0 0) (get_or (sites k) 0 0)) [
      | true ↦ (elim (eqb (get_or (sites i) 1 0) (get_or (sites k) 1 0)) [ true ↦ same_four (sites i) (sites k) | false ↦ false ])
      | false ↦ false
    ]

corners_true : all_below 48 (λ k. eqb (least 48 (λ i. corner i k)) k) ≡ true
unfolding everything corner
corners_true = refl

corner_first : (k : ℕ) → k < 48 → least 48 (λ i. corner i k) ≡ k
corner_first k h = eqb-true _ _ (below_at (λ k. eqb (least 48 (λ i. corner i k)) k) 48 corners_true k h)

corner_of : (i k : ℕ) → get_or (sites i) 0 0 ≡ get_or (sites k) 0 0 → get_or (sites i) 1 0 ≡ get_or (sites k) 1 0
    → same_four (sites i) (sites k) ≡ true → corner i k ≡ true
unfolding corner
corner_of i k a b c = rw (eq-eqb _ _ a, corner) (rw (eq-eqb _ _ b) c)

-- no dart before k has its corner
none_before : (i k : ℕ) → i < k → k < 48 → corner i k ≡ true → ⊥
none_before i k l h e =
    let first = corner_first k h in
    clash e ((least_is (λ i. corner i k) 48).before i (omega arith) (omega arith))

-- of the vertices of a row whose first eight are different
module _ (row : List ℕ) (once : (i j : ℕ) → i < 8 → j < 8 → get_or row i 0 ≡ get_or row j 0 → i ≡ j) where
  same_site : (i k x : ℕ) → i < 48 → k < 48 → x < 4 → get_or (round row i) x 0 ≡ get_or (round row k) x 0
      → get_or (sites i) x 0 ≡ get_or (sites k) x 0
  unfolding round
  same_site i k x hi hk hx e =
      let li = four_sites i in
      let lk = four_sites k in
      let at : (k : ℕ) → k < 48 → x < length (sites k) → get_or (sites k) x 0 < 8
      = λ k h l. ltb-true _ 8 (each_at (λ i. ltb i 8) (sites k) (site_low_lem k h) _ (get_or_in (sites k) x 0 l)) in
      once _ _ (at i hi (omega arith)) (at k hk (omega arith))
      (sym (pick_get_or row (sites i) x (omega arith)) ∙ e ∙ pick_get_or row (sites k) x (omega arith))

  same_four_lem : (i k : ℕ) → i < 48 → k < 48 → same_four (round row i) (round row k) ≡ true → same_four (sites i) (sites k) ≡ true
  unfolding round
  same_four_lem i k hi hk e =
      let (p, q) = (four_exactly (pick row (sites i)) (pick row (sites k))).0 e in
      (four_exactly (sites i) (sites k)).1 (
        within_pick row once (sites i) (sites k) (site_low_lem i hi) (site_low_lem k hk) p,
        within_pick row once (sites k) (sites i) (site_low_lem k hk) (site_low_lem i hi) q,
      )

  corner_one : (i k : ℕ) → i < 48 → k < 48 → get_or (round row i) 0 0 ≡ get_or (round row k) 0 0
      → get_or (round row i) 1 0 ≡ get_or (round row k) 1 0 → same_four (round row i) (round row k) ≡ true → i ≡ k
  corner_one i k hi hk a b c =
      let a = same_site i k 0 hi hk (omega arith) a in
      let b = same_site i k 1 hi hk (omega arith) b in
      let c = same_four_lem i k hi hk c in
      if_eq i k (λ e. e) (λ other. absurd (if_lt i k
      (λ l. none_before i k l hk (corner_of i k a b c))
      (λ l. none_before k i (omega arith) hi (corner_of k i (sym a) (sym b) (four_back (sites i) (sites k) c)))))

-- ---- in two cells

module _ (rows : List (List ℕ)) (cells : Hexahedra rows) (d : ℕ) where
  -- two darts of one cell, of which the one has the round of d and the other its corner
  same_corner : (e x : ℕ) → e < darts rows → x / 48 ≡ e / 48 → round_at rows d ≡ round_at rows x
      → vertex_at rows d ≡ vertex_at rows e → end_at rows d ≡ end_at rows e → same_four (round_at rows d) (round_at rows e) ≡ true → x ≡ e
  unfolding round_at darts
  same_corner e x he cell same a b c =
      let row = get_or rows (e / 48) [] in
      let is : round_at rows d ≡ round row (x % 48) = same ∙ ap (λ (k : ℕ). round (get_or rows k []) (x % 48)) cell in
      let k = corner_one row (λ i j. cells.once (e / 48) i j (omega arith)) (x % 48) (e % 48) (omega arith) (omega arith)
      (ap (λ (r : List ℕ). get_or r 0 0) (sym is) ∙ a) (ap (λ (r : List ℕ). get_or r 1 0) (sym is) ∙ b)
      (subst (λ (r : List ℕ). same_four r (round row (e % 48)) ≡ true) is c) in
      omega arith

  pub meets_exactly : order_ok rows ≡ pass → (e : ℕ) → d < darts rows → e < darts rows → d / 48 ≢ e / 48
      → Meets rows d e ↔ ((vertex_at rows d ≡ vertex_at rows e) × (end_at rows d ≡ end_at rows e)
      × SameFour (round_at rows d) (round_at rows e))
  unfolding round_at darts
  meets_exactly order e hd he apart = (
    λ m. (
      ap (λ (r : List ℕ). get_or r 0 0) m.same,
      ap (λ (r : List ℕ). get_or r 1 0) m.same,
      λ x. (subst (In x) m.same, subst (In x) (sym m.same)),
    ),
    λ (a, b, c).
        let row = get_or rows (e / 48) [] in
        let k = e % 48 in
        let four = (four_sets (round_at rows d) (round_at rows e)).1 c in
        let f = face_round row k in
        let own = four_back f (round row k) (face_four row k (omega arith)) in
        let (x, cell, m) = shared_sewn rows order d (e / 48) f hd (omega arith) apart (dart_face row k (omega arith))
        (four_on (round_at rows d) (round_at rows e) f four own) in
        subst (Meets rows d) (same_corner e x he cell m.same a b four) m,
  )

-- ---- the vertices of the table

vertex_place : ℕ → ℕ
vertex_place k = get_or (sites k) 0 0

places_true : all_below 48 (λ k. eqb (vertex_place (cell_link 3 2 k)) (vertex_place k)) ≡ true
unfolding everything vertex_place
places_true = refl

round_first : (row : List ℕ) (k : ℕ) → get_or (round row k) 0 0 ≡ get_or row (vertex_place k) 0
unfolding round pick sites vertex_place
round_first row k = refl

-- link 0 of a cell leads to the other end of an edge, links 1 and 2 keep the vertex
module _ (row : List ℕ) (k : ℕ) (low : k < 48) where
  first_end : get_or (round row (cell_link 3 0 k)) 0 0 ≡ get_or (round row k) 1 0
  unfolding flipped
  first_end = ap (λ (r : List ℕ). get_or r 0 0) (round_own row 0 k (omega arith) low)

  first_keeps : (i : ℕ) → 0 < i → i < 3 → get_or (round row (cell_link 3 i k)) 0 0 ≡ get_or (round row k) 0 0
  unfolding flipped
  first_keeps i some b = if_eq i 1
      (λ e. subst (λ (i : ℕ). get_or (round row (cell_link 3 i k)) 0 0 ≡ get_or (round row k) 0 0) (sym e)
      (ap (λ (r : List ℕ). get_or r 0 0) (round_own row 1 k (omega arith) low)))
      (λ e.
      let two : i ≡ 2 = omega arith in
      let place = eqb-true _ _ (below_at (λ k. eqb (vertex_place (cell_link 3 2 k)) (vertex_place k)) 48 places_true k low) in
      subst (λ (i : ℕ). get_or (round row (cell_link 3 i k)) 0 0 ≡ get_or (round row k) 0 0) (sym two)
      (round_first row (cell_link 3 2 k) ∙ ap (λ (x : ℕ). get_or row x 0) place ∙ sym (round_first row k)))

own_round : (rows : List (List ℕ)) (i d : ℕ) → i < 4 → round_at rows (own_link i d) ≡ round (get_or rows (d / 48) []) (cell_link 3 i (d % 48))
unfolding round_at
own_round rows i d b = rw (own_cell i d b, own_rest i d b)

pub read_listed : (rows : List (List ℕ)) (c k : ℕ) → k < 48 → vertex_at rows (48 * c + k) ≡ get_or (get_or rows c []) (listed_at (k % 8)) 0
unfolding round_at round pick sites
read_listed rows c k h =
    let cell : (48 * c + k) / 48 ≡ c = omega arith in
    let rest : (48 * c + k) % 48 ≡ k = omega arith in
    rw (cell, rest)

module _ {t : List ℕ} {rows : List (List ℕ)} (R : Readable t rows) where
  pub read_ends : (d : ℕ) → d < darts rows → vertex_at rows (link (vtk_table t rows) 0 d) ≡ end_at rows d
  unfolding round_at
  read_ends d h =
      ap (vertex_at rows) (read_own R 0 d (omega arith) h) ∙ ap (λ (r : List ℕ). get_or r 0 0) (own_round rows 0 d (omega arith))
      ∙ first_end (get_or rows (d / 48) []) (d % 48) (omega arith)

  pub read_vertices : (i d : ℕ) → 0 < i → i < 4 → d < darts rows → vertex_at rows (link (vtk_table t rows) i d) ≡ vertex_at rows d
  unfolding round_at
  read_vertices i d some b h = if_lt i 3
      (λ l. ap (vertex_at rows) (read_own R i d l h) ∙ ap (λ (r : List ℕ). get_or r 0 0) (own_round rows i d b)
      ∙ first_keeps (get_or rows (d / 48) []) (d % 48) (omega arith) i some l)
      (λ l.
      let three : i ≡ 3 = omega arith in
      subst (λ (i : ℕ). vertex_at rows (link (vtk_table t rows) i d) ≡ vertex_at rows d) (sym three) by_three)
    where
      by_three : vertex_at rows (link (vtk_table t rows) 3 d) ≡ vertex_at rows d
      by_three = if_eq (link (vtk_table t rows) 3 d) d (λ e. ap (vertex_at rows) e)
          (λ e. ap (λ (r : List ℕ). get_or r 0 0) (sym ((read_sewn R d _ h e).0 refl).same))
