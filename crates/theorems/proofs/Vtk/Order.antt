-- Faces with the same four vertices: read in the same cyclic order, they are sewn dart by dart.
-- Main theorem: `shared_sewn`.
use Prim.Native.Nat.{ℕ, ◌+◌, ◌*◌, ◌/◌, ◌%◌, ◌<◌}
use mathlib.Core.Path.{◌≡◌, refl, sym, ap, ◌∙◌, subst}
use mathlib.Core.Logic.{◌≢◌, ⊎_elim}
use mathlib.Core.Bool.{Bool, true, ◌||◌, ◌&&◌}
use mathlib.Core.List.Memᴰ.{cases_cons as in-cons}
use mathlib.Core.List.Memᴰ.{not-nil}
use mathlib.Core.List.{List, [], ◌∷◌, Memᴰ as In, reverse}
use native.Mathlib.Omega.{arith}
use lib.ListN.{length, get_or}
use lib.Dec.{eqb, ltb}
use borrow.Author.Tests.{eqb-true, ltb-true}
use Rattle.model.specs.Lists.{all_below, all_of, any_of, equal}
use Rattle.model.specs.Faces.{listed_at, onward, sites, round, face_darts, faces_from, faces, all_faces, among, same_four, turned, reads, same_order, agree, darts, round_at}
use Rattle.model.specs.Checks.{pass, order_ok}
use Rattle.model.specs.Numbering.{cell_link}
use Rattle.model.specs.Everything.{everything}
use Rattle.model.specs.Meaning.Vtk.{Meets}
use Rattle.theorems.proofs.Lists.Scan.{test, clash, and_l, and_r, or_cases, below_at}
use Rattle.theorems.proofs.Cells.Rows.{small, row_walk}
use Rattle.theorems.proofs.Lists.Ones.{each_at}
use Rattle.theorems.proofs.Calls.Pass.{must_pass}
use Rattle.theorems.proofs.Vtk.Sites.{equal_is, link_low, link_comes, flipped, round_own, round_turned, round_back}
use Rattle.theorems.proofs.Vtk.Faces.{any_in, face_of, face_round, face_four, dart_face, in_all, four_on}

-- ---- one face in two cells

-- the cell has a dart with this round
Has : List ℕ → List ℕ → Type 0
Has row r = (m : ℕ) × (m < 48) × (r ≡ round row m)

module _ (row other : List ℕ) where
  has_own : (j k : ℕ) → j < 2 → k < 48 → Has other (round row k) → Has other (round row (cell_link 3 j k))
  unfolding Has
  has_own j k b h (m, l, e) = (
    cell_link 3 j m,
    link_low j m (omega arith) l,
    round_own row j k b h ∙ ap (flipped j) e ∙ sym (round_own other j m b l),
  )

  -- along a word of links 0 and 1, and back
  has_on : (w : List ℕ) (k : ℕ) → small 2 w ≡ true → k < 48 → Has other (round row k) → Has other (round row (row_walk 3 w k))
  unfolding row_walk small
  has_on [] k s h p = p
  has_on (j ∷ w) k s h p = test (ltb j 2)
      (λ e.
      let b = ltb-true j 2 e in
      has_on w (cell_link 3 j k) (rw (e, small) at s) (link_low j k (omega arith) h) (has_own j k b h p))
      (λ e. absurd (clash s (rw (e, small))))

  has_back : (w : List ℕ) (k : ℕ) → small 2 w ≡ true → k < 48 → Has other (round row (row_walk 3 w k)) → Has other (round row k)
  unfolding row_walk small
  has_back [] k s h p = p
  has_back (j ∷ w) k s h p = test (ltb j 2)
      (λ e.
      let b = ltb-true j 2 e in
      let low = link_low j k (omega arith) h in
      subst (λ (x : ℕ). Has other (round row x)) (link_comes j k (omega arith) h)
      (has_own j (cell_link 3 j k) b low (has_back w (cell_link 3 j k) (rw (e, small) at s) low p)))
      (λ e. absurd (clash s (rw (e, small))))

-- ---- the readings of a face

module _ (row : List ℕ) where
  -- s is the round of the dart that a word of links 0 and 1 leads to
  Read : ℕ → List ℕ → Type 0
  Read k s = (w : List ℕ) × (small 2 w ≡ true) × (s ≡ round row (row_walk 3 w k))

  abbrev next : ℕ → ℕ
  next k = cell_link 3 1 (cell_link 3 0 k)

  next_low : (k : ℕ) → k < 48 → next k < 48
  next_low k h = link_low 1 (cell_link 3 0 k) (omega arith) (link_low 0 k (omega arith) h)

  reads_is : (k : ℕ) (s : List ℕ) → k < 48 → reads (round row k) s ≡ true → Read k s
  unfolding reads Read row_walk small
  reads_is k s h e = ⊎_elim (λ e₃. ⊎_elim (λ e₂. ⊎_elim (λ e₁. ([], refl, sym (equal_is _ _ e₁)))
      (λ e₁. (0 ∷ 1 ∷ [], refl, sym (equal_is _ _ e₁) ∙ one))
      (or_cases (equal r s) _ e₂))
      (λ e₂. (0 ∷ 1 ∷ 0 ∷ 1 ∷ [], refl, sym (equal_is _ _ e₂) ∙ two))
      (or_cases (equal r s || equal (turned r) s) _ e₃))
      (λ e₃. (0 ∷ 1 ∷ 0 ∷ 1 ∷ 0 ∷ 1 ∷ [], refl, sym (equal_is _ _ e₃) ∙ three))
      (or_cases (equal r s || equal (turned r) s || equal (turned (turned r)) s) _ e)
    where
      r : List ℕ
      r = round row k

      one : turned r ≡ round row (next k)
      one = round_turned row k h

      two : turned (turned r) ≡ round row (next (next k))
      two = ap turned one ∙ round_turned row (next k) (next_low k h)

      three : turned (turned (turned r)) ≡ round row (next (next (next k)))
      three = ap turned two ∙ round_turned row (next (next k)) (next_low (next k) (next_low k h))

  order_is : (k : ℕ) (s : List ℕ) → k < 48 → same_order (round row k) s ≡ true → Read k s
  unfolding same_order Read row_walk small
  order_is k s h e = ⊎_elim (reads_is k s h) back (or_cases (reads (round row k) s) _ e)
    where
      low : cell_link 3 1 k < 48
      low = link_low 1 k (omega arith) h

      same : reverse (round row k) ≡ round row (next (cell_link 3 1 k))
      same = round_back row k h ∙ round_turned row (cell_link 3 1 k) low

      back : reads (reverse (round row k)) s ≡ true → Read k s
      back q =
          let (w, small_w, is) = reads_is (next (cell_link 3 1 k)) s (next_low (cell_link 3 1 k) low)
          (subst (λ (r : List ℕ). reads r s ≡ true) same q) in
          (1 ∷ 0 ∷ 1 ∷ w, small_w, is)

-- ---- the darts of a face

-- the words that lead from a dart of a face to each of its eight
face_words : List (List ℕ)
face_words =
    [] ∷ (0 ∷ []) ∷ (0 ∷ 1 ∷ []) ∷ (0 ∷ 1 ∷ 0 ∷ []) ∷ (0 ∷ 1 ∷ 0 ∷ 1 ∷ []) ∷ (0 ∷ 1 ∷ 0 ∷ 1 ∷ 0 ∷ []) ∷ (0 ∷ 1 ∷ 0 ∷ 1 ∷ 0 ∷ 1 ∷ [])
    ∷ (0 ∷ 1 ∷ 0 ∷ 1 ∷ 0 ∷ 1 ∷ 0 ∷ []) ∷ []

-- the first dart of the face of k
first_dart : ℕ → ℕ
first_dart k = get_or face_darts (face_of k) 0

leads : ℕ → List ℕ → Bool
leads k w = small 2 w && eqb (row_walk 3 w (first_dart k)) k

words_true : all_below 48 (λ k. ltb (first_dart k) 48 && any_of (leads k) face_words) ≡ true
unfolding everything all_of any_of among same_four listed_at onward sites face_darts face_of first_dart leads face_words small row_walk
words_true = refl

first_low : (k : ℕ) → k < 48 → first_dart k < 48
first_low k h = ltb-true _ _ (and_l (ltb (first_dart k) 48) _
    (below_at (λ k. ltb (first_dart k) 48 && any_of (leads k) face_words) 48 words_true k h))

first_leads : (k : ℕ) → k < 48 → (w : List ℕ) × (small 2 w ≡ true) × (row_walk 3 w (first_dart k) ≡ k)
unfolding leads
first_leads k h =
    let (w, _, e) = any_in (leads k) face_words (and_r (ltb (first_dart k) 48) _
    (below_at (λ k. ltb (first_dart k) 48 && any_of (leads k) face_words) 48 words_true k h)) in
    (w, and_l (small 2 w) _ e, eqb-true _ _ (and_r (small 2 w) _ e))

-- a face of a cell is the round of one of its darts
dart_of : (row ks f : List ℕ) → all_of (λ k. ltb k 48) ks ≡ true → In f (faces_from row ks) → Has row f
unfolding faces_from all_of Has
dart_of row [] f h i = absurd (not-nil i)
dart_of row (k ∷ ks) f h i = test (ltb k 48)
    (λ e. ⊎_elim (λ q. (k, ltb-true k 48 e, q)) (dart_of row ks f (rw (e, all_of) at h)) (in-cons i))
    (λ e. absurd (clash h (rw (e, all_of))))

face_of_lem : (row f : List ℕ) → In f (faces row) → Has row f
unfolding faces
face_of_lem row f i = dart_of row face_darts f (unfold all_of face_darts in refl) i

-- ---- 23 passed: "faces with the same four vertices .. are sewn vertex to vertex"

module _ (rows : List (List ℕ)) (passed : order_ok rows ≡ pass) where
  agree_at : (r s : List ℕ) → In r (all_faces rows) → In s (all_faces rows) → same_four r s ≡ true → same_order r s ≡ true
  unfolding order_ok agree
  agree_at r s i j four =
      let each = each_at (λ r. all_of (agree r) (all_faces rows)) (all_faces rows) (must_pass _ 23 passed) r i in
      rw (four, agree) at (each_at (agree r) (all_faces rows) each s j)

  -- the face of a dart and a face of a cell, with the same four vertices: the cell has a dart with the same round
  shared_has : (d c : ℕ) (f : List ℕ) → d < darts rows → c < length rows → In f (faces (get_or rows c []))
      → same_four (round_at rows d) f ≡ true → Has (get_or rows c []) (round_at rows d)
  unfolding round_at darts Has Read first_dart
  shared_has d c f low high i four =
      let k = d % 48 in
      let row = get_or rows (d / 48) [] in
      let other = get_or rows c [] in
      let hk : k < 48 = omega arith in
      let r = face_round row k in
      let in_r = in_all rows (d / 48) r (omega arith) (dart_face row k hk) in
      let in_f = in_all rows c f high i in
      let order = agree_at r f in_r in_f (four_on r (round row k) f (face_four row k hk) four) in
      let (m₀, h₀, is₀) = face_of_lem other f i in
      let (w, small_w, is) = order_is row (first_dart k) f (first_low k hk) order in
      let (v, small_v, leads_v) = first_leads k hk in
      let first = has_back row other w (first_dart k) small_w (first_low k hk) (m₀, h₀, sym is ∙ is₀) in
      subst (λ (x : ℕ). Has other (round row x)) leads_v (has_on row other v (first_dart k) small_v (first_low k hk) first)

  -- each dart of a face is sewn to the other cell that has a face with the same four vertices
  pub shared_sewn : (d c : ℕ) (f : List ℕ) → d < darts rows → c < length rows → d / 48 ≢ c → In f (faces (get_or rows c []))
      → same_four (round_at rows d) f ≡ true → (e : ℕ) × (e / 48 ≡ c) × Meets rows d e
  unfolding round_at darts Has
  shared_sewn d c f low high apart i four =
      let (m, h, is) = shared_has d c f low high i four in
      let cell : (48 * c + m) / 48 ≡ c = omega arith in
      let rest : (48 * c + m) % 48 ≡ m = omega arith in (
        48 * c + m,
        cell,
        record {
          low = low;
          low_other = omega arith;
          apart = λ q. apart (q ∙ cell);
          same = rw (cell, rest) is;
        },
      )
