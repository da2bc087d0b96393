-- When each test of a text's cells fails, in R-1's words: `empty_false` (18), `types_false` (20), `vertices_false` (21), `sharing_false` (22),
-- `order_false` (23). `cycle_exactly`: what the same cyclic order is.
use Prim.Native.Nat.{ℕ, zero, suc, ◌+◌, ◌*◌, ◌-◌, ◌%◌, ◌<◌}
use mathlib.Core.Path.{◌≡◌, refl, sym, ap, ◌∙◌, subst}
use mathlib.Core.Logic.Iff
use mathlib.Core.Logic.{inl, inr, ◌↔◌, ⊎_elim}
use mathlib.Core.Bool.{Bool, true, false, not, ◌||◌}
use mathlib.Core.List.Memᴰ.{cases_cons as in-cons}
use mathlib.Core.List.Memᴰ.{not-nil}
use mathlib.Core.List.{List, [], ◌∷◌, Memᴰ as In}
use native.Mathlib.Omega.{arith}
use lib.ListN.{length, get_or}
use lib.Seq.{ext_get_or}
use lib.Dec.{eqb, leb}
use borrow.Author.Tests.{lt-leb}
use Rattle.model.specs.Lists.{all_below, all_of, any_of, equal}
use Rattle.model.specs.Table.{slots, live}
use Rattle.model.specs.Faces.{faces, all_faces, face_darts, among, same_four, turned, reads, same_order, repeats, sharing, agree}
use Rattle.model.specs.Meaning.Vtk.{OtherType, Repeated, FaceOf, SameFour, SameCycle, onward, back, ThreeCells, OtherCycle}
use Rattle.theorems.proofs.Lists.Scan.{test, clash, or_cases, or_i, below_at, below_not}
use Rattle.theorems.proofs.Lists.Ones.{get_or_in, each_fail}
use Rattle.theorems.proofs.Calls.Tests.{not_fails, eqb_fails, leb_fails, test_fails}
use Rattle.theorems.proofs.Vtk.Sites.{equal_is, equal_same}
use Rattle.theorems.proofs.Vtk.Faces.{among_in, in_any_of, four_exactly, in_all, sharing_three}
use Rattle.theorems.proofs.Vtk.Passed.{once_in}
use Rattle.theorems.proofs.Vtk.Three.{from_in, sharing_cells}
use Rattle.theorems.proofs.Vtk.Readings.{four_list}
use Rattle.theorems.proofs.Vtk.Other.{round_long, all_in}

-- ---- 18: "table not empty"

pub empty_false : (t : List ℕ) → (all_below (slots t) (λ d. not (live t d)) ≡ false) ↔ ((d : ℕ) × (d < slots t) × (live t d ≡ true))
empty_false t = (
  λ h. let (d, b, e) = below_not dead (slots t) h in (d, b, (not_fails (live t d)).0 e),
  λ (d, b, e). test (all_below (slots t) dead)
      (λ h. absurd (clash (below_at dead (slots t) h d b) ((not_fails (live t d)).1 e))) (λ h. h),
)
  where
    dead : ℕ → Bool
    dead d = not (live t d)

-- ---- 20: "other cell type"

pub types_false : (types : List ℕ) → (all_of (λ x. eqb x 12) types ≡ false) ↔ OtherType types
types_false types = Iff.trans (each_fail (λ x. eqb x 12) types)
    (λ (x, i, e). (x, i, (eqb_fails x 12).0 e), λ (x, i, e). (x, i, (eqb_fails x 12).1 e))

-- ---- 21: "vertex repeated in a cell"

-- what is in a list stands at a place of it
in_at : {A : Type 0} (l : List A) (x d : A) → In x l → (k : ℕ) × (k < length l) × (get_or l k d ≡ x)
in_at [] x d i = absurd (not-nil i)
in_at (y ∷ l) x d i = ⊎_elim (λ e. (0, omega arith, sym e))
    (λ j. let (k, h, e) = in_at l x d j in (suc k, omega arith, e)) (in-cons i)

repeats_at : (xs : List ℕ) → repeats xs ≡ true
    → (i : ℕ) × (j : ℕ) × (i < j) × (j < length xs) × (get_or xs i 0 ≡ get_or xs j 0)
unfolding repeats
repeats_at [] h = absurd (clash h refl)
repeats_at (x ∷ xs) h = test (among xs x)
    (λ e. let (j, b, q) = in_at xs x 0 (among_in xs x e) in (0, suc j, omega arith, omega arith, sym q))
    (λ e.
    let (i, j, ij, b, q) = repeats_at xs (rw (e, repeats) at h) in
    (suc i, suc j, omega arith, omega arith, q))

pub vertices_false : (rows : List (List ℕ)) → (all_of (λ row. not (repeats row)) rows ≡ false) ↔ Repeated rows
vertices_false rows = Iff.trans (each_fail (λ row. not (repeats row)) rows) (to, from)
  where
    to : (row : List ℕ) × In row rows × (not (repeats row) ≡ false) → Repeated rows
    to (row, at, e) =
        let (c, cell, is) = in_at rows row [] at in
        let (i, j, ij, low, same) = repeats_at (get_or rows c []) (rw is ((not_fails (repeats row)).0 e)) in
        record { c = c; i = i; j = j; cell = cell; ij = ij; low = low; same = same }

    from : Repeated rows → (row : List ℕ) × In row rows × (not (repeats row) ≡ false)
    from R =
        let row = get_or rows R.c [] in
        let ij = R.ij in
        let low = R.low in (
          row,
          get_or_in rows R.c [] R.cell,
          (not_fails (repeats row)).1 (test (repeats row) (λ e. e)
              (λ e. absurd (let q = once_in row e R.i R.j (omega arith) low R.same in omega arith))),
        )

-- ---- faces

pub four_sets : (f g : List ℕ) → (same_four f g ≡ true) ↔ SameFour f g
four_sets f g = Iff.trans (four_exactly f g) (λ (p, q) x. (p x, q x), λ h. (λ x. (h x).0, λ x. (h x).1))

face_long : (rows : List (List ℕ)) (c : ℕ) (f : List ℕ) → FaceOf rows c f → length f ≡ 4
unfolding faces
face_long rows c f (h, i) =
    let (g, _, e) = from_in (get_or rows c []) face_darts f i in
    ap length e ∙ round_long (get_or rows c []) (get_or face_darts g 0)

-- ---- 22: "three cells with the same four vertices in a face"

pub sharing_false : (rows : List (List ℕ)) → (all_of (λ r. leb (sharing r rows) 2) (all_faces rows) ≡ false) ↔ ThreeCells rows
sharing_false rows = Iff.trans (each_fail (λ r. leb (sharing r rows) 2) (all_faces rows)) (to, from)
  where
    to : (r : List ℕ) × In r (all_faces rows) × (leb (sharing r rows) 2 ≡ false) → ThreeCells rows
    to (r, i, e) =
        let S = sharing_cells rows r ((leb_fails (sharing r rows) 2).0 e) in
        let ab = S.ab in
        let bc = S.bc in
        let low = S.low in
        let same : (f g : List ℕ) → same_four r f ≡ true → same_four r g ≡ true → SameFour f g
        = λ f g p q x.
        let p = (four_sets r f).0 p x in
        let q = (four_sets r g).0 q x in
        (λ k. q.0 (p.1 k), λ k. p.0 (q.1 k)) in
        record {
          a = S.a;
          b = S.b;
          c = S.c;
          ab = λ q. omega arith;
          ac = λ q. omega arith;
          bc = λ q. omega arith;
          f = S.f;
          g = S.g;
          h = S.h;
          of_a = (omega arith, S.in_f);
          of_b = (omega arith, S.in_g);
          of_c = (low, S.in_h);
          fg = same S.f S.g S.four_f S.four_g;
          fh = same S.f S.h S.four_f S.four_h;
        }

    from : ThreeCells rows → (r : List ℕ) × In r (all_faces rows) × (leb (sharing r rows) 2 ≡ false)
    from T =
        let has : (c : ℕ) (g : List ℕ) → FaceOf rows c g → SameFour T.f g → any_of (same_four T.f) (faces (get_or rows c [])) ≡ true
        = λ c g of same. in_any_of (same_four T.f) (faces (get_or rows c [])) g of.1 ((four_sets T.f g).1 same) in
        let many = sharing_three rows T.f T.a T.b T.c T.of_a.0 T.of_b.0 T.of_c.0 T.ab T.ac T.bc
        (λ x i. ⊎_elim (λ q. rw q (has T.a T.f T.of_a (λ y. (λ k. k, λ k. k))))
        (λ j. ⊎_elim (λ q. rw q (has T.b T.g T.of_b T.fg))
        (λ k. ⊎_elim (λ q. rw q (has T.c T.h T.of_c T.fh)) (λ l. absurd (not-nil l)) (in-cons k)) (in-cons j)) (in-cons i)) in
        (T.f, in_all rows T.a T.f T.of_a.0 T.of_a.1, lt-leb (sharing T.f rows) 2 many)

-- ---- the same cyclic order

by_four : (P : ℕ → Type 0) → P 0 → P 1 → P 2 → P 3 → (i : ℕ) → i < 4 → P i
by_four P a b c d zero h = a
by_four P a b c d (suc zero) h = b
by_four P a b c d (suc (suc zero)) h = c
by_four P a b c d (suc (suc (suc zero))) h = d
by_four P a b c d (suc (suc (suc (suc i)))) h = absurd (omega arith)

-- g reads as u does from its place m on
Reads : List ℕ → List ℕ → Type 0
Reads u g = (m : ℕ) × ((i : ℕ) → i < 4 → get_or g i 0 ≡ get_or u ((m + i) % 4) 0)

module _ (a b c d : ℕ) (g : List ℕ) (long : length g ≡ 4) where
  abbrev f : List ℕ
  f = a ∷ b ∷ c ∷ d ∷ []

  -- f from its place r on
  abbrev from_place : ℕ → List ℕ → Type 0
  from_place r u = (i : ℕ) → i < 4 → get_or f ((r + i) % 4) 0 ≡ get_or u i 0

  read_so : (r : ℕ) (u : List ℕ) → from_place r u → equal u g ≡ true → Reads f g
  unfolding Reads
  read_so r u same e = (r, λ i h. ap (λ (l : List ℕ). get_or l i 0) (sym (equal_is u g e)) ∙ sym (same i h))

  so_read : (r : ℕ) (u : List ℕ) → length u ≡ 4 → from_place r u
      → ((i : ℕ) → i < 4 → get_or g i 0 ≡ get_or f ((r + i) % 4) 0) → equal u g ≡ true
  so_read r u four same h =
      let is : g ≡ u = ext_get_or 0 g u (long ∙ sym four) (λ i b. h i (omega arith) ∙ same i (omega arith)) in
      rw is (equal_same u)

  first_0 : from_place 0 f
  first_0 = by_four (λ i. get_or f ((0 + i) % 4) 0 ≡ get_or f i 0) refl refl refl refl

  first_1 : from_place 1 (b ∷ c ∷ d ∷ a ∷ [])
  first_1 = by_four (λ i. get_or f ((1 + i) % 4) 0 ≡ get_or (b ∷ c ∷ d ∷ a ∷ []) i 0) refl refl refl refl

  first_2 : from_place 2 (c ∷ d ∷ a ∷ b ∷ [])
  first_2 = by_four (λ i. get_or f ((2 + i) % 4) 0 ≡ get_or (c ∷ d ∷ a ∷ b ∷ []) i 0) refl refl refl refl

  first_3 : from_place 3 (d ∷ a ∷ b ∷ c ∷ [])
  first_3 = by_four (λ i. get_or f ((3 + i) % 4) 0 ≡ get_or (d ∷ a ∷ b ∷ c ∷ []) i 0) refl refl refl refl

  abbrev from_0 : Bool
  from_0 = equal f g

  abbrev from_1 : Bool
  from_1 = equal (b ∷ c ∷ d ∷ a ∷ []) g

  abbrev from_2 : Bool
  from_2 = equal (c ∷ d ∷ a ∷ b ∷ []) g

  abbrev from_3 : Bool
  from_3 = equal (d ∷ a ∷ b ∷ c ∷ []) g

  reads_exactly : (reads f g ≡ true) ↔ Reads f g
  unfolding reads turned Reads
  reads_exactly = (to, from)
    where
      to : (from_0 || from_1 || from_2 || from_3) ≡ true → Reads f g
      to h = ⊎_elim
          (λ h. ⊎_elim
          (λ h. ⊎_elim (read_so 0 f first_0) (read_so 1 _ first_1) (or_cases from_0 _ h))
          (read_so 2 _ first_2) (or_cases (from_0 || from_1) _ h))
          (read_so 3 _ first_3) (or_cases (from_0 || from_1 || from_2) _ h)

      at : (m : ℕ) → ((i : ℕ) → i < 4 → get_or g i 0 ≡ get_or f ((m + i) % 4) 0) → (i : ℕ) → i < 4
          → get_or g i 0 ≡ get_or f ((m % 4 + i) % 4) 0
      at m h i b = h i b ∙ ap (λ (x : ℕ). get_or f x 0) (let e : (m + i) % 4 ≡ (m % 4 + i) % 4 = omega arith in e)

      from : Reads f g → (from_0 || from_1 || from_2 || from_3) ≡ true
      from (m, h) = by_four
          (λ r. ((i : ℕ) → i < 4 → get_or g i 0 ≡ get_or f ((r + i) % 4) 0) → (from_0 || from_1 || from_2 || from_3) ≡ true)
          (λ h. or_i (from_0 || from_1 || from_2) _ (inl (or_i (from_0 || from_1) _ (inl (or_i from_0 _ (inl (so_read 0 f refl first_0 h)))))))
          (λ h. or_i (from_0 || from_1 || from_2) _ (inl (or_i (from_0 || from_1) _ (inl (or_i from_0 _ (inr (so_read 1 _ refl first_1 h)))))))
          (λ h. or_i (from_0 || from_1 || from_2) _ (inl (or_i (from_0 || from_1) _ (inr (so_read 2 _ refl first_2 h)))))
          (λ h. or_i (from_0 || from_1 || from_2) _ (inr (so_read 3 _ refl first_3 h)))
          (m % 4) (omega arith) (at m h)

-- read back: the reverse of f is read onward
module _ (a b c d : ℕ) (g : List ℕ) where
  abbrev ahead : List ℕ
  ahead = a ∷ b ∷ c ∷ d ∷ []

  abbrev behind : List ℕ
  behind = d ∷ c ∷ b ∷ a ∷ []

  behind_at : (i : ℕ) → i < 4 → get_or behind i 0 ≡ get_or ahead (3 - i) 0
  behind_at = by_four (λ i. get_or behind i 0 ≡ get_or ahead (3 - i) 0) refl refl refl refl

  ahead_at : (i : ℕ) → i < 4 → get_or ahead i 0 ≡ get_or behind (3 - i) 0
  ahead_at = by_four (λ i. get_or ahead i 0 ≡ get_or behind (3 - i) 0) refl refl refl refl

  reads_back : Reads behind g → SameCycle ahead g
  unfolding Reads
  reads_back (m, h) = back (3 + 3 * m) (λ i b. h i b ∙ behind_at ((m + i) % 4) (omega arith)
      ∙ ap (λ (x : ℕ). get_or ahead x 0) (let e : 3 - (m + i) % 4 ≡ (3 + 3 * m + (4 - i)) % 4 = omega arith in e))

  back_reads : (k : ℕ) → ((i : ℕ) → i < 4 → get_or g i 0 ≡ get_or ahead ((k + (4 - i)) % 4) 0) → Reads behind g
  unfolding Reads
  back_reads k h = (
    3 + 3 * k,
    λ i b. h i b ∙ ahead_at ((k + (4 - i)) % 4) (omega arith)
        ∙ ap (λ (x : ℕ). get_or behind x 0) (let e : 3 - (k + (4 - i)) % 4 ≡ (3 + 3 * k + i) % 4 = omega arith in e),
  )

  order_exactly : length g ≡ 4 → (same_order ahead g ≡ true) ↔ SameCycle ahead g
  unfolding same_order Reads
  order_exactly long = (
    λ h. ⊎_elim (λ e. let (k, at) = (reads_exactly a b c d g long).0 e in onward k at)
        (λ e. reads_back ((reads_exactly d c b a g long).0 e)) (or_cases (reads ahead g) _ h),
    from,
  )
    where
      from : SameCycle ahead g → (reads ahead g || reads behind g) ≡ true
      from (onward k at) = or_i (reads ahead g) _ (inl ((reads_exactly a b c d g long).1 (k, at)))
      from (back k at) = or_i (reads ahead g) _ (inr ((reads_exactly d c b a g long).1 (back_reads k at)))

pub cycle_exactly : (f g : List ℕ) → length f ≡ 4 → length g ≡ 4 → (same_order f g ≡ true) ↔ SameCycle f g
cycle_exactly f g long_f long_g =
    let (a, b, c, d, e) = four_list f long_f in
    subst (λ (u : List ℕ). (same_order u g ≡ true) ↔ SameCycle u g) (sym e) (order_exactly a b c d g long_g)

-- ---- 23: "same four vertices in another order"

agree_false : (f g : List ℕ) → (agree f g ≡ false) ↔ ((same_four f g ≡ true) × (same_order f g ≡ false))
unfolding agree
agree_false f g = (
  λ h. test (same_four f g) (λ e. (e, rw (e, agree) at h)) (λ e. absurd (clash (rw (e, agree)) h)),
  λ (e, h). rw (e, agree) h,
)

pub order_false : (rows : List (List ℕ))
    → (all_of (λ r. all_of (agree r) (all_faces rows)) (all_faces rows) ≡ false) ↔ OtherCycle rows
order_false rows = (to, from)
  where
    each : List ℕ → Bool
    each r = all_of (agree r) (all_faces rows)

    to : all_of each (all_faces rows) ≡ false → OtherCycle rows
    to h =
        let (f, i, not_f) = (each_fail each (all_faces rows)).0 h in
        let (g, j, not_g) = (each_fail (agree f) (all_faces rows)).0 not_f in
        let (a, low_a, in_a) = all_in rows f i in
        let (b, low_b, in_b) = all_in rows g j in
        let (four, other) = (agree_false f g).0 not_g in
        record {
          a = a;
          b = b;
          f = f;
          g = g;
          of_a = (low_a, in_a);
          of_b = (low_b, in_b);
          four = (four_sets f g).0 four;
          other = (test_fails _ (cycle_exactly f g (face_long rows a f (low_a, in_a)) (face_long rows b g (low_b, in_b)))).0 other;
        }

    from : OtherCycle rows → all_of each (all_faces rows) ≡ false
    from O =
        let cycle = cycle_exactly O.f O.g (face_long rows O.a O.f O.of_a) (face_long rows O.b O.g O.of_b) in
        let other = (agree_false O.f O.g).1 ((four_sets O.f O.g).1 O.four, (test_fails _ cycle).1 O.other) in
        let in_f = in_all rows O.a O.f O.of_a.0 O.of_a.1 in
        let in_g = in_all rows O.b O.g O.of_b.0 O.of_b.1 in
        (each_fail each (all_faces rows)).1 (O.f, in_f, (each_fail (agree O.f) (all_faces rows)).1 (O.g, in_g, other))
