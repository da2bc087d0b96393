-- Faces as sets of four vertices: a dart's face is one of its cell's six, and the number of cells that share one.
-- Main theorems: `four_exactly` (the test says what a set is), `dart_face`, `sharing_three`.
use Prim.Native.Nat.{ℕ, zero, suc, ◌≤◌, ◌<◌}
use mathlib.Core.Path.{◌≡◌, refl, sym, ap, ◌∙◌}
use mathlib.Core.Logic.{◌≢◌, ◌↔◌, ⊎_elim}
use mathlib.Core.Bool.{Bool, true, ◌&&◌}
use mathlib.Core.List.Memᴰ.{cases_cons as in-cons}
use mathlib.Core.List.Memᴰ.{not-nil}
use mathlib.Core.List.{List, [], ◌∷◌, Memᴰ as In}
use mathlib.Core.List.Memᴰ.{cast as in-cast}
use mathlib.Core.List.Memᴰ.{head as here}
use mathlib.Core.List.Memᴰ.{tail as there}
use mathlib.Core.List.Memᴰ.{append_left as in_left}
use mathlib.Core.List.Memᴰ.{append_right as in_right}
use native.Mathlib.Omega.{arith}
use lib.ListN.{length, get_or}
use lib.Dec.{eqb, ltb}
use borrow.Author.Tests.{eqb-true, eq-eqb, ltb-true}
use Rattle.model.specs.Lists.{least, all_below, all_of, any_of}
use Rattle.model.specs.Faces.{listed_at, onward, sites, pick, round, face_darts, faces_from, faces, all_faces, among, same_four, sharing}
use Rattle.model.specs.Everything.{everything}
use Rattle.theorems.proofs.Lists.Scan.{test, clash, and_l, and_r, and_i, below_at, least_is}
use Rattle.theorems.proofs.Lists.Ones.{get_or_in, each_at, each_of}
use Rattle.model.specs.Meaning.Lists.{Distinct, none, more}
use Rattle.theorems.proofs.Layers.Counts.{how_many_least}

-- ---- some of a list

module _ {A : Type 0} (p : A → Bool) where
  pub in_any_of : (xs : List A) (x : A) → In x xs → p x ≡ true → any_of p xs ≡ true
  unfolding any_of
  in_any_of [] x i e = absurd (not-nil i)
  in_any_of (y ∷ ys) x i e = test (p y) (λ q. rw (q, any_of))
      (λ q. rw (q, any_of) (in_any_of ys x (⊎_elim (λ r. absurd (clash (sym (ap p r) ∙ e) q)) (λ j. j) (in-cons i)) e))

  pub any_in : (xs : List A) → any_of p xs ≡ true → (x : A) × In x xs × (p x ≡ true)
  unfolding any_of
  any_in [] h = absurd (clash h refl)
  any_in (y ∷ ys) h = test (p y) (λ q. (y, here refl, q))
      (λ q. let (x, i, e) = any_in ys (rw (q, any_of) at h) in (x, there i, e))

-- ---- the same four vertices

abbrev pub Within : List ℕ → List ℕ → Type 0
Within r s = (x : ℕ) → In x r → In x s

pub among_in : (s : List ℕ) (x : ℕ) → among s x ≡ true → In x s
unfolding among
among_in s x h = let (y, i, e) = any_in (eqb x) s h in in-cast (eqb-true x y e) i

pub in_among : (s : List ℕ) (x : ℕ) → In x s → among s x ≡ true
unfolding among
in_among s x i = in_any_of (eqb x) s x i (eq-eqb x x refl)

pub four_exactly : (r s : List ℕ) → (same_four r s ≡ true) ↔ (Within r s × Within s r)
unfolding same_four
four_exactly r s = (to, from)
  where
    to : (all_of (among s) r && all_of (among r) s) ≡ true → Within r s × Within s r
    to h = (
      λ x i. among_in s x (each_at (among s) r (and_l (all_of (among s) r) _ h) x i),
      λ x i. among_in r x (each_at (among r) s (and_r (all_of (among s) r) _ h) x i),
    )

    from : Within r s × Within s r → (all_of (among s) r && all_of (among r) s) ≡ true
    from (p, q) = and_i (each_of (among s) r (λ x i. in_among s x (p x i))) (each_of (among r) s (λ x i. in_among r x (q x i)))

pub four_back : (r s : List ℕ) → same_four r s ≡ true → same_four s r ≡ true
four_back r s h = let (p, q) = (four_exactly r s).0 h in (four_exactly s r).1 (q, p)

pub four_on : (r s u : List ℕ) → same_four r s ≡ true → same_four s u ≡ true → same_four r u ≡ true
four_on r s u h k =
    let (p, q) = (four_exactly r s).0 h in
    let (a, b) = (four_exactly s u).0 k in
    (four_exactly r u).1 (λ x i. a x (p x i), λ x i. q x (b x i))

module _ (row : List ℕ) where
  pub in_pick : (is : List ℕ) (i : ℕ) → In i is → In (get_or row i 0) (pick row is)
  unfolding pick
  in_pick [] i h = absurd (not-nil h)
  in_pick (j ∷ js) i h = ⊎_elim (λ e. here (ap (λ (k : ℕ). get_or row k 0) e)) (λ k. there (in_pick js i k)) (in-cons h)

  pub pick_in : (is : List ℕ) (x : ℕ) → In x (pick row is) → (i : ℕ) × In i is × (x ≡ get_or row i 0)
  unfolding pick
  pick_in [] x h = absurd (not-nil h)
  pick_in (j ∷ js) x h = ⊎_elim (λ e. (j, here refl, e)) (λ k. let (i, l, e) = pick_in js x k in (i, there l, e)) (in-cons h)

  pick_within : (is js : List ℕ) → Within is js → Within (pick row is) (pick row js)
  pick_within is js w x h = let (i, l, e) = pick_in is x h in in-cast e (in_pick js i (w i l))

  pick_four : (is js : List ℕ) → same_four is js ≡ true → same_four (pick row is) (pick row js) ≡ true
  pick_four is js h =
      let (p, q) = (four_exactly is js).0 h in
      (four_exactly (pick row is) (pick row js)).1 (pick_within is js p, pick_within js is q)

-- ---- the face of a dart

-- the face of the dart k, of the six
unfoldable pub face_of : ℕ → ℕ
face_of k = least 6 (λ i. same_four (sites (get_or face_darts i 0)) (sites k))

faces_true : all_below 48 (λ k. ltb (face_of k) 6) ≡ true
unfolding everything all_of any_of among same_four listed_at onward sites face_darts face_of
faces_true = refl

pub face_low : (k : ℕ) → k < 48 → face_of k < 6
face_low k h = ltb-true _ _ (below_at (λ k. ltb (face_of k) 6) 48 faces_true k h)

face_sites : (k : ℕ) → k < 48 → same_four (sites (get_or face_darts (face_of k) 0)) (sites k) ≡ true
unfolding face_of
face_sites k h = (least_is (λ i. same_four (sites (get_or face_darts i 0)) (sites k)) 6).passes (face_low k h)

-- a dart's face, as its cell lists it
abbrev pub face_round : List ℕ → ℕ → List ℕ
face_round row k = round row (get_or face_darts (face_of k) 0)

pub face_four : (row : List ℕ) (k : ℕ) → k < 48 → same_four (face_round row k) (round row k) ≡ true
unfolding round
face_four row k h = pick_four row _ _ (face_sites k h)

pub in_from : (row ks : List ℕ) (k : ℕ) → In k ks → In (round row k) (faces_from row ks)
unfolding faces_from
in_from row [] k i = absurd (not-nil i)
in_from row (j ∷ js) k i = ⊎_elim (λ e. here (ap (round row) e)) (λ l. there (in_from row js k l)) (in-cons i)

dart_low : (k : ℕ) → k < 48 → face_of k < length face_darts
unfolding face_darts
dart_low k h = face_low k h

pub dart_face : (row : List ℕ) (k : ℕ) → k < 48 → In (face_round row k) (faces row)
unfolding faces
dart_face row k h = in_from row face_darts _ (get_or_in face_darts (face_of k) 0 (dart_low k h))

pub in_all : (rows : List (List ℕ)) (c : ℕ) (f : List ℕ) → c < length rows → In f (faces (get_or rows c [])) → In f (all_faces rows)
unfolding all_faces
in_all [] c f h i = absurd (omega arith)
in_all (row ∷ rows) zero f h i = in_left (all_faces rows) i
in_all (row ∷ rows) (suc c) f h i = in_right (faces row) (in_all rows c f (omega arith) i)

-- ---- cells that share a face

pub sharing_three : (rows : List (List ℕ)) (r : List ℕ) (a b c : ℕ) → a < length rows → b < length rows → c < length rows
    → a ≢ b → a ≢ c → b ≢ c → ((x : ℕ) → In x (a ∷ b ∷ c ∷ []) → any_of (same_four r) (faces (get_or rows x [])) ≡ true) → 3 ≤ sharing r rows
unfolding sharing
sharing_three rows r a b c ha hb hc ab ac bc has =
    how_many_least (length rows) (λ x. any_of (same_four r) (faces (get_or rows x []))) (a ∷ b ∷ c ∷ []) distinct (λ x i. (low x i, has x i))
  where
    low : (x : ℕ) → In x (a ∷ b ∷ c ∷ []) → x < length rows
    low x i = ⊎_elim (λ e. rw e ha) (λ j. ⊎_elim (λ e. rw e hb) (λ k. ⊎_elim (λ e. rw e hc) (λ l. absurd (not-nil l)) (in-cons k)) (in-cons j)) (in-cons i)

    distinct : Distinct (a ∷ b ∷ c ∷ [])
    distinct = more (λ i. ⊎_elim ab (λ j. ⊎_elim ac (λ k. not-nil k) (in-cons j)) (in-cons i))
        (more (λ i. ⊎_elim bc (λ j. not-nil j) (in-cons i)) (more (λ i. not-nil i) none))
