-- What the passed checks of a read text say.
-- Main theorems: `vtk_passed`, `vtk_some`. Of 19 and 20: `form_eight`; of 21: `vertices_once`; of 22: `no_three`; of 14: `room_test`.
use Prim.Native.Nat.{ℕ, zero, suc, ◌*◌, ◌/◌, ◌%◌, ◌≤◌, ◌<◌}
use mathlib.Core.Path.{◌≡◌, refl, sym, ap, ◌∙◌}
use mathlib.Core.Logic.{⊎_elim}
use mathlib.Core.Bool.{true, false, not}
use mathlib.Core.List.Memᴰ.{cases_cons as in-cons}
use mathlib.Core.List.Memᴰ.{not-nil}
use mathlib.Core.List.{List, [], ◌∷◌, Memᴰ as In}
use mathlib.Core.List.Memᴰ.{cast as in-cast}
use mathlib.Core.Option.{Option, none, some}
use native.Mathlib.Omega.{arith}
use lib.ListN.{length, get_or}
use lib.Dec.{eqb, leb}
use borrow.Author.Tests.{eqb-true, leb-true, not-true}
use Rattle.model.specs.Table.{slots, live}
use Rattle.model.specs.Lists.{any_of}
use Rattle.model.specs.Vtk.{Grid, grid_of, rows_in, types_in}
use Rattle.model.specs.Faces.{among, repeats, sharing, same_four, faces, all_faces, round, round_at, darts}
use Rattle.model.specs.Checks.{pass, must, in_order, map_checks, empty_ok, form_ok, types_ok, vertices_ok, sharing_ok, cells_room_ok, grid_checks, vtk_checks}
use Rattle.model.specs.Meaning.Vtk.{Hexahedra, Meets, Readable}
use Rattle.theorems.proofs.Lists.Scan.{test, clash, if_lt, below_at, length_tab}
use Rattle.theorems.proofs.Lists.Ones.{get_or_in, each_at}
use Rattle.theorems.proofs.Maps.Rules.{dead_out}
use Rattle.theorems.proofs.Calls.Checks.{passed_at, not_pass}
use Rattle.theorems.proofs.Calls.Pass.{must_pass, solid_pass, table_pass}
use Rattle.theorems.proofs.Vtk.Faces.{in_any_of, in_among, four_back, four_on, face_round, face_four, dart_face, in_all, sharing_three}
use Rattle.theorems.proofs.Vtk.Form.{form_exactly, form_types}
use Rattle.theorems.proofs.Vtk.Counts.{all_unused}

-- ---- 21: "vertex repeated in a cell"

pub once_in : (xs : List ℕ) → repeats xs ≡ false → (i j : ℕ) → i < length xs → j < length xs → get_or xs i 0 ≡ get_or xs j 0 → i ≡ j
unfolding repeats
once_in [] h i j hi hj e = absurd (omega arith)
once_in (x ∷ xs) h zero zero hi hj e = refl
once_in (x ∷ xs) h zero (suc j) hi hj e = absurd (test (among xs x) (λ q. clash (rw (q, repeats)) h)
    (λ q. clash (in_among xs x (in-cast e (get_or_in xs j 0 (omega arith)))) q))
once_in (x ∷ xs) h (suc i) zero hi hj e = absurd (test (among xs x) (λ q. clash (rw (q, repeats)) h)
    (λ q. clash (in_among xs x (in-cast (sym e) (get_or_in xs i 0 (omega arith)))) q))
once_in (x ∷ xs) h (suc i) (suc j) hi hj e = test (among xs x) (λ q. absurd (clash (rw (q, repeats)) h))
    (λ q. ap suc (once_in xs (rw (q, repeats) at h) i j (omega arith) (omega arith) e))

-- ---- 22: "three cells with the same four vertices in a face"

module _ (rows : List (List ℕ)) (passed : sharing_ok rows ≡ pass) where
  few : (r : List ℕ) → In r (all_faces rows) → sharing r rows ≤ 2
  unfolding sharing_ok
  few r i = leb-true _ _ (each_at (λ r. leb (sharing r rows) 2) (all_faces rows) (must_pass _ 22 passed) r i)

  pub no_three : (d e f : ℕ) → Meets rows d e → Meets rows d f → Meets rows e f → ⊥
  unfolding round_at darts
  no_three d e f m n o =
      let three = sharing_three rows r (d / 48) (e / 48) (f / 48) (low d m.low) (low e m.low_other) (low f n.low_other)
      m.apart n.apart o.apart has in
      let two = few r (in_all rows (d / 48) r (low d m.low) (dart_face (get_or rows (d / 48) []) (d % 48) (omega arith))) in
      omega arith
    where
      row : ℕ → List ℕ
      row x = get_or rows (x / 48) []

      r : List ℕ
      r = face_round (row d) (d % 48)

      low : (x : ℕ) → x < 48 * length rows → x / 48 < length rows
      low x h = omega arith

      -- the cell of a dart that meets d has a face with these four vertices
      shares : (x : ℕ) → round (row d) (d % 48) ≡ round (row x) (x % 48) → any_of (same_four r) (faces (row x)) ≡ true
      shares x same =
          let own = face_four (row d) (d % 48) (omega arith) in
          let other = face_four (row x) (x % 48) (omega arith) in
          let s = face_round (row x) (x % 48) in
          in_any_of (same_four r) (faces (row x)) s (dart_face (row x) (x % 48) (omega arith))
          (four_on r (round (row d) (d % 48)) s own (four_back s (round (row d) (d % 48)) (rw same other)))

      has : (c : ℕ) → In c (d / 48 ∷ e / 48 ∷ f / 48 ∷ []) → any_of (same_four r) (faces (get_or rows c [])) ≡ true
      has c i = ⊎_elim (λ q. rw q (shares d refl)) (λ j. ⊎_elim (λ q. rw q (shares e m.same))
          (λ k. ⊎_elim (λ q. rw q (shares f n.same)) (λ l. absurd (not-nil l)) (in-cons k)) (in-cons j)) (in-cons i)

-- ---- all of them

pub empty_pass : (t : List ℕ) → length t ≡ 4 * slots t → empty_ok t ≡ pass → (d : ℕ) → live t d ≡ false
unfolding empty_ok
empty_pass t whole h d = if_lt d (slots t)
    (λ l. not-true _ (below_at (λ d. not (live t d)) (slots t) (must_pass _ 18 h) d l)) (λ l. dead_out t d whole l)

types_pass : (ts : List ℕ) → types_ok ts ≡ pass → (t : ℕ) → In t ts → t ≡ 12
unfolding types_ok
types_pass ts h t i = eqb-true t 12 (each_at (λ t. eqb t 12) ts (must_pass _ 20 h) t i)

vertices_pass : (rows : List (List ℕ)) → vertices_ok rows ≡ pass → (c : ℕ) → c < length rows → repeats (get_or rows c []) ≡ false
unfolding vertices_ok
vertices_pass rows h c l =
    not-true _ (each_at (λ row. not (repeats row)) rows (must_pass _ 21 h) (get_or rows c []) (get_or_in rows c [] l))

-- no vertex stands twice in a cell
pub vertices_once : (rows : List (List ℕ)) → ((c : ℕ) → c < length rows → length (get_or rows c []) ≡ 8) → vertices_ok rows ≡ pass
    → Hexahedra rows
vertices_once rows eight h = record {
  eight = eight;
  once = λ c i j l li lj. let e = eight c l in once_in (get_or rows c []) (vertices_pass rows h c l) i j (omega arith) (omega arith);
}

-- 14, where no slot is live
pub room_test : (t : List ℕ) (rows : List (List ℕ)) → ((d : ℕ) → live t d ≡ false)
    → must (leb (darts rows) (slots t)) 14 ≡ cells_room_ok t rows
unfolding cells_room_ok
room_test t rows empty =
    ap (λ (k : ℕ). must (leb (darts rows) k) 14) (sym (ap length (all_unused t empty) ∙ length_tab (λ x. x) (slots t)))

room_pass : (t : List ℕ) (rows : List (List ℕ)) → cells_room_ok t rows ≡ pass → ((d : ℕ) → live t d ≡ false) → darts rows ≤ slots t
room_pass t rows h empty = leb-true _ _ (must_pass _ 14 (room_test t rows empty ∙ h))

-- "a type 12 row has 8 numbers"
pub form_eight : (bs : List ℕ) (g : Grid) → grid_of bs ≡ some g → types_ok g.types ≡ pass
    → (c : ℕ) → c < length g.rows → length (get_or g.rows c []) ≡ 8
form_eight bs g is types c l =
    let F = (form_exactly bs g).0 is in
    let long = form_types F in
    F.eights c l (types_pass g.types types _ (get_or_in g.types c 0 (omega arith)))

form_pass : form_ok none ≡ pass → ⊥
unfolding form_ok
form_pass h = not_pass h

none_formed : (n : ℕ) (t j : List ℕ) → in_order (vtk_checks n t j none) ≡ pass → form_ok none ≡ pass
unfolding vtk_checks map_checks grid_checks
none_formed n t j h = passed_at (vtk_checks n t j none) h 8

-- what the checks say of the text's grid
module _ (n : ℕ) (t j : List ℕ) (g : Grid) (bs : List ℕ) (is : grid_of bs ≡ some g)
    (h : in_order (vtk_checks n t j (some g)) ≡ pass) where
  check : (i : ℕ) → get_or (vtk_checks n t j (some g)) i pass ≡ pass
  check = passed_at (vtk_checks n t j (some g)) h

  grid_passed : (n ≡ 3) × Readable t g.rows
  unfolding vtk_checks map_checks grid_checks rows_in types_in
  grid_passed =
      let (whole, few) = table_pass t (check 1) in
      let empty = empty_pass t whole (check 7) in (
        solid_pass n (check 0),
        record {
          whole = whole;
          few = few;
          empty = empty;
          cells = vertices_once g.rows (form_eight bs g is (check 9)) (check 10);
          no_three = no_three g.rows (check 11);
          room = room_pass t g.rows (check 13) empty;
        },
      )

pub vtk_passed : (n : ℕ) (t j bs : List ℕ) → in_order (vtk_checks n t j (grid_of bs)) ≡ pass
    → (n ≡ 3) × Readable t (rows_in (grid_of bs))
unfolding rows_in
vtk_passed n t j bs h = by (grid_of bs) refl h
  where
    by : (o : Option Grid) → grid_of bs ≡ o → in_order (vtk_checks n t j o) ≡ pass → (n ≡ 3) × Readable t (rows_in o)
    by none e h = absurd (form_pass (none_formed n t j h))
    by (some g) e h = grid_passed n t j g bs e h

-- "CELLS (one or more)"
pub vtk_some : (n : ℕ) (t j bs : List ℕ) → in_order (vtk_checks n t j (grid_of bs)) ≡ pass → 0 < length (rows_in (grid_of bs))
unfolding rows_in
vtk_some n t j bs h = by (grid_of bs) refl h
  where
    by : (o : Option Grid) → grid_of bs ≡ o → in_order (vtk_checks n t j o) ≡ pass → 0 < length (rows_in o)
    by none e h = absurd (form_pass (none_formed n t j h))
    by (some g) e h = ((form_exactly bs g).0 e).some
