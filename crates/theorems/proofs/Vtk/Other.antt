-- 23 by positions: a face and a later one with the same four vertices in another order.
-- Main theorems: `passes_other` and `other_passes` (23, as a program finds it).
use Prim.Native.Nat.{ℕ, zero, suc, ◌+◌, ◌*◌, ◌/◌, ◌%◌, ◌<◌}
use mathlib.Core.Path.{◌≡◌, refl, sym, ◌∙◌, subst}
use mathlib.Core.Logic.{⊎_elim}
use mathlib.Core.Bool.{true}
use mathlib.Core.List.Memᴰ.{append_cases as in-append}
use mathlib.Core.List.Memᴰ.{not-nil}
use mathlib.Core.List.{List, [], ◌∷◌, Memᴰ as In}
use native.Mathlib.Omega.{arith}
use lib.ListN.{length, get_or}
use Rattle.model.specs.Lists.{all_of}
use Rattle.model.specs.Faces.{sites, pick, round, face_darts, faces, all_faces, same_four, reads, same_order, agree}
use Rattle.model.specs.Checks.{pass, must, order_ok}
use Rattle.model.specs.Meaning.Vtk.{face_at, OtherOrder}
use Rattle.theorems.proofs.Lists.Scan.{test, clash, if_eq, if_lt}
use Rattle.theorems.proofs.Lists.Ones.{each_at, each_of}
use Rattle.theorems.proofs.Calls.Pass.{must_pass}
use Rattle.theorems.proofs.Vtk.Sites.{equal_same}
use Rattle.theorems.proofs.Vtk.Faces.{in_all, four_back}
use Rattle.theorems.proofs.Vtk.Three.{face_in, at_position}
use Rattle.theorems.proofs.Vtk.Readings.{order_back}

-- ---- the four vertices of a face

pub pick_get_or : (row is : List ℕ) (i : ℕ) → i < length is → get_or (pick row is) i 0 ≡ get_or row (get_or is i 0) 0
unfolding pick
pick_get_or row [] i h = absurd (omega arith)
pick_get_or row (j ∷ js) zero h = refl
pick_get_or row (j ∷ js) (suc i) h = pick_get_or row js i (omega arith)

pub round_long : (row : List ℕ) (k : ℕ) → length (round row k) ≡ 4
unfolding round pick sites
round_long row k = refl

pub four_sites : (k : ℕ) → length (sites k) ≡ 4
unfolding sites
four_sites k = refl

-- ---- by position

pub passes_other : (rows : List (List ℕ)) → order_ok rows ≡ pass → OtherOrder rows → ⊥
unfolding order_ok agree
passes_other rows h o =
    let r = face_at rows o.i in
    let s = face_at rows o.j in
    let in_r = in_all rows (o.i / 6) r (omega arith) (face_in rows o.i (omega arith)) in
    let in_s = in_all rows (o.j / 6) s (omega arith) (face_in rows o.j o.low) in
    let each = each_at (λ r. all_of (agree r) (all_faces rows)) (all_faces rows) (must_pass _ 23 h) r in_r in
    clash (rw (o.four, agree) at (each_at (agree r) (all_faces rows) each s in_s)) o.order

pub all_in : (rows : List (List ℕ)) (f : List ℕ) → In f (all_faces rows) → (c : ℕ) × (c < length rows) × In f (faces (get_or rows c []))
unfolding all_faces
all_in [] f i = absurd (not-nil i)
all_in (row ∷ rows) f i = ⊎_elim (λ j. (0, omega arith, j)) (λ j. let (c, h, k) = all_in rows f j in (suc c, omega arith, k))
    (in-append (faces row) i)

agree_by : (r s : List ℕ) → (same_four r s ≡ true → same_order r s ≡ true) → agree r s ≡ true
unfolding agree
agree_by r s h = test (same_four r s) (λ e. rw (e, agree) (h e)) (λ e. rw (e, agree))

order_self : (r : List ℕ) → same_order r r ≡ true
unfolding same_order reads
order_self r = rw (equal_same r)

face_long : (rows : List (List ℕ)) (x : ℕ) → length (face_at rows x) ≡ 4
unfolding face_at
face_long rows x = round_long (get_or rows (x / 6) []) (get_or face_darts (x % 6) 0)

module _ (rows : List (List ℕ)) (none : OtherOrder rows → ⊥) where
  -- the positions in the one order ..
  rising_order : (i j : ℕ) → i < j → j < 6 * length rows → same_four (face_at rows i) (face_at rows j) ≡ true
      → same_order (face_at rows i) (face_at rows j) ≡ true
  rising_order i j ij h four = test (same_order (face_at rows i) (face_at rows j)) (λ e. e)
      (λ e. absurd (none (record { i = i; j = j; ij = ij; low = h; four = four; order = e })))

  -- .. and in any
  any_order : (i j : ℕ) → i < 6 * length rows → j < 6 * length rows → same_four (face_at rows i) (face_at rows j) ≡ true
      → same_order (face_at rows i) (face_at rows j) ≡ true
  any_order i j hi hj four = if_lt i j (λ h. rising_order i j h hj four) (λ h. if_eq i j
      (λ e. subst (λ (x : ℕ). same_order (face_at rows i) (face_at rows x) ≡ true) e (order_self (face_at rows i)))
      (λ e. order_back (face_at rows i) (face_at rows j) (face_long rows i) (face_long rows j)
      ∙ rising_order j i (omega arith) hi (four_back (face_at rows i) (face_at rows j) four)))

  pub other_passes : order_ok rows ≡ pass
  unfolding order_ok must
  other_passes = rw (
    each_of (λ r. all_of (agree r) (all_faces rows)) (all_faces rows)
        (λ r i. each_of (agree r) (all_faces rows) (λ s j. agrees r s i j)),
    must,
  )
    where
      agrees : (r s : List ℕ) → In r (all_faces rows) → In s (all_faces rows) → agree r s ≡ true
      agrees r s i j =
          let (c, hc, in_c) = all_in rows r i in
          let (d, hd, in_d) = all_in rows s j in
          let (f, hf, er) = at_position rows c r in_c in
          let (g, hg, es) = at_position rows d s in_d in
          agree_by r s (λ four. subst (λ (u : List ℕ). same_order u s ≡ true) (sym er)
          (subst (λ (u : List ℕ). same_order (face_at rows (6 * c + f)) u ≡ true) (sym es)
          (any_order (6 * c + f) (6 * d + g) (omega arith) (omega arith)
          (subst (λ (u : List ℕ). same_four u (face_at rows (6 * d + g)) ≡ true) er (subst (λ (u : List ℕ). same_four r u ≡ true) es four)))))
