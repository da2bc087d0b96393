-- 22 by positions: the faces in the order of the text, six to a cell.
-- Main theorems: `face_apart` (no two faces of a cell have the same four vertices), `passes_three` and `three_passes` (22, as a program finds it).
use Prim.Native.Nat.{ℕ, suc, ◌+◌, ◌*◌, ◌/◌, ◌%◌, ◌≤◌, ◌<◌}
use mathlib.Core.Path.{◌≡◌, refl, sym, ◌∙◌, subst}
use mathlib.Core.Logic.{◌≢◌, ⊎_elim}
use mathlib.Core.Bool.{Bool, true, false, not, ◌||◌}
use mathlib.Core.List.Memᴰ.{cases_cons as in-cons}
use mathlib.Core.List.Memᴰ.{not-nil}
use mathlib.Core.List.{List, [], ◌∷◌, Memᴰ as In}
use mathlib.Core.List.Memᴰ.{cast as in-cast}
use native.Mathlib.Omega.{arith}
use lib.ListN.{length, get_or}
use lib.Dec.{eqb, ltb, leb}
use borrow.Author.Tests.{eqb-true, ltb-true, leb-true, le-leb}
use Rattle.model.specs.Lists.{all_below, tabulate, ones_from, all_of, any_of, how_many}
use Rattle.model.specs.Faces.{listed_at, onward, sites, pick, round, face_darts, faces_from, faces, all_faces, among, same_four, sharing}
use Rattle.model.specs.Checks.{pass, must, sharing_ok}
use Rattle.model.specs.Everything.{everything}
use Rattle.model.specs.Meaning.Vtk.{face_at, Three}
use Rattle.theorems.proofs.Lists.Scan.{clash, or_cases, below_at, below_both, if_lt, get_or_tab, length_tab}
use Rattle.theorems.proofs.Lists.Ones.{get_or_in, ones_of, each_at, each_of}
use Rattle.theorems.proofs.Sets.Sizes.{length_ones}
use Rattle.theorems.proofs.Sets.Closure.{marked_in}
use Rattle.theorems.proofs.Operations.Slots.{rising_at, ones_rising}
use Rattle.theorems.proofs.Calls.Pass.{must_pass}
use Rattle.theorems.proofs.Vtk.Faces.{Within, any_in, in_any_of, four_exactly, four_back, four_on, pick_in, in_pick, in_from, in_all}
use Rattle.theorems.proofs.Vtk.Faces.{sharing_three}

-- ---- the six faces of a cell

site_low : ℕ → Bool
site_low f = all_of (λ i. ltb i 8) (sites (get_or face_darts f 0))

other_four : ℕ → ℕ → Bool
other_four f g = eqb f g || not (same_four (sites (get_or face_darts f 0)) (sites (get_or face_darts g 0)))

sites_true : all_below 6 site_low ≡ true
unfolding everything all_of listed_at onward sites face_darts site_low
sites_true = refl

fours_true : all_below 6 (λ f. all_below 6 (other_four f)) ≡ true
unfolding everything all_of any_of among same_four listed_at onward sites face_darts other_four
fours_true = refl

-- a row whose eight numbers are different
module _ (row : List ℕ) (once : (i j : ℕ) → i < 8 → j < 8 → get_or row i 0 ≡ get_or row j 0 → i ≡ j) where
  pub within_pick : (is js : List ℕ) → all_of (λ i. ltb i 8) is ≡ true → all_of (λ i. ltb i 8) js ≡ true
      → Within (pick row is) (pick row js) → Within is js
  within_pick is js p q w i h =
      let (j, l, e) = pick_in row js (get_or row i 0) (w _ (in_pick row is i h)) in
      in-cast (once i j (ltb-true i 8 (each_at (λ i. ltb i 8) is p i h)) (ltb-true j 8 (each_at (λ i. ltb i 8) js q j l)) e) l

  -- no two faces of a cell have the same four vertices
  pub face_apart : (f g : ℕ) → f < 6 → g < 6
      → same_four (round row (get_or face_darts f 0)) (round row (get_or face_darts g 0)) ≡ true → f ≡ g
  unfolding round other_four site_low
  face_apart f g hf hg h =
      let a = sites (get_or face_darts f 0) in
      let b = sites (get_or face_darts g 0) in
      let la = below_at site_low 6 sites_true f hf in
      let lb = below_at site_low 6 sites_true g hg in
      let (p, q) = (four_exactly (pick row a) (pick row b)).0 h in
      let four = (four_exactly a b).1 (within_pick a b la lb p, within_pick b a lb la q) in
      ⊎_elim (λ e. eqb-true f g e) (λ e. absurd (clash (rw four at e) refl))
      (or_cases (eqb f g) _ (below_both other_four 6 6 fours_true f g hf hg))

-- ---- three cells that share four vertices

-- three cells, each with a face that has the four vertices r
pub record Sharing (rows : List (List ℕ)) (r : List ℕ) : Type 0 where
  pub a : ℕ
  pub b : ℕ
  pub c : ℕ
  pub ab : a < b
  pub bc : b < c
  pub low : c < length rows
  pub f : List ℕ
  pub g : List ℕ
  pub h : List ℕ
  pub in_f : In f (faces (get_or rows a []))
  pub in_g : In g (faces (get_or rows b []))
  pub in_h : In h (faces (get_or rows c []))
  pub four_f : same_four r f ≡ true
  pub four_g : same_four r g ≡ true
  pub four_h : same_four r h ≡ true

one_true : (b : Bool) → ◌≡◌ {A = ℕ} (elim b as (λ _. ℕ) [ true ↦ 1 | false ↦ 0 ]) 1 → b ≡ true
one_true true h = refl
one_true false h = absurd (omega arith)

pub sharing_cells : (rows : List (List ℕ)) (r : List ℕ) → 3 ≤ sharing r rows → Sharing rows r
unfolding sharing how_many
sharing_cells rows r h =
    let long : 3 ≤ length L = let e = length_ones m 0 in omega arith in
    let (_, f, i, four_f) = found (get_or L 0 0) (get_or_in L 0 0 (omega arith)) in
    let (_, g, j, four_g) = found (get_or L 1 0) (get_or_in L 1 0 (omega arith)) in
    let (low, k, l, four_k) = found (get_or L 2 0) (get_or_in L 2 0 (omega arith)) in
    record {
      a = get_or L 0 0;
      b = get_or L 1 0;
      c = get_or L 2 0;
      ab = rising_at (ones_rising m 0) 0 1 0 (omega arith) (omega arith);
      bc = rising_at (ones_rising m 0) 1 2 0 (omega arith) (omega arith);
      low = low;
      f = f;
      g = g;
      h = k;
      in_f = i;
      in_g = j;
      in_h = l;
      four_f = four_f;
      four_g = four_g;
      four_h = four_k;
    }
  where
    p : ℕ → Bool
    p c = any_of (same_four r) (faces (get_or rows c []))

    mark : ℕ → ℕ
    mark c = elim (p c) [ true ↦ 1 | false ↦ 0 ]

    m : List ℕ
    m = tabulate (length rows) mark

    L : List ℕ
    L = ones_from 0 m

    -- a cell with a face that has these four vertices
    found : (c : ℕ) → In c L → (c < length rows) × (f : List ℕ) × In f (faces (get_or rows c [])) × (same_four r f ≡ true)
    found c i =
        let one = ones_of m c i in
        let low : c < length rows = let l = marked_in m c one in let e = length_tab mark (length rows) in omega arith in
        let is = sym (get_or_tab mark (length rows) c 0 low) ∙ one in
        let (f, j, e) = any_in (same_four r) (faces (get_or rows c [])) (one_true (p c) is) in
        (low, f, j, e)

-- ---- by position

pub face_in : (rows : List (List ℕ)) (i : ℕ) → i < 6 * length rows → In (face_at rows i) (faces (get_or rows (i / 6) []))
unfolding face_at faces face_darts
face_in rows i h = in_from (get_or rows (i / 6) []) face_darts _ (get_or_in face_darts (i % 6) 0 (omega arith))

pub from_in : (row ks f : List ℕ) → In f (faces_from row ks) → (g : ℕ) × (g < length ks) × (f ≡ round row (get_or ks g 0))
unfolding faces_from
from_in row [] f i = absurd (not-nil i)
from_in row (k ∷ ks) f i = ⊎_elim (λ e. (0, omega arith, e))
    (λ j. let (g, h, e) = from_in row ks f j in (suc g, omega arith, e)) (in-cons i)

-- a face of the cell c has a position
pub at_position : (rows : List (List ℕ)) (c : ℕ) (f : List ℕ) → In f (faces (get_or rows c []))
    → (g : ℕ) × (g < 6) × (f ≡ face_at rows (6 * c + g))
unfolding faces face_at face_darts
at_position rows c f i =
    let (g, h, e) = from_in (get_or rows c []) face_darts f i in
    let cell : (6 * c + g) / 6 ≡ c = omega arith in
    let rest : (6 * c + g) % 6 ≡ g = omega arith in
    (g, h, rw (cell, rest) e)

module _ (rows : List (List ℕ))
    (once : (c i j : ℕ) → c < length rows → i < 8 → j < 8 → get_or (get_or rows c []) i 0 ≡ get_or (get_or rows c []) j 0 → i ≡ j) where
  pub cells_apart : (i j : ℕ) → i < j → j < 6 * length rows → same_four (face_at rows i) (face_at rows j) ≡ true → i / 6 ≢ j / 6
  unfolding face_at
  cells_apart i j ij h four q =
      let low : i / 6 < length rows = omega arith in
      let moved = subst (λ (c : ℕ). same_four (face_at rows i) (round (get_or rows c []) (get_or face_darts (j % 6) 0)) ≡ true) (sym q) four in
      let same : i % 6 ≡ j % 6
      = face_apart (get_or rows (i / 6) []) (λ a b. once (i / 6) a b low) (i % 6) (j % 6) (omega arith) (omega arith) moved in
      omega arith

  -- a face with the same four vertices is in its cell
  shares : (r : List ℕ) (x : ℕ) → x < 6 * length rows → same_four r (face_at rows x) ≡ true
      → any_of (same_four r) (faces (get_or rows (x / 6) [])) ≡ true
  shares r x h e = in_any_of (same_four r) (faces (get_or rows (x / 6) [])) (face_at rows x) (face_in rows x h) e

  pub passes_three : sharing_ok rows ≡ pass → Three rows → ⊥
  unfolding sharing_ok
  passes_three h T =
      let r = face_at rows T.i in
      let hi : T.i < 6 * length rows = omega arith in
      let hj : T.j < 6 * length rows = omega arith in
      let hk = T.low in
      let both = four_on (face_at rows T.j) r (face_at rows T.k) (four_back r (face_at rows T.j) T.two) T.three in
      let own = (four_exactly r r).1 (λ x i. i, λ x i. i) in
      let many = sharing_three rows r (T.i / 6) (T.j / 6) (T.k / 6) (omega arith) (omega arith) (omega arith)
      (cells_apart T.i T.j T.ij hj T.two) (cells_apart T.i T.k (omega arith) hk T.three)
      (cells_apart T.j T.k T.jk hk both)
      (λ c i. ⊎_elim (λ q. rw q (shares r T.i hi own)) (λ j. ⊎_elim (λ q. rw q (shares r T.j hj T.two))
      (λ k. ⊎_elim (λ q. rw q (shares r T.k hk T.three)) (λ l. absurd (not-nil l)) (in-cons k)) (in-cons j)) (in-cons i)) in
      let few = leb-true (sharing r rows) 2 (each_at (λ r. leb (sharing r rows) 2) (all_faces rows) (must_pass _ 22 h) r
      (in_all rows (T.i / 6) r (omega arith) (face_in rows T.i hi))) in
      omega arith

  -- where three cells share four vertices, there are three positions
  three_cells : (r : List ℕ) → 3 ≤ sharing r rows → Three rows
  three_cells r h =
      let S = sharing_cells rows r h in
      let f = S.f in
      let back = four_back r f S.four_f in
      let (x, hx, ex) = at_position rows S.a f S.in_f in
      let (y, hy, ey) = at_position rows S.b S.g S.in_g in
      let (z, hz, ez) = at_position rows S.c S.h S.in_h in
      let ab = S.ab in
      let bc = S.bc in
      let low = S.low in
      record {
        i = 6 * S.a + x;
        j = 6 * S.b + y;
        k = 6 * S.c + z;
        ij = omega arith;
        jk = omega arith;
        low = omega arith;
        two = rw (ex, ey) at (four_on f r S.g back S.four_g);
        three = rw (ex, ez) at (four_on f r S.h back S.four_h);
      }

  pub three_passes : (Three rows → ⊥) → sharing_ok rows ≡ pass
  unfolding sharing_ok must
  three_passes none = rw (each_of (λ r. leb (sharing r rows) 2) (all_faces rows) (λ r _. few r), must)
    where
      few : (r : List ℕ) → leb (sharing r rows) 2 ≡ true
      few r = if_lt 2 (sharing r rows) (λ h. absurd (none (three_cells r h))) (λ h. le-leb (sharing r rows) 2 h)
