-- Words of the links 0..n-2 in a block map: they lead within a side, to each of its darts (`near_side`, `side_near`), and go past
-- link n and the opposite side (`near_link`, `near_facing`), to which none of them leads (`facing_other`).
use Prim.Native.Nat.{ℕ, ◌+◌, ◌-◌, ◌≤◌, ◌<◌}
use mathlib.Core.Path.{◌≡◌, refl, sym, ap, ◌∙◌}
use mathlib.Core.Logic.{inr, ◌≢◌, ⊎_elim}
use mathlib.Core.Bool.{Bool, true, false, not, ◌&&◌, ◌||◌}
use mathlib.Core.List.{List, [], ◌∷◌, ◌++◌}
use native.Mathlib.Omega.{arith}
use lib.Dec.{ltb}
use borrow.Author.Tests.{ltb-true, lt-ltb, not-true}
use Rattle.model.specs.Lists.{all_below}
use Rattle.model.specs.Table.{link, walk, live}
use Rattle.model.specs.Cell.{cell_size}
use Rattle.model.specs.Numbering.{cell_link}
use Rattle.model.specs.Sew.{side}
use Rattle.model.specs.Remove.{opposite}
use Rattle.model.specs.Everything.{everything}
use Rattle.model.specs.Meaning.Maps.{Dim, BlockTable}
use Rattle.model.specs.Meaning.Sets.{Marked}
use Rattle.model.specs.Meaning.Pairings.{OnSide}
use Rattle.model.specs.Meaning.Places.{path}
use Rattle.theorems.proofs.Lists.Scan.{clash, and_l, and_r, or_cases, below_at}
use Rattle.theorems.proofs.Maps.Dim.{two_cases, size_some}
use Rattle.theorems.proofs.Maps.Tables.{map_table, rule_at}
use Rattle.theorems.proofs.Sewing.Side.{side_own, side_far, side_within}
use Rattle.theorems.proofs.Cells.Rows.{small, row_walk, row_walk_in}
use Rattle.theorems.proofs.Cells.Cell.{word_place}
use Rattle.theorems.proofs.Cells.Chart.{place_one}
use Rattle.theorems.proofs.Layers.Walk.{facing, facing_far, link_far, opposite_small, walk_append}

-- a word of links 0..n-2
pub data Near (n : ℕ) : List ℕ → Type 0 where
  none : Near n []
  more : {j : ℕ} {w : List ℕ} → j + 2 ≤ n → Near n w → Near n (j ∷ w)

near_then : {n : ℕ} {w : List ℕ} (j : ℕ) → j + 2 ≤ n → Near n w → Near n (w ++ (j ∷ []))
near_then j b none = more b none
near_then j b (more c p) = more c (near_then j b p)

-- ---- in a side

-- each dart of the side of x for link n is reached from x by such a word
pub side_near : (n : ℕ) (t : List ℕ) (x y : ℕ) → Marked (side n t n x) y → (w : List ℕ) × Near n w × (y ≡ walk t w x)
unfolding walk
side_near n t x = side_within n t x (λ y. (w : List ℕ) × Near n w × (y ≡ walk t w x)) ([], none, refl)
    (λ y j b (w, near, e). (w ++ (j ∷ []), near_then j b near, ap (link t j) e ∙ sym (walk_append t w (j ∷ []) x)))

pub near_side : {n : ℕ} {t : List ℕ} {x : ℕ} → OnSide n t n x → {w : List ℕ} → Near n w → Marked (side n t n x) (walk t w x)
unfolding walk
near_side {n} {t} {x} on near = go near x (side_own on)
  where
    go : {w : List ℕ} → Near n w → (y : ℕ) → Marked (side n t n x) y → Marked (side n t n x) (walk t w y)
    go none y m = m
    go (more {j = j} b p) y m = go p (link t j y) (side_far on y j m (inr b) (omega arith))

-- ---- past link n and the opposite side

module _ {n : ℕ} {t : List ℕ} (B : BlockTable n t) where
  near_goes : (x j : ℕ) → j + 2 ≤ n → live t x ≡ true → live t (link t j x) ≡ true
  near_goes x j b l = let top = B.dim.1 in (rule_at (map_table B) x l).goes j (omega arith)

  pub near_live : {w : List ℕ} → Near n w → (x : ℕ) → live t x ≡ true → live t (walk t w x) ≡ true
  unfolding walk
  near_live none x l = l
  near_live (more {j = j} b p) x l = near_live p (link t j x) (near_goes x j b l)

  pub near_link : {w : List ℕ} → Near n w → (x : ℕ) → live t x ≡ true → walk t w (link t n x) ≡ link t n (walk t w x)
  unfolding walk
  near_link none x l = refl
  near_link (more {j = j} {w = w} b p) x l = ap (walk t w) (sym (link_far B x j l b)) ∙ near_link p (link t j x) (near_goes x j b l)

  pub near_facing : {w : List ℕ} → Near n w → (x : ℕ) → live t x ≡ true → walk t w (facing n t x) ≡ facing n t (walk t w x)
  unfolding walk
  near_facing none x l = refl
  near_facing (more {j = j} {w = w} b p) x l = ap (walk t w) (sym (facing_far B x j l b)) ∙ near_facing p (link t j x) (near_goes x j b l)

-- ---- not to the opposite side

-- a place of the face of the place 0: the path to it has links 0..n-2 only
unfoldable pub in_face : ℕ → ℕ → Bool
in_face n p = ltb p (cell_size n) && small (n - 1) (path n p)

pub face_low : (n p : ℕ) → in_face n p ≡ true → p < cell_size n
unfolding in_face
face_low n p f = ltb-true p (cell_size n) (and_l (ltb p (cell_size n)) _ f)

pub face_word : (n p : ℕ) → in_face n p ≡ true → small (n - 1) (path n p) ≡ true
unfolding in_face
face_word n p f = and_r (ltb p (cell_size n)) _ f

-- the links 0..n-2 keep to the face
face_row : ℕ → ℕ → Bool
face_row n p = not (in_face n p) || all_below (n - 1) (λ j. in_face n (cell_link n j p))

face_rows : (n : ℕ) → Dim n
    → (all_below (cell_size n) (face_row n) ≡ true) × (in_face n 0 ≡ true) × (in_face n (row_walk n (opposite n) 0) ≡ false)
unfolding everything in_face face_row path small row_walk
face_rows n dim = two_cases n dim
    (λ n. (all_below (cell_size n) (face_row n) ≡ true) × (in_face n 0 ≡ true) × (in_face n (row_walk n (opposite n) 0) ≡ false))
    (refl, refl, refl) (refl, refl, refl)

face_keeps : (n : ℕ) → Dim n → (j p : ℕ) → j + 2 ≤ n → in_face n p ≡ true → in_face n (cell_link n j p) ≡ true
unfolding face_row
face_keeps n dim j p b f =
    let low = face_low n p f in
    ⊎_elim (λ e. absurd (clash f (not-true _ e))) (λ e. below_at (λ j. in_face n (cell_link n j p)) (n - 1) e j (omega arith))
    (or_cases (not (in_face n p)) _ (below_at (face_row n) (cell_size n) (face_rows n dim).0 p low))

near_face : {n : ℕ} → Dim n → {w : List ℕ} → Near n w → (p : ℕ) → in_face n p ≡ true → in_face n (row_walk n w p) ≡ true
unfolding row_walk
near_face dim none p f = f
near_face {n} dim (more {j = j} b q) p f = near_face dim q (cell_link n j p) (face_keeps n dim j p b f)

near_small : {n : ℕ} {w : List ℕ} → Near n w → small n w ≡ true
unfolding small
near_small none = refl
near_small {n} (more {j = j} b p) = rw (lt-ltb j n (omega arith), small) (near_small p)

pub facing_other : {n : ℕ} {t : List ℕ} → BlockTable n t → {w : List ℕ} → Near n w → (x : ℕ) → live t x ≡ true
    → facing n t x ≢ walk t w x
facing_other {n} {t} B {w} near x l e =
    let (_, first, off) = face_rows n B.dim in
    let low = opposite_small n B.dim in
    let some = size_some n B.dim in
    let at = word_place (map_table B) x l (B.good x l) in
    let same = place_one B x (row_walk n (opposite n) 0) (row_walk n w 0) l (row_walk_in n (opposite n) 0 B.dim low some)
    (row_walk_in n w 0 B.dim (near_small near) some) (sym (at (opposite n) low) ∙ e ∙ at w (near_small near)) in
    clash (near_face B.dim near 0 first) (ap (in_face n) (sym same) ∙ off)
