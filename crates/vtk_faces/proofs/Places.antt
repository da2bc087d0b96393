-- Where the vertices of the six faces of a cell are listed, as worked out from the numbering.
-- Main theorems: `dart_is`, `listed_is` and `site_is` (what the code works out is the model's), `site_low_lem`.
use Prim.Native.Nat.{ℕ, zero, suc, ◌+◌, ◌*◌, ◌/◌, ◌%◌, ◌^◌, ◌<◌, ◌≤◌}
use mathlib.Core.Path.{◌≡◌, refl, ◌∙◌}
use mathlib.Core.Bool.{Bool, true, ◌&&◌}
use mathlib.Core.List.{List}
use native.Mathlib.Omega.{arith}
use lib.ListN.{length, get_or, set}
use lib.Seq.{get_or-set_same, get_or-set_other}
use lib.Bits.{bit_xor}
use lib.Dec.{eqb, ltb, leb}
use borrow.Author.Tests.{eqb-true, ltb-true, leb-true}
use Rattle.model.specs.Lists.{all_below}
use Rattle.model.specs.Everything.{everything}
use Rattle.model.specs.Faces.{listed_at, onward, sites, face_darts}
use Rattle.theorems.proofs.Lists.Scan.{and_l, and_r, below_at, if_eq}
use Rattle.theorems.proofs.Vtk.Sites.{link_low}
use Rattle.vtk_faces.specs.Faces.{site_at}

-- ---- the dart of a face

abbrev above : ℕ → ℕ
above f = f % 2 * (4 / 2 ^ (f / 2))

dart_row : ℕ → Bool
dart_row f = eqb (8 * (f / 2 + f / 2 / 2) + above f) (get_or face_darts f 0) && leb (above f) 4

darts_true : all_below 6 dart_row ≡ true
unfolding everything face_darts dart_row
darts_true = refl

module _ (f : ℕ) (low : f < 6) where
  dart_row_lem : (eqb (8 * (f / 2 + f / 2 / 2) + above f) (get_or face_darts f 0) && leb (above f) 4) ≡ true
  unfolding dart_row
  dart_row_lem = below_at dart_row 6 darts_true f low

  pub dart_is : 8 * (f / 2 + f / 2 / 2) + above f ≡ get_or face_darts f 0
  dart_is = eqb-true _ _ (and_l (eqb (8 * (f / 2 + f / 2 / 2) + above f) (get_or face_darts f 0)) _ dart_row_lem)

  pub above_few : above f ≤ 4
  above_few = leb-true _ _ (and_r (eqb (8 * (f / 2 + f / 2 / 2) + above f) (get_or face_darts f 0)) _ dart_row_lem)

-- ---- the place of a vertex

listed_row : ℕ → Bool
listed_row s = eqb (bit_xor s (s / 2 % 2)) (listed_at s)

listed_true : all_below 8 listed_row ≡ true
unfolding everything listed_at listed_row
listed_true = refl

pub listed_is : (s : ℕ) → s < 8 → bit_xor s (s / 2 % 2) ≡ listed_at s
unfolding listed_row
listed_is s low = eqb-true _ _ (below_at listed_row 8 listed_true s low)

-- ---- round a face

-- onward so many times
unfoldable pub turns_on : ℕ → ℕ → ℕ
turns_on zero k = k
turns_on (suc n) k = onward (turns_on n k)

pub onward_low : (k : ℕ) → k < 48 → onward k < 48
unfolding onward
onward_low k low = link_low 1 _ (omega arith) (link_low 0 k (omega arith) low)

site_row : ℕ → Bool
site_row j =
    let k = get_or face_darts (j / 4) 0 in
    eqb (listed_at (turns_on (j % 4) k % 8)) (site_at j) && ltb (site_at j) 8 && ltb k 48

sites_true : all_below 24 site_row ≡ true
unfolding everything face_darts sites onward listed_at site_at turns_on site_row
sites_true = refl

module _ (j : ℕ) (low : j < 24) where
  abbrev k : ℕ
  k = get_or face_darts (j / 4) 0

  abbrev is : Bool
  is = eqb (listed_at (turns_on (j % 4) k % 8)) (site_at j)

  site_row_lem : (is && ltb (site_at j) 8 && ltb k 48) ≡ true
  unfolding site_row
  site_row_lem = below_at site_row 24 sites_true j low

  pub site_is : listed_at (turns_on (j % 4) k % 8) ≡ site_at j
  site_is = eqb-true _ _ (and_l is (ltb (site_at j) 8) (and_l (is && ltb (site_at j) 8) _ site_row_lem))

  pub site_low_lem : site_at j < 8
  site_low_lem = ltb-true _ _ (and_r is (ltb (site_at j) 8) (and_l (is && ltb (site_at j) 8) _ site_row_lem))

  pub dart_low : k < 48
  dart_low = ltb-true _ _ (and_r (is && ltb (site_at j) 8) _ site_row_lem)

-- one more of them is written
pub sites_more : (xs : List ℕ) (i v : ℕ) → i < length xs → ((j : ℕ) → j < i → get_or xs j 0 ≡ site_at j) → v ≡ site_at i
    → (j : ℕ) → j < i + 1 → get_or (set xs i v) j 0 ≡ site_at j
sites_more xs i v room done e j low =
    if_eq j i (λ q. rw q (get_or-set_same xs i v 0 room ∙ e)) (λ q. get_or-set_other xs i j v 0 q ∙ done j (omega arith))
