-- The half of a cell that split makes, seen from a dart of the sheet in it: its spots, each the role of a place, and the
-- facts of its rows, all computed: the spots follow the numbering and differ (`half_fitting`); the half holds
-- each role of its dart (`role_held`), and of the cell's places each that the half of the dart across link 0 does not
-- (`place_held_lem`, `across_not_held`).
use Prim.Native.Nat.{ℕ, zero, suc, ◌≤◌, ◌<◌}
use mathlib.Core.Path.{◌≡◌, refl, ap₂}
use mathlib.Core.Logic.{◌⊎◌, inl, inr, ⊎_elim}
use mathlib.Core.Bool.{Bool, true, false, not, ◌&&◌, ◌||◌}
use native.Mathlib.Omega.{arith}
use lib.Dec.{eqb, ltb}
use borrow.Author.Tests.{eqb-true, eq-eqb, not-true}
use Rattle.model.specs.Lists.{all_below}
use Rattle.model.specs.Cell.{cell_size}
use Rattle.model.specs.Numbering.{cell_link}
use Rattle.model.specs.Everything.{everything}
use Rattle.model.specs.Meaning.Maps.{Dim}
use Rattle.model.specs.Meaning.Places.{path}
use Rattle.model.specs.Meaning.Sheets.{half}
use Rattle.theorems.proofs.Lists.Scan.{clash, and_l, and_r, and_i, below_at, below_both, or_cases}
use Rattle.theorems.proofs.Maps.Dim.{two_cases}
use Rattle.theorems.proofs.Cells.Rows.{row_walk, small}
use Rattle.theorems.proofs.Layers.SplitRole.{role_to, role_word}
use Rattle.theorems.proofs.Layers.Spots.{Spots, standing, holds, Fitting, Held, held, spots}

-- a role of a place
pub data Spot : Type 0 where
  spot : ℕ → ℕ → Spot

-- the links of the spots: by the roles, and by the numbering where a link stays
unfoldable pub spot_link : ℕ → ℕ → Spot → Spot
spot_link n j (spot zero p) = elim (eqb j 0 && ltb p (half n)) [ true ↦ spot 1 p | false ↦ spot 0 (cell_link n j p) ]
spot_link n j (spot (suc r) p) = spot (role_to n (suc r) j) (row_walk n (role_word n (suc r) j) p)

-- a place of the cell, or a new dart of a place in the sheet
unfoldable pub valid : ℕ → Spot → Bool
valid n (spot zero p) = ltb p (cell_size n)
valid n (spot (suc r) p) = ltb r n && ltb p (half n)

-- a place, seen from the dart across link 0
unfoldable pub across : ℕ → ℕ → ℕ
across n p = row_walk n (path n p) (cell_link n 0 0)

pub same_spot : Spot → Spot → Bool
same_spot (spot r p) (spot s q) = eqb r s && eqb p q

pub same_spot_lem : (e f : Spot) → same_spot e f ≡ true → e ≡ f
unfolding same_spot
same_spot_lem (spot r p) (spot s q) h =
    ap₂ spot (eqb-true r s (and_l (eqb r s) (eqb p q) h)) (eqb-true p q (and_r (eqb r s) (eqb p q) h))

pub spot_same : (e f : Spot) → e ≡ f → same_spot e f ≡ true
unfolding same_spot
spot_same (spot r p) (spot s q) h = and_i (eq-eqb r s (cc)) (eq-eqb p q (cc))

abbrev pub half_spots : ℕ → Spots Spot
half_spots n = record {
  same = same_spot;
  of_same = same_spot_lem;
  to_same = spot_same;
  go = spot_link n;
  valid = valid n;
  first = spot 0 0;
}

-- the spot at the place k of the half
abbrev pub spot_at : ℕ → ℕ → Spot
spot_at n k = standing n (half_spots n) k

-- to unfold `computed` is to unfold all that the tests below compute with
computed : Unit {0}
unfolding everything spots spot_link valid across same_spot half role_to role_word row_walk small
computed = tt

-- the spots follow the numbering, and differ
pub half_fitting : (n : ℕ) → Dim n → Fitting n (half_spots n)
unfolding computed
half_fitting n dim = two_cases n dim (λ n. Fitting n (half_spots n)) (record { follow = refl; apart = refl }) (record { follow = refl; apart = refl })

-- the words of the new darts' links are words of the cell's links
small_word : ℕ → ℕ → ℕ → Bool
small_word n r j = small n (role_word n (suc r) j)

small_words : (n : ℕ) → Dim n → all_below n (λ r. all_below n (small_word n r)) ≡ true
unfolding computed small_word
small_words n dim = two_cases n dim (λ n. all_below n (λ r. all_below n (small_word n r)) ≡ true) refl refl

pub word_small : (n : ℕ) → Dim n → (r j : ℕ) → r < n → j < n → small n (role_word n (suc r) j) ≡ true
unfolding small_word
word_small n dim = below_both (small_word n) n n (small_words n dim)

-- ---- what the half holds

-- each role of its dart
roles_held : (n : ℕ) → Dim n → all_below (suc n) (λ r. holds n (half_spots n) (spot r 0)) ≡ true
unfolding computed
roles_held n dim = two_cases n dim (λ n. all_below (suc n) (λ r. holds n (half_spots n) (spot r 0)) ≡ true) refl refl

pub role_held : (n : ℕ) → Dim n → (r : ℕ) → r ≤ n → Held n (half_spots n) (spot r 0)
role_held n dim r h = held n (half_spots n) (spot r 0) (below_at (λ r. holds n (half_spots n) (spot r 0)) (suc n) (roles_held n dim) r (omega arith))

-- each place, seen from its dart or from the dart across link 0
place_held : ℕ → ℕ → Bool
place_held n p = holds n (half_spots n) (spot 0 p) || holds n (half_spots n) (spot 0 (across n p))

places_held : (n : ℕ) → Dim n → all_below (cell_size n) (place_held n) ≡ true
unfolding computed place_held
places_held n dim = two_cases n dim (λ n. all_below (cell_size n) (place_held n) ≡ true) refl refl

pub place_held_lem : (n : ℕ) → Dim n → (p : ℕ) → p < cell_size n → Held n (half_spots n) (spot 0 p) ⊎ Held n (half_spots n) (spot 0 (across n p))
unfolding place_held
place_held_lem n dim p h = ⊎_elim (λ e. inl (held n (half_spots n) _ e)) (λ e. inr (held n (half_spots n) _ e))
    (or_cases (holds n (half_spots n) (spot 0 p)) _ (below_at (place_held n) (cell_size n) (places_held n dim) p h))

-- but not the dart across link 0
not_across : ℕ → ℕ → Bool
not_across n k = not (same_spot (spot_at n k) (spot 0 (cell_link n 0 0)))

not_across_lem : (n : ℕ) → Dim n → all_below (cell_size n) (not_across n) ≡ true
unfolding computed not_across
not_across_lem n dim = two_cases n dim (λ n. all_below (cell_size n) (not_across n) ≡ true) refl refl

pub across_not_held : (n : ℕ) → Dim n → Held n (half_spots n) (spot 0 (cell_link n 0 0)) → ⊥
unfolding not_across
across_not_held n dim h =
    clash (spot_same _ _ h.2) (not-true _ (below_at (not_across n) (cell_size n) (not_across_lem n dim) h.0 h.1))
