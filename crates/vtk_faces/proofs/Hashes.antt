-- The hash is one for all faces with the same four vertices.
-- Main theorem: `hash_same`.
use Prim.Native.Nat.{ℕ, ◌≤◌, ◌<◌, min, max}
use mathlib.Core.Path.{◌≡◌, ap₂, refl}
use mathlib.Core.Logic.{⊎_elim}
use mathlib.Core.Bool.{true}
use mathlib.Core.List.Memᴰ.{cases_cons as in-cons}
use mathlib.Core.List.Memᴰ.{not-nil}
use mathlib.Core.List.{List, [], ◌∷◌, Memᴰ as In}
use mathlib.Core.List.Memᴰ.{head as here}
use mathlib.Core.List.Memᴰ.{tail as there}
use native.Mathlib.Omega.{arith}
use lib.ListN.{length}
use Rattle.model.specs.Faces.{same_four}
use Rattle.theorems.proofs.Lists.Scan.{if_lt}
use Rattle.theorems.proofs.Vtk.Faces.{four_exactly}
use Rattle.vtk_faces.specs.Hashes.{lowest, highest, mixed, hash_of}

pub hash_low : (r : List ℕ) → hash_of r < 16384
unfolding hash_of mixed
hash_low r = omega arith

lowest_in : (r : List ℕ) → 0 < length r → In (lowest r) r
unfolding lowest
lowest_in [] h = absurd (omega arith)
lowest_in (x ∷ []) h = here refl
lowest_in (x ∷ y ∷ ys) h =
    let rec = lowest_in (y ∷ ys) (omega arith) in
    if_lt x (lowest (y ∷ ys)) (λ l. here (omega arith))
    (λ l. let e : min x (lowest (y ∷ ys)) ≡ lowest (y ∷ ys) = omega arith in rw e (there rec))

lowest_le : (r : List ℕ) (x : ℕ) → In x r → lowest r ≤ x
unfolding lowest
lowest_le [] x i = absurd (not-nil i)
lowest_le (y ∷ []) x i = ⊎_elim (λ e. omega arith) (λ j. absurd (not-nil j)) (in-cons i)
lowest_le (y ∷ z ∷ zs) x i =
    let rec = lowest_le (z ∷ zs) x in
    ⊎_elim (λ e. omega arith) (λ j. let l = rec j in omega arith) (in-cons i)

highest_in : (r : List ℕ) → 0 < length r → In (highest r) r
unfolding highest
highest_in [] h = absurd (omega arith)
highest_in (x ∷ []) h = here refl
highest_in (x ∷ y ∷ ys) h =
    let rec = highest_in (y ∷ ys) (omega arith) in
    if_lt x (highest (y ∷ ys))
    (λ l. let e : max x (highest (y ∷ ys)) ≡ highest (y ∷ ys) = omega arith in rw e (there rec))
    (λ l. here (omega arith))

highest_ge : (r : List ℕ) (x : ℕ) → In x r → x ≤ highest r
unfolding highest
highest_ge [] x i = absurd (not-nil i)
highest_ge (y ∷ []) x i = ⊎_elim (λ e. omega arith) (λ j. absurd (not-nil j)) (in-cons i)
highest_ge (y ∷ z ∷ zs) x i =
    let rec = highest_ge (z ∷ zs) x in
    ⊎_elim (λ e. omega arith) (λ j. let l = rec j in omega arith) (in-cons i)

pub hash_same : (r s : List ℕ) → 0 < length r → 0 < length s → same_four r s ≡ true → hash_of r ≡ hash_of s
unfolding hash_of
hash_same r s hr hs h =
    let (to, from) = (four_exactly r s).0 h in
    let a = lowest_le s (lowest r) (to _ (lowest_in r hr)) in
    let b = lowest_le r (lowest s) (from _ (lowest_in s hs)) in
    let c = highest_ge s (highest r) (to _ (highest_in r hr)) in
    let d = highest_ge r (highest s) (from _ (highest_in s hs)) in
    ap₂ mixed (omega arith) (omega arith)
