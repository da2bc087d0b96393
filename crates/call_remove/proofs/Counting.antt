-- A sheet's marks counted one by one: `counted_none`, and by the mark at x `counted_zero`, `counted_three`, `counted_inner`.
use Prim.Native.Nat.{ℕ, zero, suc, ◌+◌, ◌≤◌, ◌<◌}
use mathlib.Core.Path.{◌≡◌, refl}
use mathlib.Core.Logic.{◌≢◌}
use mathlib.Core.Bool.{true, false, not, ◌&&◌}
use mathlib.Core.List.{List, [], ◌∷◌}
use native.Mathlib.Numerals.{add-one}
use native.Mathlib.Omega.{arith}
use lib.ListN.{length, get_or, take}
use lib.Dec.{eqb}
use borrow.Author.Tests.{eq-eqb, ne_eqb}
use Rattle.model.specs.Lists.{count}
use Rattle.model.specs.Remove.{count_marked}
use Rattle.theorems.proofs.Lists.Scan.{test, clash, if_eq}

count_next : (v : ℕ) (m : List ℕ) (x : ℕ) → x < length m
    → count v (take (x + 1) m) ≡ count v (take x m) + elim (eqb (get_or m x 0) v) [ true ↦ 1 | false ↦ 0 ]
unfolding count
count_next v [] x low = absurd (omega arith)
count_next v (y ∷ m) zero low = test (eqb y v) (λ e. rw (e, count)) (λ e. rw (e, count))
count_next v (y ∷ m) (suc x) low =
    let rec = rw add-one at (count_next v m x (omega arith)) in
    rw add-one (test (eqb y v) (λ e. rw (e, count) (omega arith)) (λ e. rw (e, count) (omega arith)))

-- of the marks before x, so many are 1 or 2, and so many 3
pub record Counted (m : List ℕ) (x darts edge : ℕ) : Type 0 where
  pub inner : darts ≡ count_marked (take x m)
  pub three : edge ≡ count 3 (take x m)
  pub few : darts + edge ≤ x

pub counted_none : (m : List ℕ) → Counted m 0 0 0
unfolding count count_marked
counted_none m = record { inner = refl; three = refl; few = omega arith }

module _ {m : List ℕ} {x darts edge : ℕ} (C : Counted m x darts edge) (low : x < length m) where
  same : (v : ℕ) → get_or m x 0 ≢ v → count v (take (x + 1) m) ≡ count v (take x m)
  same v e = rw (count_next v m x low, ne_eqb (get_or m x 0) v e) (omega arith)

  more : (v : ℕ) → get_or m x 0 ≡ v → count v (take (x + 1) m) ≡ count v (take x m) + 1
  more v e = rw (count_next v m x low, eq-eqb (get_or m x 0) v e)

  pub counted_three : get_or m x 0 ≡ 3 → Counted m (x + 1) darts (edge + 1)
  unfolding count_marked
  counted_three e =
      let inner = C.inner in
      let three = C.three in
      record {
        inner = rw (same 1 (omega arith), same 2 (omega arith)) inner;
        three = rw (more 3 e) (omega arith);
        few = let few = C.few in omega arith;
      }

  pub counted_zero : get_or m x 0 ≡ 0 → Counted m (x + 1) darts edge
  unfolding count_marked
  counted_zero e =
      let inner = C.inner in
      let three = C.three in
      record {
        inner = rw (same 1 (omega arith), same 2 (omega arith)) inner;
        three = rw (same 3 (omega arith)) three;
        few = let few = C.few in omega arith;
      }

  pub counted_inner : get_or m x 0 ≤ 3 → get_or m x 0 ≢ 3 → get_or m x 0 ≢ 0 → Counted m (x + 1) (darts + 1) edge
  unfolding count_marked
  counted_inner most off some =
      let inner = C.inner in
      let three = C.three in
      record {
        inner = if_eq (get_or m x 0) 1 (λ e. rw (more 1 e, same 2 (omega arith)) (omega arith))
            (λ e. rw (same 1 e, more 2 (omega arith)) (omega arith));
        three = rw (same 3 off) three;
        few = let few = C.few in omega arith;
      }

-- ---- whether a mark is neither 0 nor 3, as it is tested

pub told_zero : (k : ℕ) → k ≡ 0 → (not (eqb k 0) && not (eqb k 3)) ≡ false
told_zero k e = rw (eq-eqb k 0 e)

pub told_three : (k : ℕ) → k ≡ 3 → (not (eqb k 0) && not (eqb k 3)) ≡ false
told_three k e = rw e

pub told_other : (k : ℕ) → k ≢ 3 → (not (eqb k 0) && not (eqb k 3)) ≡ false → k ≡ 0
told_other k off h = if_eq k 0 (λ e. e) (λ e. absurd (clash (rw (ne_eqb k 0 e, ne_eqb k 3 off)) h))
