-- A number read digit by digit, and left at the first byte that no longer fits.
use Prim.Native.Nat.{ℕ, ◌+◌, ◌*◌, ◌-◌, ◌<◌, ◌≤◌}
use mathlib.Core.Path.{◌≡◌, refl}
use mathlib.Core.Logic.{◌≢◌, ◌⊎◌, inl, inr}
use mathlib.Core.List.{List, [], ◌∷◌}
use mathlib.Core.Option.{Option, none, some}
use native.Mathlib.Omega.{arith}
use native.Mathlib.Numerals.{add-one}
use lib.ListN.{length, get_or, drop}
use lib.Seq.{drop-cons}
use lib.Dec.{leb}
use borrow.Author.Tests.{le-leb, lt-leb, eq-eqb, ne_eqb}
use Rattle.model.specs.Text.{is_digit, digits, number, up_to}
use Rattle.theorems.proofs.Lists.Scan.{test}

pub digits_step : (v : ℕ) (xs : List ℕ) (k : ℕ) → k < length xs → 48 ≤ get_or xs k 0 → get_or xs k 0 ≤ 57
    → digits v (drop k xs) ≡ digits (10 * v + (get_or xs k 0 - 48)) (drop (k + 1) xs)
unfolding digits is_digit
digits_step v xs k h low high = rw (add-one k, drop-cons xs k 0, digits, is_digit, le-leb 48 _ low, le-leb _ 57 high)

pub digits_other : (v : ℕ) (xs : List ℕ) (k : ℕ) → k < length xs → (get_or xs k 0 < 48) ⊎ (57 < get_or xs k 0)
    → digits v (drop k xs) ≡ none
unfolding digits is_digit
digits_other v xs k h (inl low) = rw (drop-cons xs k 0, digits, is_digit, lt-leb 48 (get_or xs k 0) low)
digits_other v xs k h (inr high) =
    test (leb 48 (get_or xs k 0)) (λ e. rw (drop-cons xs k 0, digits, is_digit, e, lt-leb (get_or xs k 0) 57 high))
    (λ e. rw (drop-cons xs k 0, digits, is_digit, e))

-- more digits make no lesser number
pub digits_above : (top v : ℕ) (xs : List ℕ) → top < v → up_to top (digits v xs) ≡ none
unfolding digits up_to
digits_above top v [] h = rw (lt-leb v top h, up_to)
digits_above top v (x ∷ xs) h =
    test (is_digit x) (λ e. rw (e, digits) (digits_above top (10 * v + (x - 48)) xs (omega arith))) (λ e. rw (e, digits))

pub within : (top v : ℕ) → v ≤ top → up_to top (some v) ≡ some v
unfolding up_to
within top v h = rw (le-leb v top h, up_to)

pub unfit : (top : ℕ) {o : Option ℕ} → o ≡ none → none ≡ up_to top o
unfolding up_to
unfit top e = rw e

pub digits_end : (v : ℕ) (xs : List ℕ) → length xs ≡ 0 → digits v xs ≡ some v
unfolding digits
digits_end v [] h = refl
digits_end v (x ∷ xs) h = absurd (omega arith)

-- ---- leading zeros

pub number_empty : (xs : List ℕ) → length xs ≡ 0 → number xs ≡ none
unfolding number
number_empty [] h = refl
number_empty (x ∷ xs) h = absurd (omega arith)

pub number_one : (xs : List ℕ) → length xs ≡ 1 → number xs ≡ digits 0 xs
unfolding number
number_one [] h = absurd (omega arith)
number_one (x ∷ []) h = refl
number_one (x ∷ y ∷ ys) h = absurd (omega arith)

pub number_zero : (xs : List ℕ) → 1 < length xs → get_or xs 0 0 ≡ 48 → number xs ≡ none
unfolding number
number_zero [] h z = absurd (omega arith)
number_zero (x ∷ []) h z = absurd (omega arith)
number_zero (x ∷ y ∷ ys) h z = rw (eq-eqb x 48 z, number)

pub number_many : (xs : List ℕ) → 1 < length xs → get_or xs 0 0 ≢ 48 → number xs ≡ digits 0 xs
unfolding number
number_many [] h z = absurd (omega arith)
number_many (x ∷ []) h z = absurd (omega arith)
number_many (x ∷ y ∷ ys) h z = rw (ne_eqb x 48 z, number)
