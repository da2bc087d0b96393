-- A line of more than 14 bytes does not fit, so 15 bytes of it are enough (`reads_short`).
use Prim.Native.Nat.{ℕ, suc, ◌+◌, ◌*◌, ◌-◌, ◌^◌, ◌<◌, ◌≤◌}
use mathlib.Core.Path.{◌≡◌, refl, sym, ap, ◌∙◌}
use mathlib.Core.Logic.{◌≢◌}
use mathlib.Core.Bool.{Bool, true, false, ◌&&◌}
use mathlib.Core.List.{List, [], ◌∷◌}
use mathlib.Core.Option.{Option, none}
use native.Mathlib.Omega.{arith}
use native.Mathlib.Nat.{pow-succ', pow-le-pow_right, mul-le-mul_right, mul_assoc, mul_comm}
use lib.ListN.{length, take, drop, length-drop}
use lib.Seq.{take_all, length-take-le}
use lib.Dec.{leb, eqb}
use borrow.Author.Tests.{lt-leb, leb-true, eqb-false}
use Rattle.model.specs.Lists.{equal}
use Rattle.model.specs.Text.{begins, is_digit, digits, number, up_to}
use Rattle.model.specs.Session.{Due, dim_due, slots_due, op_due, i_due, d_due, e_due, names, place_from, behind, reads}
use Rattle.theorems.proofs.Lists.Scan.{test, if_lt, and_l, and_r}

-- texts of other lengths are other texts
equal_lengths : (xs ys : List ℕ) → length xs ≢ length ys → equal xs ys ≡ false
unfolding equal
equal_lengths [] [] h = absurd (h refl)
equal_lengths [] (y ∷ ys) h = refl
equal_lengths (x ∷ xs) [] h = refl
equal_lengths (x ∷ xs) (y ∷ ys) h =
    test (eqb x y) (λ e. rw (e, equal) (equal_lengths xs ys (λ p. h (ap suc p)))) (λ e. rw (e, equal))

-- ---- a number with many digits is large

more_large : (top v x k : ℕ) → top < v * 10 ^ suc k → top < (10 * v + x) * 10 ^ k
more_large top v x k h =
    let power : v * 10 ^ suc k ≡ 10 * v * 10 ^ k = rw (pow-succ' 10 k, ← mul_assoc v 10 (10 ^ k), mul_comm v 10) in
    let more = mul-le-mul_right {m = 10 * v} {n = 10 * v + x} (10 ^ k) (omega arith) in
    omega arith

digits_large : (top v : ℕ) (xs : List ℕ) → top < v * 10 ^ length xs → up_to top (digits v xs) ≡ none
unfolding digits up_to
digits_large top v [] h = rw (lt-leb v top (omega arith), up_to)
digits_large top v (x ∷ xs) h =
    test (is_digit x)
    (λ e. rw (e, digits) (digits_large top (10 * v + (x - 48)) xs (more_large top v (x - 48) (length xs) h)))
    (λ e. rw (e, digits))

-- the first digit is not 0
first_large : (top k x : ℕ) (xs : List ℕ) → top < 10 ^ k → k ≤ length xs → x ≢ 48 → up_to top (digits 0 (x ∷ xs)) ≡ none
unfolding digits is_digit up_to
first_large top k x xs h l z =
    test (is_digit x)
    (λ e.
    let low = leb-true 48 x (and_l _ _ e) in
    let power = pow-le-pow_right {n = 10} (omega arith) l in
    let one = mul-le-mul_right {m = 1} {n = 10 * 0 + (x - 48)} (10 ^ length xs) (omega arith) in
    rw (e, digits) (digits_large top (10 * 0 + (x - 48)) xs (omega arith)))
    (λ e. rw (e, digits))

number_large : (top k : ℕ) (xs : List ℕ) → top < 10 ^ k → k < length xs → 1 < length xs → up_to top (number xs) ≡ none
unfolding number up_to
number_large top k [] h l m = absurd (omega arith)
number_large top k (x ∷ []) h l m = absurd (omega arith)
number_large top k (x ∷ y ∷ ys) h l m =
    test (eqb x 48) (λ e. rw (e, number, up_to))
    (λ e. rw (e, number) (first_large top k x (y ∷ ys) h (omega arith) (eqb-false x 48 e)))

-- ---- no name is long

short : List (List ℕ) → Bool
short [] = true
short (w ∷ ws) = leb (length w) 6 && short ws

no_name : (p : ℕ) (ws : List (List ℕ)) (xs : List ℕ) → short ws ≡ true → 6 < length xs → place_from p ws xs ≡ none
unfolding short place_from
no_name p [] xs s h = refl
no_name p (w ∷ ws) xs s h =
    let low = leb-true (length w) 6 (and_l _ _ s) in
    let differ : length w ≢ length xs = λ e. omega arith in
    rw (equal_lengths w xs differ, place_from) (no_name (suc p) ws xs (and_r (leb (length w) 6) _ s) h)

-- ---- lines

behind_long : (key : List ℕ) (value : List ℕ → Option ℕ) (k : ℕ) (xs : List ℕ)
    → ((ys : List ℕ) → k < length ys → value ys ≡ none) → length key + k < length xs → behind key value xs ≡ none
unfolding behind
behind_long key value k xs long h =
    test (begins key xs)
    (λ e. rw (e, behind) (long (drop (length key) xs) (simp length-drop (omega arith))))
    (λ e. rw (e, behind))

number_behind : (key : List ℕ) (top k : ℕ) (xs : List ℕ) → top < 10 ^ k → 0 < k → length key + k < length xs
    → behind key (λ v. up_to top (number v)) xs ≡ none
number_behind key top k xs small some_digits h =
    behind_long key (λ v. up_to top (number v)) k xs (λ ys l. number_large top k ys small l (omega arith)) h

reads_long : (s : Due) (xs : List ℕ) → 14 < length xs → reads s xs ≡ none
unfolding reads short names
reads_long dim_due xs h = number_behind _ 4294967295 10 xs (omega arith) (omega arith) h
reads_long (slots_due n) xs h = number_behind _ 960 8 xs (omega arith) (omega arith) h
reads_long (op_due n o) xs h = behind_long _ (place_from 0 names) 11 xs (λ ys l. no_name 0 names ys refl (omega arith)) h
reads_long (i_due n o p) xs h = number_behind _ 255 12 xs (omega arith) (omega arith) h
reads_long (d_due n o p i) xs h = number_behind _ 4294967295 12 xs (omega arith) (omega arith) h
reads_long (e_due n o p i d) xs h = number_behind _ 4294967295 12 xs (omega arith) (omega arith) h

pub reads_short : (s : Due) (xs : List ℕ) → reads s (take 15 xs) ≡ reads s xs
reads_short s xs =
    if_lt 15 (length xs)
    (λ h. reads_long s (take 15 xs) (rw (length-take-le 15 xs (omega arith)) (omega arith))
    ∙ sym (reads_long s xs (omega arith)))
    (λ h. ap (reads s) (take_all 15 xs h))
