-- Writing behind what stands in a buffer (`appended_byte`, `appended_then`), and the digits of a number (`decimal_more`,
-- `decimal_length`).
use Prim.Native.Nat.{ℕ, zero, suc, ◌+◌, ◌/◌, ◌%◌, ◌^◌, ◌<◌, ◌≤◌}
use mathlib.Core.Path.{◌≡◌, refl, ap, ◌∙◌}
use mathlib.Core.List.{List, [], ◌∷◌, ◌++◌, append-nil, append_assoc}
use native.Mathlib.Omega.{arith}
use native.Mathlib.Nat.{pow-suc}
use native.Mathlib.Numerals.{add-one}
use lib.ListN.{length, take, set, length-append, length-take}
use lib.Seq.{take-suc-set, length-take-le}
use lib.Dec.{ltb}
use borrow.Author.Tests.{lt-ltb, le-ltb, ltb-true, ltb-false}
use Rattle.model.specs.Text.{last_digits, decimal, said}
use Rattle.theorems.proofs.Lists.Scan.{test}
use Rattle.texts.specs.Texts.{Appended}

-- ---- behind what stands

pub appended_byte : (out : List ℕ) (at b : ℕ) → at < length out → Appended out at (b ∷ []) (set out at b) (at + 1)
appended_byte out at b h = record { ends = refl; holds = rw (add-one at, take-suc-set out at b) }

pub appended_none : (out : List ℕ) (at : ℕ) → Appended out at [] out at
appended_none out at = record { ends = omega arith; holds = rw append-nil }

pub appended_then : {a b c : List ℕ} {at p r : ℕ} {xs ys : List ℕ} → Appended a at xs b p → Appended b p ys c r
    → Appended a at (xs ++ ys) c r
appended_then {a} {xs = xs} {ys = ys} h k = record {
  ends = simp length-append (omega (arith, h.ends, k.ends));
  holds = k.holds ∙ rw (h.holds, append_assoc);
}

-- ---- digits

pub decimal_small : (v : ℕ) → v < 10 → decimal v ≡ (48 + v) ∷ []
unfolding decimal last_digits
decimal_small v h = rw (decimal, last_digits, lt-ltb v 10 h)

-- digits enough give all
all_digits : (k l v : ℕ) → v < k → v < l → last_digits k v ≡ last_digits l v
unfolding last_digits
all_digits zero l v h g = absurd (omega arith)
all_digits (suc k) zero v h g = absurd (omega arith)
all_digits (suc k) (suc l) v h g =
    test (ltb v 10) (λ e. rw (e, last_digits))
    (λ e. let big = ltb-false v 10 e in rw (e, last_digits, all_digits k l (v / 10) (omega arith) (omega arith)))

pub decimal_more : (v : ℕ) → 10 ≤ v → decimal v ≡ decimal (v / 10) ++ ((48 + v % 10) ∷ [])
unfolding decimal last_digits
decimal_more v h = rw (decimal, last_digits, le-ltb v 10 h, all_digits v (suc (v / 10)) (v / 10) (omega arith) (omega arith))

pub decimal_longer : (v : ℕ) → 10 ≤ v → length (decimal v) ≡ length (decimal (v / 10)) + 1
decimal_longer v h = rw (decimal_more v h, length-append)

pub decimal_length : (k v : ℕ) → v < 10 ^ suc k → length (decimal v) ≤ suc k
decimal_length zero v h = rw (decimal_small v h) (omega arith)
decimal_length (suc k) v h =
    test (ltb v 10)
    (λ e. rw (decimal_small v (ltb-true v 10 e)) (omega arith))
    (λ e. rw (decimal_more v (ltb-false v 10 e), length-append) (
    let shorter = decimal_length k (v / 10) (omega (arith, pow-suc 10 (suc k))) in
    omega arith))

-- a line with a u64 has its key and at most 21 bytes
pub said_length : (key : List ℕ) (v : ℕ) → v < 2 ^ 64 → length (said key v) ≤ length key + 21
unfolding said
said_length key v h = simp length-append (let short = decimal_length 19 v (omega arith) in omega arith)

-- what was written lies in the buffer
pub appended_inside : {a b : List ℕ} {at r : ℕ} {xs : List ℕ} → Appended a at xs b r → at ≤ length a → r ≤ length b
appended_inside {a} {b} {at} {r} {xs} h inside =
    let long = ap length h.holds ∙ length-append (take at a) xs in
    let front = length-take-le at a inside in
    omega (arith, h.ends, length-take r b)
