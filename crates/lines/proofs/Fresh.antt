-- The first slots of a table and of marks, lent as a part and given back.
use Prim.Native.Nat.{ℕ, ◌*◌, ◌≤◌}
use mathlib.Core.Path.{◌≡◌, ap, ◌∙◌}
use mathlib.Core.List.{List, ◌++◌}
use native.Mathlib.Omega.{arith}
use lib.ListN.{length, take, drop, replicate, length-replicate}
use lib.Seq.{take_at, length-take-le}
use Rattle.model.specs.Table.{slots}
use Rattle.model.specs.Calls.{Outcome}
use Rattle.model.specs.Runs.{begin}
use Rattle.answers.specs.Answers.{Answer, outcome}
use Rattle.lines.specs.Held.{lent}

pub part_back : (k : ℕ) (t p : List ℕ) → k ≤ length t → length p ≡ length (take k t) → take k (p ++ drop k t) ≡ p
part_back k t p h e = take_at p (drop k t) k (e ∙ length-take-le k t h)

pub filled_part : (k : ℕ) (t p : List ℕ) (x : ℕ) → k ≤ length t → p ≡ replicate (length (take k t)) x
    → take k (p ++ drop k t) ≡ replicate k x
filled_part k t p x h e =
    part_back k t p h (ap length e ∙ length-replicate _ x) ∙ e ∙ ap (λ n. replicate n x) (length-take-le k t h)

pub fresh_lent : (k : ℕ) (t p m q j : List ℕ) → 4 * k ≤ length t → p ≡ replicate (length (take (4 * k) t)) 4294967295
    → k ≤ length m → q ≡ replicate (length (take k m)) 0 → j ≡ (begin 0 16384).journal
    → lent k (p ++ drop (4 * k) t) (q ++ drop k m) j ≡ begin k 16384
unfolding begin
fresh_lent k t p m q j h e h' e' fresh =
    rw (filled_part (4 * k) t p 4294967295 h e, filled_part k m q 0 h' e', fresh)

pub asked_back : (r : Answer) (k : ℕ) (t p m q j : List ℕ) {o : Outcome} → 4 * k ≤ length t
    → length p ≡ length (take (4 * k) t)
    → k ≤ length m → length q ≡ length (take k m) → outcome r p q j ≡ o
    → outcome r (take (4 * k) (p ++ drop (4 * k) t)) (take k (q ++ drop k m)) j ≡ o
asked_back r k t p m q j h e h' e' asked = rw (part_back (4 * k) t p h e, part_back k m q h' e') asked

pub slots_part : (k : ℕ) (t : List ℕ) → 4 * k ≤ length t → slots (take (4 * k) t) ≡ k
unfolding slots
slots_part k t h = rw (length-take-le (4 * k) t h) (omega arith)
