-- A search for the least number as an Option: `found` and `none_found`, by the numbers that it passed, and `none_above`; `found_is`
-- and `none_is`, what it says.
use Prim.Native.Nat.{ℕ, ◌≤◌, ◌<◌}
use mathlib.Core.Path.{◌≡◌, sym, ap}
use mathlib.Core.Bool.{Bool, true, false}
use native.Mathlib.Omega.{arith}
use borrow.Author.Tests.{lt-ltb, le-ltb}
use Rattle.std.specs.Prelude.{Option, Some, None}
use Rattle.std.proofs.lemmas.Option.{none-some}
use Rattle.model.specs.Lists.{least}
use Rattle.theorems.proofs.Lists.Scan.{if_lt, searched}
use Rattle.reading.specs.Found.{found_below}

module _ (p : ℕ → Bool) (k : ℕ) where
  pub found : (d : ℕ) → d < k → ((i : ℕ) → i < d → p i ≡ false) → p d ≡ true → Some d ≡ found_below k (least k p)
  found d low before here =
      let is : d ≡ least k p = searched p k d (omega arith) before (λ _. here) in
      rw (← is, found_below, lt-ltb d k low) (ap Some is)

  pub none_found : ((i : ℕ) → i < k → p i ≡ false) → None ≡ found_below k (least k p)
  none_found before = rw (← searched p k k (omega arith) before (λ l. absurd (omega arith)), found_below, le-ltb k k (omega arith))

abbrev value : Option ℕ → ℕ
value (Some y) = y
value None = 0

module _ (top x : ℕ) where
  pub found_is : (y : ℕ) → Some y ≡ found_below top x → (y ≡ x) × (x < top)
  found_is y h =
      if_lt x top (λ l. let e : Some y ≡ Some x = rw (found_below, lt-ltb x top l) at h in (ap value e, l))
      (λ u. absurd (none-some y (sym (rw (found_below, le-ltb x top u) at h))))

  pub none_above : top ≤ x → None ≡ found_below top x
  none_above u = rw (found_below, le-ltb x top u)

  pub none_is : None ≡ found_below top x → top ≤ x
  none_is h = if_lt x top (λ l. absurd (none-some x (rw (found_below, lt-ltb x top l) at h))) (λ u. u)
