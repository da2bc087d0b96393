-- Masks: a number as a sum of powers of 2, and the one index that a mask lacks.
use Rattle.std.specs.Prelude.{ℕ, zero, suc, ◌+◌, ◌^◌, ◌≤◌, ◌≡◌, ◌≢◌, Bool, true, false}
use Rattle.model.specs.Orbit.{bit}

-- the sum of the 2^i over the i below k that pass
unfoldable pub powers : ℕ → (ℕ → Bool) → ℕ
powers zero p = 0
powers (suc k) p = powers k p + elim (p k) [ true ↦ 2 ^ k | false ↦ 0 ]

-- "the missing index": of the indices up to n the mask permits all but i
pub record Lacks (n mask i : ℕ) : Type 0 where
  pub index : i ≤ n
  pub missing : bit mask i ≡ false
  pub others : (j : ℕ) → j ≤ n → j ≢ i → bit mask j ≡ true
