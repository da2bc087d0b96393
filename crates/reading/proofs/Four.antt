-- The four links of a slot as a list: `four_of` puts it together, `four_at` takes a link out.
use Prim.Native.Nat.{ℕ, zero, suc, ◌<◌}
use mathlib.Core.Path.{◌≡◌, refl}
use mathlib.Core.List.{[], ◌∷◌}
use native.Mathlib.Omega.{arith}
use lib.ListN.{get_or}
use Rattle.reading.specs.Four.{four}

module _ (f : ℕ → ℕ) where
  pub four_of : {a b c d : ℕ} → a ≡ f 0 → b ≡ f 1 → c ≡ f 2 → d ≡ f 3 → (a ∷ b ∷ c ∷ d ∷ []) ≡ four f
  unfolding four
  four_of p q r s = rw (p, q, r, s)

  pub four_at : (j : ℕ) → j < 4 → get_or (four f) j 0 ≡ f j
  unfolding four
  four_at zero h = refl
  four_at (suc zero) h = refl
  four_at (suc (suc zero)) h = refl
  four_at (suc (suc (suc zero))) h = refl
  four_at (suc (suc (suc (suc j)))) h = absurd (omega arith)
