-- orbit (mask, d): "bit i of the mask permits link i."
use Rattle.std.specs.Prelude.{ℕ, suc, ◌/◌, ◌%◌, ◌^◌, Bool, true, false, not, List, [], ◌∷◌, length, eqb}
use Rattle.model.specs.Lists.{least}
use Rattle.model.specs.Reach.{closure, links}

-- bit i of the mask
unfoldable pub bit : ℕ → ℕ → Bool
bit mask i = eqb (mask / 2 ^ i % 2) 1

unfoldable pub orbit_words : ℕ → ℕ → List (List ℕ)
orbit_words n mask = links n (bit mask)

unfoldable pub orbit : ℕ → List ℕ → ℕ → ℕ → List ℕ
orbit n t mask d = closure t (orbit_words n mask) (d ∷ [])

-- "If the mask has exactly n ones, the place is 1 + the missing index, else 0."
unfoldable pub orbit_place : ℕ → ℕ → ℕ
orbit_place n mask =
    elim (eqb (length (orbit_words n mask)) n) [
      | true ↦ suc (least (suc n) (λ i. not (bit mask i)))
      | false ↦ 0
    ]
