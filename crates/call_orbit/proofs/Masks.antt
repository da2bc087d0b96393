-- A mask: its bound (`mask_bound`), and the place of its orbit by counting ones and trailing zeros (`ones_place`), by one
-- computed test of all masks.
use Prim.Native.Nat.{ℕ, ◌+◌, ◌*◌, ◌-◌, ◌%◌, ◌^◌, ◌<◌}
use mathlib.Core.Path.{◌≡◌, refl}
use mathlib.Core.Bool.{Bool, true, false}
use lib.Dec.{eqb}
use lib.Count.{ones, ones_in, count_trailing_zeros}
use borrow.Author.Tests.{eqb-true, ltb-true}
use Rattle.model.specs.Lists.{least, least_from, all_below, all_from}
use Rattle.model.specs.Reach.{links, links_from}
use Rattle.model.specs.Orbit.{bit, orbit_words, orbit_place}
use Rattle.model.specs.Checks.{pass, mask_ok}
use Rattle.model.specs.Meaning.Maps.{Dim}
use Rattle.theorems.proofs.Lists.Scan.{below_at}
use Rattle.theorems.proofs.Maps.Dim.{two_cases}
use Rattle.theorems.proofs.Calls.Pass.{must_pass}

pub shift_power : (n : ℕ) → Dim n → 2 * 2 ^ n % 4294967296 ≡ 2 ^ (n + 1)
shift_power n dim = two_cases n dim (λ n. 2 * 2 ^ n % 4294967296 ≡ 2 ^ (n + 1)) refl refl

pub mask_bound : (n mask : ℕ) → mask_ok n mask ≡ pass → mask < 2 ^ (n + 1)
unfolding mask_ok
mask_bound n mask h = ltb-true _ _ (must_pass _ 6 h)

-- 1 + the trailing zeros of the complement where there are n ones, else 0
unfoldable pub place_by_ones : ℕ → ℕ → ℕ
place_by_ones n mask = elim (eqb (ones mask) n) [ true ↦ count_trailing_zeros 32 (4294967295 - mask) + 1 | false ↦ 0 ]

same_place : ℕ → ℕ → Bool
same_place n mask = eqb (place_by_ones n mask) (orbit_place n mask)

all_same : (n : ℕ) → Dim n → all_below (2 ^ (n + 1)) (same_place n) ≡ true
unfolding same_place place_by_ones ones ones_in count_trailing_zeros orbit_place orbit_words links links_from bit least least_from all_below all_from
all_same n dim = two_cases n dim (λ n. all_below (2 ^ (n + 1)) (same_place n) ≡ true) refl refl

pub ones_place : (n mask : ℕ) → Dim n → mask < 2 ^ (n + 1) → place_by_ones n mask ≡ orbit_place n mask
unfolding same_place
ones_place n mask dim h = eqb-true _ _ (below_at (same_place n) (2 ^ (n + 1)) (all_same n dim) mask h)
