-- Darts of a map: they are slots (`dart_low`, `dart_few`), the table has their links (`dart_there`), which lead to darts (`dart_next`,
-- `dart_across`) and can be marked (`dart_marked`).
use Prim.Native.Nat.{ℕ, ◌+◌, ◌*◌, ◌<◌}
use mathlib.Core.Path.{◌≡◌, ap}
use mathlib.Core.List.{List}
use native.Mathlib.Omega.{arith}
use lib.ListN.{length}
use Rattle.model.specs.Table.{slots, link, walk}
use Rattle.model.specs.Meaning.Sheets.{BlockDart}
use Rattle.theorems.proofs.Maps.Tables.{map_table, live_below, rule_at}
use Rattle.picks.specs.Enter.{Dart, across}

pub dart_of : {n : ℕ} {t : List ℕ} {x : ℕ} → BlockDart n t x → Dart t x
dart_of {n} D = (n, record { table = map_table D.table; lives = D.lives })

module _ {t : List ℕ} {x : ℕ} (D : Dart t x) where
  pub dart_low : x < slots t
  dart_low = live_below D.1.table x D.1.lives

  pub dart_few : x < 65536
  dart_few = let low = dart_low in let few = D.1.table.few in omega arith

  pub dart_there : (i : ℕ) → i < 4 → 4 * x + i < length t
  dart_there i h = let low = dart_low in let whole = D.1.table.whole in omega arith

  pub dart_next : (i : ℕ) → i < 4 → Dart t (link t i x)
  dart_next i h = (D.0, record { table = D.1.table; lives = (rule_at D.1.table x D.1.lives).goes i h })

-- what marking it asks, where y is x
pub dart_marked : {t : List ℕ} {x : ℕ} → Dart t x → (n y : ℕ) (m : List ℕ) → n < 4 → y ≡ x → length m ≡ slots t
    → (4 * y + n < length t) × (y < length m) × (link t n y < length m)
dart_marked {t} D n y m h is long =
    let there = dart_there D n h in
    let low = dart_low D in
    let over = dart_low (dart_next D n h) in
    let same = ap (link t n) is in
    (omega arith, omega arith, omega arith)

pub dart_across : {t : List ℕ} {x : ℕ} → Dart t x → Dart t (across t x)
unfolding walk
dart_across D = dart_next (dart_next (dart_next D 1 (omega arith)) 0 (omega arith)) 1 (omega arith)
