-- The entries of a live slot: they are in the table (`live_entry`), and what they hold is a slot (`link_low`).
use Prim.Native.Nat.{ℕ, ◌+◌, ◌*◌, ◌<◌}
use mathlib.Core.Path.{◌≡◌}
use mathlib.Core.Bool.{true}
use mathlib.Core.List.{List}
use native.Mathlib.Omega.{arith}
use lib.ListN.{length}
use Rattle.model.specs.Table.{slots, link, live}
use Rattle.model.specs.Meaning.Maps.{MapTable}
use Rattle.theorems.proofs.Maps.Rules.{live_in}
use Rattle.theorems.proofs.Maps.Tables.{rule_at}
use Rattle.sides.specs.Turns.{Linked}

-- in a map each link of a live slot is a live slot
pub map_linked : {n : ℕ} {t : List ℕ} → MapTable n t → Linked t
map_linked table = record {
  fits = table.whole;
  few = table.few;
  goes = λ x j lives low. (rule_at table x lives).goes j low;
}

module _ {t : List ℕ} (linked : Linked t) (x j : ℕ) (lives : live t x ≡ true) (low : j < 4) where
  pub live_entry : 4 * x + j < length t
  live_entry =
      let fits = linked.fits in
      let inside = live_in t x linked.fits lives in
      omega arith

  pub link_low : link t j x < slots t
  link_low = live_in t (link t j x) linked.fits (linked.goes x j lives low)
