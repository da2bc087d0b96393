-- What the passed checks say, as the crates below ask it: `rules_given` and `map_given` for the block test, `marks_given` for the
-- marks, `room_given` and `room_small` for a lent buffer, `told_given` for the unused slots.
use Prim.Native.Nat.{ℕ, ◌*◌, ◌≤◌}
use mathlib.Core.Path.{◌≡◌}
use mathlib.Core.Bool.{true}
use mathlib.Core.List.{List}
use native.Mathlib.Omega.{arith}
use lib.ListN.{length}
use borrow.Author.Tests.{eqb-true}
use Rattle.model.specs.Table.{slots, link}
use Rattle.model.specs.Map.{links_live, links_return, pairs_commute, stays_flat, is_map}
use Rattle.model.specs.Checks.{pass, dim_ok, table_ok, marks_ok, rule_ok}
use Rattle.model.specs.Meaning.Maps.{MapTable}
use Rattle.theorems.proofs.Maps.Tables.{live_below, rule_at}
use Rattle.theorems.proofs.Calls.Pass.{must_pass, dim_pass, table_pass, RulesPass, rules_pass, map_pass}
use Rattle.reading.specs.Told.{Told}

-- the checks of a map pass, before others
pub rules_given : (n : ℕ) (t : List ℕ) {Others : Type 0}
    → (rule_ok n t links_live ≡ pass) × ((rule_ok n t links_return ≡ pass) × ((rule_ok n t pairs_commute ≡ pass)
    × ((rule_ok n t stays_flat ≡ pass) × Others))) → RulesPass n t
rules_given n t p = rules_pass n t p.0 p.1.0 p.1.1.0 p.1.1.1.0

pub map_given : (n : ℕ) (t : List ℕ) → dim_ok n ≡ pass → RulesPass n t → is_map n t ≡ true
map_given n t dim rules = map_pass n t (dim_pass n dim).1 rules

pub marks_given : (t m : List ℕ) → marks_ok t m ≡ pass → length m ≡ slots t
unfolding marks_ok
marks_given t m h = eqb-true _ _ (must_pass _ 3 h)

-- a buffer of 65,536 has room for each slot; one of 8,192 has, where the table is small
pub room_given : (t : List ℕ) → table_ok t ≡ pass → slots t ≤ 65536
room_given t table = (table_pass t table).1

pub room_small : (k : ℕ) (t : List ℕ) → table_ok t ≡ pass → length t ≤ 4 * k → slots t ≤ k
room_small k t table small = let sized = table_pass t table in omega arith

-- what `reading::list_unused` asks of a map
pub told_given : {n : ℕ} {t : List ℕ} → MapTable n t → Told t
told_given T x l q =
    let to = live_below T (link _ 0 x) ((rule_at T x l).goes 0 (omega arith)) in
    let few = T.few in
    omega arith
