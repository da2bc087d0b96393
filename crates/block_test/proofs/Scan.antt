-- The scan for the least live slot in a wrong cell.
-- Main definition: `Scanned`, what holds before the slot d.
-- Main theorems: `scan_first`, `scan_next`, `scan_found`, `scan_none`; `none_block`.
use Prim.Native.Nat.{ℕ, ◌+◌, ◌≤◌, ◌<◌}
use mathlib.Core.Path.{◌≡◌, sym, ap, ◌∙◌}
use mathlib.Core.Bool.{Bool, true, false, not}
use mathlib.Core.List.{List}
use native.Mathlib.Omega.{arith}
use lib.ListN.{length, get_or}
use borrow.Author.Count.{below_none, below_more}
use borrow.Author.Tests.{eq-eqb, ne_eqb, lt-ltb, le-ltb, not-true, not-false}
use Rattle.std.specs.Prelude.{Option, Some, None, is_some}
use Rattle.model.specs.Table.{slots}
use Rattle.model.specs.Map.{is_map}
use Rattle.model.specs.Cell.{in_wrong_cell, least_wrong, is_block}
use Rattle.model.specs.Checks.{pass, dim_ok, table_ok}
use Rattle.model.specs.Meaning.Maps.{MapTable}
use Rattle.theorems.proofs.Lists.Scan.{if_lt, least_is, least_by}
use Rattle.theorems.proofs.Maps.Rules.{map_of}
use Rattle.theorems.proofs.Calls.Pass.{dim_pass, table_pass}
use Rattle.reading.specs.Found.{found_below}
use Rattle.block_test.specs.Seen.{SeenGood}

-- what the checks 1 and 2 and the map test say
pub checked : (n : ℕ) (t : List ℕ) → dim_ok n ≡ pass → table_ok t ≡ pass → is_map n t ≡ true → MapTable n t
checked n t one two map =
    let dim = dim_pass n one in
    let (whole, few) = table_pass t two in
    record { dim = dim; whole = whole; few = few; map = map_of n t dim.1 map }

-- before the slot d
pub record Scanned (n : ℕ) (t seen : List ℕ) (d : ℕ) : Type 0 where
  pub seen_good : SeenGood n t seen
  pub right : (k : ℕ) → k < d → in_wrong_cell n t k ≡ false

module _ (n : ℕ) (t : List ℕ) where
  pub scan_first : (seen : List ℕ) → slots t ≤ length seen → ((k : ℕ) → k < length seen → get_or seen k 0 ≡ 0)
      → Scanned n t seen 0
  scan_first seen long clear = record {
    seen_good = record { long = long; good = λ x l h. absurd (h (clear x (omega arith))) };
    right = below_none _;
  }

  pub scan_next : (seen new : List ℕ) (d : ℕ) → Scanned n t seen d → in_wrong_cell n t d ≡ false → SeenGood n t new
      → Scanned n t new (d + 1)
  scan_next seen new d s e g = record { seen_good = g; right = below_more _ _ s.right e }

  pub scan_found : (seen : List ℕ) (d : ℕ) → Scanned n t seen d → d < slots t → in_wrong_cell n t d ≡ true
      → Some d ≡ found_below (slots t) (least_wrong n t)
  unfolding least_wrong
  scan_found seen d s l e =
      let least : least_wrong n t ≡ d
      = least_by (in_wrong_cell n t) (slots t) d (record { low = omega arith; high = omega arith; passes = λ _. e; before = λ k _ h. s.right k h }) in
      rw (found_below, least, lt-ltb d (slots t) l) (ap Some (sym least))

  pub scan_none : (seen : List ℕ) (d end : ℕ) → Scanned n t seen d → end ≡ slots t → end ≤ d
      → None ≡ found_below (slots t) (least_wrong n t)
  unfolding least_wrong
  scan_none seen d end s e l =
      let least : least_wrong n t ≡ slots t
      = least_by (in_wrong_cell n t) (slots t) (slots t) (record {
        low = omega arith;
        high = omega arith;
        passes = λ h. absurd (omega arith);
        before = λ k _ h. s.right k (omega arith);
      }) in
      rw (least, le-ltb (slots t) (slots t) (omega arith), found_below)

  -- there is none exactly in a block map
  pub none_block : (found : Option ℕ) (none : Bool) → found ≡ found_below (slots t) (least_wrong n t) → is_some found ≡ not none
      → none ≡ is_block n t
  unfolding least_wrong is_block
  none_block found none e h =
      let end : least_wrong n t ≤ slots t = (least_is (in_wrong_cell n t) (slots t)).high in
      if_lt (least_wrong n t) (slots t)
      (λ l. not-true none (sym h ∙ rw (e, lt-ltb _ _ l, found_below)) ∙ sym (ne_eqb _ _ (λ q. omega arith)))
      (λ l. not-false none (sym h ∙ rw (e, le-ltb (least_wrong n t) (slots t) l, found_below)) ∙ sym (eq-eqb _ _ (omega arith)))
