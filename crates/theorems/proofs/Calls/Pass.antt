-- What passed checks say: each check by itself (`dim_pass`, ..), and the checks of each call (`add_passed`, ..).
use Prim.Native.Nat.{ℕ, ◌*◌, ◌-◌, ◌%◌, ◌≤◌}
use mathlib.Core.Path.{◌≡◌, refl, sym, ◌∙◌}
use mathlib.Core.Logic.{◌≢◌, ⊎_elim}
use mathlib.Core.Bool.{Bool, true, false, ◌&&◌}
use mathlib.Core.List.{List, [], ◌∷◌, ◌++◌}
use native.Mathlib.Omega.{arith}
use lib.ListN.{length}
use lib.Dec.{eqb, leb}
use borrow.Author.Tests.{eqb-true, eqb-false, eq-eqb, leb-true, not-true}
use Rattle.model.specs.Lists.{index_of}
use Rattle.model.specs.Table.{slots, link, live}
use Rattle.model.specs.Map.{MapRule, links_live, links_return, pairs_commute, stays_flat, keeps_rule, least_breaking, is_map}
use Rattle.model.specs.Reach.{in_set}
use Rattle.model.specs.Cell.{cell_size, is_block, least_wrong}
use Rattle.model.specs.Journal.{cursor, end, changes_from, record_of, changes_at, put, unbroken}
use Rattle.model.specs.Add.{add_slots}
use Rattle.model.specs.Sew.{side, is_paired}
use Rattle.model.specs.NewDarts.{slots_for}
use Rattle.model.specs.Split.{crosses}
use Rattle.model.specs.Checks.{Check, pass, must, must_at, in_order}
use Rattle.model.specs.Checks.{dim_ok, solid_ok, table_ok, marks_ok, journal_ok, rule_ok, map_checks, index_ok, dart_ok, block_ok}
use Rattle.model.specs.Checks.{drawn_ok, enclosed_ok, sewn_wall_ok, turns_ok, connected_ok, apart_ok, free_ok}
use Rattle.model.specs.Checks.{sewn_ok, pairing_ok, crossing_ok, add_room_ok, new_room_ok}
use Rattle.model.specs.Checks.{add_checks, sides_checks, sew_checks, unsew_checks, layer_checks, split_checks}
use Rattle.model.specs.Checks.{wall_checks, insert_checks}
use Rattle.model.specs.Runs.{Op}
use Rattle.model.specs.Meaning.Ends.{record_ok, step_ok, op_numbers}
use Rattle.model.specs.Meaning.Numbers.{JournalRule}
use Rattle.model.specs.Meaning.Maps.{Dim, MapTable, BlockTable}
use Rattle.model.specs.Meaning.Pairings.{OnSide, Sewable}
use Rattle.model.specs.Meaning.Sets.{Marked}
use Rattle.model.specs.Meaning.Sheets.{BlockDart}
use Rattle.model.specs.Meaning.Walls.{Drawn, Inserts}
use Rattle.theorems.proofs.Lists.Scan.{clash, test, and_l, and_r, or_cases}
use Rattle.theorems.proofs.Maps.Rules.{map_of}
use Rattle.theorems.proofs.Maps.Broken.{each_rule, some_broken, of_broken}
use Rattle.theorems.proofs.Cells.Exact.{block_of}
use Rattle.theorems.proofs.Insert.Wall.{drawn_by}
use Rattle.theorems.proofs.Calls.Tests.{or_holds}
use Rattle.theorems.proofs.Calls.Checks.{must_at_0, not_pass, passed_at, passed_number, passed_append}

-- ---- what a passed check says

pub must_at_pass : (b : Bool) (k p q : ℕ) → must_at b k p q ≡ pass → b ≡ true
unfolding must_at
must_at_pass true k p q h = refl
must_at_pass false k p q h = not_pass h

pub must_pass : (b : Bool) (k : ℕ) → must b k ≡ pass → b ≡ true
must_pass b k h = must_at_pass b k 0 0 (sym (must_at_0 b k) ∙ h)

pub dim_pass : (n : ℕ) → dim_ok n ≡ pass → Dim n
unfolding dim_ok
dim_pass n h =
    ⊎_elim (λ e. let q = eqb-true n 2 e in (omega arith, omega arith)) (λ e. let q = eqb-true n 3 e in (omega arith, omega arith))
    ((or_holds (eqb n 2) (eqb n 3)).0 (must_pass _ 1 h))

pub solid_pass : (n : ℕ) → solid_ok n ≡ pass → n ≡ 3
unfolding solid_ok
solid_pass n h = eqb-true n 3 (must_pass _ 1 h)

pub table_pass : (t : List ℕ) → table_ok t ≡ pass → (length t ≡ 4 * slots t) × (slots t ≤ 65536)
unfolding table_ok slots
table_pass t h =
    let q = must_pass (eqb (length t % 4) 0 && leb (length t) 262144) 2 h in
    let a = eqb-true (length t % 4) 0 (and_l (eqb (length t % 4) 0) _ q) in
    let b = leb-true (length t) 262144 (and_r (eqb (length t % 4) 0) _ q) in
    (omega arith, omega arith)

-- the checks of all rules pass
abbrev pub RulesPass : ℕ → List ℕ → Type 0
RulesPass n t = (r : MapRule) → rule_ok n t r ≡ pass

pub rules_pass : (n : ℕ) (t : List ℕ) → rule_ok n t links_live ≡ pass → rule_ok n t links_return ≡ pass
    → rule_ok n t pairs_commute ≡ pass → rule_ok n t stays_flat ≡ pass → RulesPass n t
rules_pass n t = each_rule (λ r. rule_ok n t r ≡ pass)

-- the least slot that breaks a rule keeps one that passes
pub passed_keeps : (n : ℕ) (t : List ℕ) → is_map n t ≡ false → (r : MapRule) → rule_ok n t r ≡ pass
    → keeps_rule n t (least_breaking n t) r ≡ true
unfolding rule_ok
passed_keeps n t e r h = ⊎_elim (λ q. absurd (clash q e)) (λ q. q) (or_cases (is_map n t) _ (must_at_pass _ _ _ _ h))

pub map_pass : (n : ℕ) (t : List ℕ) → n ≤ 3 → RulesPass n t → is_map n t ≡ true
map_pass n t n3 h = test (is_map n t) (λ e. e) (λ e.
    let (r, d, i, broken) = some_broken n t n3 e in
    absurd (clash (passed_keeps n t e r (h r)) (of_broken n t n3 broken).broken))

pub block_pass : (n : ℕ) (t : List ℕ) → block_ok n t ≡ pass → is_block n t ≡ true
unfolding block_ok is_block
block_pass n t h = must_at_pass _ 8 (least_wrong n t) 0 h

pub index_pass : (n i : ℕ) → index_ok n i ≡ pass → i ≤ n
unfolding index_ok
index_pass n i h = leb-true i n (must_pass _ 6 h)

pub dart_pass : (t : List ℕ) (d : ℕ) → dart_ok t d ≡ pass → live t d ≡ true
unfolding dart_ok
dart_pass t d h = must_pass _ 7 h

pub journal_pass : (j : List ℕ) → journal_ok j ≡ pass → JournalRule j
unfolding journal_ok
journal_pass j h =
    let long = leb 2 (length j) in
    let few = leb (length j) 1048576 in
    let low = leb 2 (cursor j) in
    let ends = leb (cursor j) (end j) in
    let all = must_pass _ 4 h in
    let four = and_l (long && few && low && ends) _ all in
    let three = and_l (long && few && low) _ four in
    let two = and_l (long && few) _ three in
    record {
      long = leb-true 2 _ (and_l long few two);
      few = leb-true _ 1048576 (and_r long few two);
      low = leb-true 2 _ (and_r (long && few) low three);
      ends = leb-true _ _ (and_r (long && few && low) ends four);
      within = leb-true _ _ (and_r (long && few && low && ends) _ all);
    }

pub record_pass : (tag : ℕ) (t u j : List ℕ) → record_ok tag t u j ≡ pass
    → length (record_of tag (changes_from 0 t u)) ≤ length j - cursor j
unfolding record_ok
record_pass tag t u j h = leb-true _ _ (must_pass _ 15 h)

pub step_pass : (redo : Bool) (n : ℕ) (t j : List ℕ) (a k : ℕ) → step_ok redo n t j a k ≡ pass
    → (unbroken redo t j a k ≡ true) × (is_map n (put redo (changes_at j a k) t) ≡ true)
unfolding step_ok
step_pass redo n t j a k h =
    let both = must_pass _ 17 h in
    (and_l (unbroken redo t j a k) _ both, and_r (unbroken redo t j a k) _ both)

-- ---- what the passed checks of a call say; `q k` is the check with the number k

pub table_of : (n : ℕ) (t : List ℕ) → dim_ok n ≡ pass → table_ok t ≡ pass → RulesPass n t → MapTable n t
table_of n t a b c =
    let dim = dim_pass n a in
    let long = table_pass t b in
    record { dim = dim; whole = long.0; few = long.1; map = map_of n t dim.1 (map_pass n t dim.1 c) }

pub block_table_of : (n : ℕ) (t : List ℕ) → dim_ok n ≡ pass → table_ok t ≡ pass → RulesPass n t → block_ok n t ≡ pass → BlockTable n t
block_table_of n t a b c d = block_of n t (table_of n t a b c) (block_pass n t d)

pub record AddPassed (n : ℕ) (t : List ℕ) : Type 0 where
  pub table : MapTable n t
  pub room : length (add_slots n t) ≡ cell_size n

pub record UnsewPassed (n : ℕ) (t : List ℕ) (i d : ℕ) : Type 0 where
  pub table : MapTable n t
  pub index : i ≤ n
  pub lives : live t d ≡ true
  pub sewn : link t i d ≢ d

-- of sew, before 12
pub record SidesPassed (n : ℕ) (t : List ℕ) (i d e : ℕ) : Type 0 where
  pub table : MapTable n t
  pub index : i ≤ n
  pub lives_d : live t d ≡ true
  pub lives_e : live t e ≡ true
  pub apart : Marked (side n t i d) e → ⊥
  pub free_d : link t i d ≡ d
  pub free_e : link t i e ≡ e

pub record SplitPassed (n : ℕ) (t s gs : List ℕ) : Type 0 where
  pub uncrossed : crosses t s gs ≡ false
  pub room : length (slots_for n t gs) ≡ n * length gs

pub unsew_side : {n : ℕ} {t : List ℕ} {i d : ℕ} → UnsewPassed n t i d → OnSide n t i d
unsew_side passed = record { table = passed.table; index = passed.index; lives = passed.lives }

module _ {n : ℕ} {t : List ℕ} {i d e : ℕ} (passed : SidesPassed n t i d e) where
  pub left_side : OnSide n t i d
  left_side = record { table = passed.table; index = passed.index; lives = passed.lives_d }

  pub right_side : OnSide n t i e
  right_side = record { table = passed.table; index = passed.index; lives = passed.lives_e }

  pub sides_sewable : is_paired n t i d e ≡ true → Sewable n t i d e
  sides_sewable h = record {
    left = left_side;
    right = right_side;
    apart = passed.apart;
    free_left = passed.free_d;
    free_right = passed.free_e;
    paired = h;
  }

module _ (n : ℕ) (t j : List ℕ) where
  pub add_passed : in_order (add_checks n t j) ≡ pass → AddPassed n t
  unfolding add_checks map_checks add_room_ok index_of
  add_passed a =
      let q = passed_number (op_numbers Op.add) (add_checks n t j) a in
      record {
        table = table_of n t (q 1) (q 2) (rules_pass n t (q 5) (q 24) (q 25) (q 26));
        room = eqb-true _ _ (must_pass _ 14 (q 14));
      }

  pub unsew_passed : (i d : ℕ) → in_order (unsew_checks n t j i d) ≡ pass → UnsewPassed n t i d
  unfolding unsew_checks map_checks sewn_ok index_of
  unsew_passed i d a =
      let q = passed_number (op_numbers (Op.unsew i d)) (unsew_checks n t j i d) a in
      record {
        table = table_of n t (q 1) (q 2) (rules_pass n t (q 5) (q 24) (q 25) (q 26));
        index = index_pass n i (q 6);
        lives = dart_pass t d (q 7);
        sewn = eqb-false _ _ (not-true _ (must_pass _ 11 (q 11)));
      }

  pub sides_passed : (i d e : ℕ) → in_order (sides_checks n t j i d e) ≡ pass → SidesPassed n t i d e
  unfolding sides_checks map_checks apart_ok free_ok in_set index_of
  sides_passed i d e a =
      let q = passed_number (op_numbers (Op.sew i d e)) (sides_checks n t j i d e) a in
      let second_7 = passed_at (sides_checks n t j i d e) a 9 in
      let f = must_pass (eqb (link t i d) d && eqb (link t i e) e) 10 (q 10) in
      record {
        table = table_of n t (q 1) (q 2) (rules_pass n t (q 5) (q 24) (q 25) (q 26));
        index = index_pass n i (q 6);
        lives_d = dart_pass t d (q 7);
        lives_e = dart_pass t e second_7;
        apart = λ h. clash (eq-eqb _ _ h) (not-true _ (must_pass _ 9 (q 9)));
        free_d = eqb-true _ _ (and_l (eqb (link t i d) d) _ f);
        free_e = eqb-true _ _ (and_r (eqb (link t i d) d) _ f);
      }

  pub sew_passed : (i d e : ℕ) → in_order (sew_checks n t j i d e) ≡ pass → SidesPassed n t i d e × (is_paired n t i d e ≡ true)
  unfolding sew_checks pairing_ok
  sew_passed i d e a =
      let r = passed_append (sides_checks n t j i d e) _ a in
      (sides_passed i d e r.0, must_pass _ 12 (passed_at _ r.1 0))

  -- of remove, and of the first checks of split
  pub layer_passed : (m : List ℕ) (d : ℕ) → in_order (layer_checks n t m j d) ≡ pass → BlockDart n t d
  unfolding layer_checks map_checks index_of
  layer_passed m d a =
      let q = passed_number (op_numbers (Op.remove d)) (layer_checks n t m j d) a in
      record {
        table = block_table_of n t (q 1) (q 2) (rules_pass n t (q 5) (q 24) (q 25) (q 26)) (q 8);
        lives = dart_pass t d (q 7);
      }

  pub split_passed : (s gs : List ℕ) → in_order (split_checks n t s gs) ≡ pass → SplitPassed n t s gs
  unfolding split_checks crossing_ok new_room_ok index_of
  split_passed s gs a =
      let q = passed_number (13 ∷ 14 ∷ []) (split_checks n t s gs) a in
      record { uncrossed = not-true _ (must_pass _ 13 (q 13)); room = eqb-true _ _ (must_pass _ 14 (q 14)) }

  pub insert_passed : (w : List ℕ) → in_order (insert_checks n t w j) ≡ pass → Inserts n t w
  unfolding insert_checks wall_checks map_checks marks_ok drawn_ok enclosed_ok sewn_wall_ok turns_ok connected_ok new_room_ok index_of
  insert_passed w a =
      let q = passed_number (op_numbers (Op.insert w)) (insert_checks n t w j) a in
      record {
        table = block_table_of n t (q 1) (q 2) (rules_pass n t (q 5) (q 24) (q 25) (q 26)) (q 8);
        long = eqb-true _ _ (must_pass _ 3 (q 3));
        drawn = must_pass _ 28 (q 28);
        enclosed = must_pass _ 29 (q 29);
        sewn = must_pass _ 30 (q 30);
        turns = must_pass _ 31 (q 31);
        joined = must_pass _ 32 (q 32);
        room = eqb-true _ _ (must_pass _ 14 (q 14));
      }

  -- of insert, where the checks before 30 pass
  pub wall_drawn : (w : List ℕ) (rest : List Check)
      → in_order (dim_ok n ∷ table_ok t ∷ marks_ok t w ∷ journal_ok j
      ∷ (map_checks n t ++ (block_ok n t ∷ drawn_ok t w ∷ enclosed_ok n t w ∷ rest))) ≡ pass → Drawn n t w
  unfolding map_checks marks_ok drawn_ok enclosed_ok index_of
  wall_drawn w rest a =
      let q = passed_number (op_numbers (Op.insert w)) _ a in
      let T = block_table_of n t (q 1) (q 2) (rules_pass n t (q 5) (q 24) (q 25) (q 26)) (q 8) in
      drawn_by w T (eqb-true _ _ (must_pass _ 3 (q 3))) (must_pass _ 28 (q 28)) (must_pass _ 29 (q 29))
