-- When each check fails, in the words of 01's table and of 02: `dim_fails` (1) to `step_fails` (17), `drawn_fails` (28) to
-- `connected_fails` (32), `queue_fails` (37), `list_fails` (38), `empty_fails` (18) to `order_fails` (23).
use Prim.Native.Nat.{ℕ, ◌+◌, ◌*◌, ◌-◌, ◌%◌, ◌^◌, ◌≤◌, ◌<◌}
use mathlib.Core.Path.{◌≡◌, refl}
use mathlib.Core.Logic.Iff
use mathlib.Core.Logic.{◌⊎◌, ◌≢◌, ◌↔◌}
use mathlib.Core.Bool.{Bool, true, false}
use mathlib.Core.List.{List}
use mathlib.Core.Option.{Option, none, some}
use native.Mathlib.Omega.{arith}
use lib.ListN.{length, take, length-take}
use lib.Dec.{eqb}
use borrow.Author.Tests.{le-leb}
use Rattle.model.specs.Lists.{ones}
use Rattle.model.specs.Table.{slots, link, live, unused_slots}
use Rattle.model.specs.Map.{MapRule, keeps_rule, least_breaking, is_map}
use Rattle.model.specs.Reach.{in_set}
use Rattle.model.specs.Cell.{cell_size, is_block}
use Rattle.model.specs.Add.{add_slots}
use Rattle.model.specs.Sew.{side}
use Rattle.model.specs.Wall.{wall_reached}
use Rattle.model.specs.NewDarts.{slots_for}
use Rattle.model.specs.Vtk.{Grid, grid_of}
use Rattle.model.specs.Faces.{darts}
use Rattle.model.specs.Journal.{cursor, end, changes_from, record_of, changes_at, put, unbroken}
use Rattle.model.specs.Checks.{pass, must, must_at, dim_ok, table_ok, marks_ok, journal_ok, rule_number, rule_ok, index_ok, mask_ok}
use Rattle.model.specs.Checks.{dart_ok, block_ok, apart_ok, free_ok, sewn_ok, pairing_ok, crossing_ok, add_room_ok, new_room_ok}
use Rattle.model.specs.Checks.{solid_ok, empty_ok, form_ok, types_ok, vertices_ok, sharing_ok, order_ok, cells_room_ok}
use Rattle.model.specs.Checks.{queue_ok, list_ok, undo_ok, redo_ok, drawn_ok, enclosed_ok, sewn_wall_ok, turns_ok, connected_ok}
use Rattle.model.specs.Meaning.Ends.{record_ok, step_ok}
use Rattle.model.specs.Meaning.Maps.{Dim, BreaksFirst, MapTable, Block}
use Rattle.model.specs.Meaning.Numbers.{JournalRule, StepFails}
use Rattle.model.specs.Meaning.Pairings.{Pairing}
use Rattle.model.specs.Meaning.Sets.{Marked}
use Rattle.model.specs.Meaning.Sheets.{Crossing}
use Rattle.model.specs.Meaning.Walls.{BadMark, Leaves, Needed, Drawn}
use Rattle.model.specs.Meaning.Vtk.{OfForm, OtherType, Repeated, ThreeCells, OtherCycle}
use Rattle.theorems.proofs.Lists.Scan.{clash, or_false}
use Rattle.theorems.proofs.Maps.Rules.{map_of, of_map}
use Rattle.theorems.proofs.Maps.Broken.{broken_first, of_broken}
use Rattle.theorems.proofs.Cells.Exact.{block_exactly}
use Rattle.theorems.proofs.Sewing.Pairing.{paired_exactly}
use Rattle.theorems.proofs.Layers.Sheet.{crosses_some}
use Rattle.theorems.proofs.Insert.Fails.{drawn_false, enclosed_false, sewn_wall_false, turns_false, connected_false}
use Rattle.theorems.proofs.Vtk.Form.{form_none}
use Rattle.theorems.proofs.Vtk.Fails.{empty_false, types_false, vertices_false, sharing_false, order_false}
use Rattle.theorems.proofs.History.Broken.{unbroken_exactly}
use Rattle.theorems.proofs.Calls.Tests.{not_fails, and_fails, or_fails, leb_fails, ltb_fails, eqb_fails, eqb_holds}
use Rattle.theorems.proofs.Calls.Tests.{test_fails, one_of}
use Rattle.theorems.proofs.Calls.Checks.{must_at_0, not_pass}
use Rattle.theorems.proofs.Calls.Pass.{passed_keeps, journal_pass, SidesPassed, left_side, right_side}

-- ---- a check that is a test

must_at_fails : {P : Type 0} (b : Bool) (k p q : ℕ) → (b ≡ false) ↔ P → (must_at b k p q ≢ pass) ↔ P
unfolding must_at
must_at_fails true k p q f = (λ h. absurd (h refl), λ x. absurd (clash refl (f.1 x)))
must_at_fails false k p q f = (λ h. f.0 refl, λ x e. not_pass e)

must_fails : {P : Type 0} (b : Bool) (k : ℕ) → (b ≡ false) ↔ P → (must b k ≢ pass) ↔ P
must_fails b k f = rw (must_at_0 b k) (must_at_fails b k 0 0 f)

-- ---- the checks by number

pub dim_fails : (n : ℕ) → (dim_ok n ≢ pass) ↔ ((n ≢ 2) × (n ≢ 3))
unfolding dim_ok
dim_fails n = must_fails _ 1 (Iff.trans (or_fails (eqb n 2) (eqb n 3)) (Iff.and (eqb_fails n 2) (eqb_fails n 3)))

pub solid_fails : (n : ℕ) → (solid_ok n ≢ pass) ↔ (n ≢ 3)
unfolding solid_ok
solid_fails n = must_fails _ 1 (eqb_fails n 3)

pub table_fails : (t : List ℕ) → (table_ok t ≢ pass) ↔ ((length t % 4 ≢ 0) ⊎ (262144 < length t))
unfolding table_ok
table_fails t =
    let whole = eqb_fails (length t % 4) 0 in
    let few = leb_fails (length t) 262144 in
    must_fails _ 2 (Iff.trans (and_fails (eqb (length t % 4) 0) _) (one_of whole few))

pub marks_fails : (t m : List ℕ) → (marks_ok t m ≢ pass) ↔ (length m ≢ slots t)
unfolding marks_ok
marks_fails t m = must_fails _ 3 (eqb_fails (length m) (slots t))

pub queue_fails : (t w : List ℕ) → (queue_ok t w ≢ pass) ↔ (length w ≢ slots t)
unfolding queue_ok
queue_fails t w = must_fails _ 37 (eqb_fails (length w) (slots t))

pub list_fails : (l : List ℕ) → (list_ok l ≢ pass) ↔ (length l % 3 ≢ 0)
unfolding list_ok
list_fails l = must_fails _ 38 (eqb_fails (length l % 3) 0)

pub journal_holds : (j : List ℕ) → JournalRule j → journal_ok j ≡ pass
unfolding journal_ok must
journal_holds j rule =
    let long = le-leb _ _ rule.long in
    let few = le-leb _ _ rule.few in
    rw (long, few, le-leb _ _ rule.low, le-leb _ _ rule.ends, le-leb _ _ rule.within)

pub journal_fails : (j : List ℕ) → (journal_ok j ≢ pass) ↔ (JournalRule j → ⊥)
journal_fails j = (λ h rule. h (journal_holds j rule), λ h e. h (journal_pass j e))

-- 5, 24, 25, 26, where the rules before pass
pub rule_fails : (n : ℕ) (t : List ℕ) (r : MapRule) → Dim n → ((q : MapRule) → rule_number q < rule_number r → rule_ok n t q ≡ pass)
    → (rule_ok n t r ≢ pass) ↔ ((d : ℕ) × (i : ℕ) × BreaksFirst n t r d i)
unfolding rule_ok
rule_fails n t r dim earlier = must_at_fails _ (rule_number r) _ _ (
  λ h.
      let (not_map, broken) = or_false (is_map n t) (keeps_rule n t (least_breaking n t) r) h in
      (_, _, broken_first n t dim.1 not_map r broken (λ q l. passed_keeps n t not_map q (earlier q l))),
  λ w. let tested = of_broken n t dim.1 w.2 in rw tested.not_map tested.broken,
)

pub index_fails : (n i : ℕ) → (index_ok n i ≢ pass) ↔ (n < i)
unfolding index_ok
index_fails n i = must_fails _ 6 (leb_fails i n)

pub mask_fails : (n mask : ℕ) → (mask_ok n mask ≢ pass) ↔ (2 ^ (n + 1) ≤ mask)
unfolding mask_ok
mask_fails n mask = must_fails _ 6 (ltb_fails mask (2 ^ (n + 1)))

pub dart_fails : (t : List ℕ) (d : ℕ) → (dart_ok t d ≢ pass) ↔ (live t d ≡ false)
unfolding dart_ok
dart_fails t d = must_fails _ 7 Iff.rfl

pub block_fails : (n : ℕ) (t : List ℕ) → MapTable n t → (block_ok n t ≢ pass) ↔ (Block n t → ⊥)
unfolding block_ok is_block
block_fails n t table = must_at_fails _ 8 _ 0 (test_fails (is_block n t) (block_exactly table))

pub apart_fails : (n : ℕ) (t : List ℕ) (i d e : ℕ) → (apart_ok n t i d e ≢ pass) ↔ Marked (side n t i d) e
unfolding apart_ok in_set
apart_fails n t i d e = must_fails _ 9 (Iff.trans (not_fails _) (eqb_holds _ 1))

pub free_fails : (t : List ℕ) (i d e : ℕ) → (free_ok t i d e ≢ pass) ↔ ((link t i d ≢ d) ⊎ (link t i e ≢ e))
unfolding free_ok
free_fails t i d e = must_fails _ 10 (Iff.trans (and_fails (eqb (link t i d) d) _) (one_of (eqb_fails _ _) (eqb_fails _ _)))

pub sewn_fails : (t : List ℕ) (i d : ℕ) → (sewn_ok t i d ≢ pass) ↔ (link t i d ≡ d)
unfolding sewn_ok
sewn_fails t i d = must_fails _ 11 (Iff.trans (not_fails _) (eqb_holds _ _))

-- ---- 12: sew finds a pairing exactly if there is one

pub pairing_fails : (n : ℕ) (t : List ℕ) (i d e : ℕ) → SidesPassed n t i d e → (pairing_ok n t i d e ≢ pass) ↔ (Pairing n t i d e → ⊥)
unfolding pairing_ok
pairing_fails n t i d e passed = must_fails _ 12 (test_fails _ (paired_exactly (left_side passed) (right_side passed)))

-- ---- 13

-- some g in s has g.1 in s
pub crossing_fails : (t s : List ℕ) → (crossing_ok t s (ones s) ≢ pass) ↔ Crossing t s
unfolding crossing_ok
crossing_fails t s = must_fails _ 13 (Iff.trans (not_fails _) (crosses_some t s))

-- ---- 14 to 17

-- the first k of a list are not k
take_short : {A : Type 0} (k : ℕ) (l : List A) → (length (take k l) ≢ k) ↔ (length l < k)
take_short k l = let h = length-take k l in (λ x. omega arith, λ x y. omega arith)

pub add_room_fails : (n : ℕ) (t : List ℕ) → (add_room_ok n t ≢ pass) ↔ (length (unused_slots t) < cell_size n)
unfolding add_room_ok add_slots
add_room_fails n t = must_fails _ 14 (Iff.trans (eqb_fails _ _) (take_short (cell_size n) (unused_slots t)))

pub new_room_fails : (n : ℕ) (t gs : List ℕ) → (new_room_ok n t gs ≢ pass) ↔ (length (unused_slots t) < n * length gs)
unfolding new_room_ok slots_for
new_room_fails n t gs = must_fails _ 14 (Iff.trans (eqb_fails _ _) (take_short (n * length gs) (unused_slots t)))

pub cells_room_fails : (t : List ℕ) (rows : List (List ℕ)) → (cells_room_ok t rows ≢ pass) ↔ (length (unused_slots t) < darts rows)
unfolding cells_room_ok
cells_room_fails t rows = must_fails _ 14 (leb_fails _ _)

pub record_fails : (tag : ℕ) (t u j : List ℕ)
    → (record_ok tag t u j ≢ pass) ↔ (length j - cursor j < length (record_of tag (changes_from 0 t u)))
unfolding record_ok
record_fails tag t u j = must_fails _ 15 (leb_fails _ _)

pub undo_fails : (j : List ℕ) → (undo_ok j ≢ pass) ↔ (cursor j ≡ 2)
unfolding undo_ok
undo_fails j = must_fails _ 16 (Iff.trans (not_fails _) (eqb_holds _ 2))

pub redo_fails : (j : List ℕ) → (redo_ok j ≢ pass) ↔ (cursor j ≡ end j)
unfolding redo_ok
redo_fails j = must_fails _ 16 (Iff.trans (not_fails _) (eqb_holds _ _))

pub step_fails : (redo : Bool) (n : ℕ) (t j : List ℕ) (a k : ℕ) → Dim n → (step_ok redo n t j a k ≢ pass) ↔ StepFails redo n t j a k
unfolding step_ok
step_fails redo n t j a k dim =
    let u = put redo (changes_at j a k) t in
    must_fails _ 17 (Iff.trans (and_fails (unbroken redo t j a k) (is_map n u))
    (one_of (unbroken_exactly redo t j a k) (test_fails (is_map n u) (map_of n u dim.1, of_map n u))))

-- ---- 18 to 23, of a table and of what a text gives

pub empty_fails : (t : List ℕ) → (empty_ok t ≢ pass) ↔ ((d : ℕ) × (d < slots t) × (live t d ≡ true))
unfolding empty_ok
empty_fails t = must_fails _ 18 (empty_false t)

form_none_fails : (g : Option Grid) → (form_ok g ≢ pass) ↔ (g ≡ none)
unfolding form_ok
form_none_fails none = (λ h. refl, λ e h. not_pass h)
form_none_fails (some g) = (λ h. absurd (h refl), λ e. absurd (let z : ◌≡◌ {A = ℕ} 0 1 = cc in omega arith))

pub form_fails : (text : List ℕ) → (form_ok (grid_of text) ≢ pass) ↔ ((g : Grid) → OfForm text g → ⊥)
form_fails text = Iff.trans (form_none_fails (grid_of text)) (form_none text)

pub types_fails : (types : List ℕ) → (types_ok types ≢ pass) ↔ OtherType types
unfolding types_ok
types_fails types = must_fails _ 20 (types_false types)

module _ (rows : List (List ℕ)) where
  pub vertices_fails : (vertices_ok rows ≢ pass) ↔ Repeated rows
  unfolding vertices_ok
  vertices_fails = must_fails _ 21 (vertices_false rows)

  pub sharing_fails : (sharing_ok rows ≢ pass) ↔ ThreeCells rows
  unfolding sharing_ok
  sharing_fails = must_fails _ 22 (sharing_false rows)

  pub order_fails : (order_ok rows ≢ pass) ↔ OtherCycle rows
  unfolding order_ok
  order_fails = must_fails _ 23 (order_false rows)

-- ---- 28 to 32, of the wall with the marks m

pub drawn_fails : (t m : List ℕ) → (drawn_ok t m ≢ pass) ↔ ((d : ℕ) × (d < slots t) × BadMark t m d)
unfolding drawn_ok
drawn_fails t m = must_fails _ 28 (drawn_false t m)

module _ (n : ℕ) (t m : List ℕ) where
  pub enclosed_fails : (enclosed_ok n t m ≢ pass) ↔ (((h : ℕ) → Marked m h → ⊥) ⊎ ((h : ℕ) × Marked m h × Leaves n t m h))
  unfolding enclosed_ok
  enclosed_fails = must_fails _ 29 (enclosed_false n t m)

  pub sewn_wall_fails : (sewn_wall_ok n t m ≢ pass) ↔ ((h : ℕ) × Marked m h × (link t n h ≡ h))
  unfolding sewn_wall_ok
  sewn_wall_fails = must_fails _ 30 (sewn_wall_false n t m)

  pub turns_fails : Drawn n t m → (turns_ok n t m ≢ pass) ↔ ((h : ℕ) × Marked m h × (Needed n t m h → ⊥))
  unfolding turns_ok
  turns_fails drawn = must_fails _ 31 (turns_false n t m drawn)

  pub connected_fails : (connected_ok n t m ≢ pass) ↔ ((h : ℕ) × Marked m h × (Marked (wall_reached n t m) h → ⊥))
  unfolding connected_ok
  connected_fails = must_fails _ 32 (connected_false n t m)
