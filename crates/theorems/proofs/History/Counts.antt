-- Counts are sizes. Of sew, unsew, undo and redo: the entries that changed, one at least (`sew_count`, ..). Of orbit and
-- sheet: the darts of the set. Of add, remove, split, insert and a read text: the darts of the new cell, of the removed cells, the new darts.
-- `op_changes_some`: an accepted operation changes an entry.
use Prim.Native.Nat.{ℕ, zero, suc, ◌+◌, ◌*◌, ◌<◌}
use mathlib.Core.Path.{◌≡◌, refl, sym, ap, ◌∙◌}
use mathlib.Core.Bool.{Bool, true, false}
use mathlib.Core.List.{List}
use native.Mathlib.Omega.{arith}
use lib.ListN.{length, drop}
use Rattle.model.specs.Lists.{count}
use Rattle.model.specs.Cell.{cell_size, is_block}
use Rattle.model.specs.Orbit.{orbit}
use Rattle.model.specs.Sheet.{sheet}
use Rattle.model.specs.Remove.{count_marked}
use Rattle.model.specs.Vtk.{grid_of, rows_in}
use Rattle.model.specs.Faces.{darts}
use Rattle.model.specs.Journal.{changes_from, changes_at, read_changes, put, unbroken}
use Rattle.model.specs.Checks.{step_checks, undo_ok, redo_ok}
use Rattle.model.specs.Calls.{Outcome}
use Rattle.model.specs.Runs.{Op, Call, do_call, effect}
use Rattle.model.specs.Meaning.Ends.{Passed, done, CountsChanges, Counted, checks_of, done_of}
use Rattle.theorems.proofs.Sets.Sizes.{length_ones}
use Rattle.theorems.proofs.Calls.Checks.{passed_at, passed_append}
use Rattle.theorems.proofs.Calls.Pass.{step_pass}
use Rattle.theorems.proofs.Calls.Ends.{call_passed, call_done, op_accepted}
use Rattle.theorems.proofs.History.Record.{changes_some}
use Rattle.theorems.proofs.History.Sound.{sound_changes}
use Rattle.theorems.proofs.History.Broken.{unbroken_whole}
use Rattle.theorems.proofs.History.Ops.{effect_length, op_changes}

-- ---- operations

pub effect_changes_some : (n : ℕ) (t m j : List ℕ) (p : Op) → Passed n t m j p → 0 < length (changes_from 0 t (effect n t p))
effect_changes_some n t m j p passed = changes_some t (effect n t p) (sym (effect_length n t p)) (op_changes n t m j p passed)

module _ (n : ℕ) (o : Outcome) where
  pub op_changes_some : (tag : ℕ) (p : Op) → (do_call n o (Call.op tag p)).number ≡ 0
      → 0 < length (changes_from 0 o.table (do_call n o (Call.op tag p)).table)
  op_changes_some tag p h =
      let r = op_accepted n o tag p h in
      rw r.table (effect_changes_some n o.table o.marks o.journal p r.passed)

  op_counted : (tag : ℕ) (p : Op)
      → (done n o (Call.op tag p)).count ≡ length (changes_from 0 o.table (done n o (Call.op tag p)).table)
      → Counted n o (Call.op tag p)
  op_counted tag p e h =
      let is = call_done n o (Call.op tag p) h in
      let changes : Outcome → ℕ = λ r. length (changes_from 0 o.table r.table) in
      let size = ap (λ (r : Outcome). r.count) is ∙ e ∙ sym (ap changes is) in
      record { size = size; some = rw size (op_changes_some tag p h) }

  pub sew_count : (tag i d e : ℕ) → Counted n o (Call.op tag (Op.sew i d e))
  unfolding done_of
  sew_count tag i d e = op_counted tag (Op.sew i d e) refl

  pub unsew_count : (tag i d : ℕ) → Counted n o (Call.op tag (Op.unsew i d))
  unfolding done_of
  unsew_count tag i d = op_counted tag (Op.unsew i d) refl

-- ---- undo and redo

length_read : (k : ℕ) (ws : List ℕ) → length (read_changes k ws) ≡ k
unfolding read_changes
length_read zero ws = refl
length_read (suc k) ws = ap suc (length_read k (drop 3 ws))

-- an unbroken record has a change, and its changes are sound
module _ (redo : Bool) (t j : List ℕ) (a k : ℕ) (holds : unbroken redo t j a k ≡ true) where
  unbroken_counts : CountsChanges t (put redo (changes_at j a k) t) k
  unfolding changes_at
  unbroken_counts =
      let whole = unbroken_whole holds in
      let some = whole.some in
      record { size = sym (sound_changes redo t (changes_at j a k) whole.sounds ∙ length_read k _); some = omega arith }

module _ (n : ℕ) (o : Outcome) where
  pub undo_count_lem : Counted n o Call.undo
  unfolding checks_of done_of
  undo_count_lem h =
      let q = passed_append (step_checks n o.table o.journal (undo_ok o.journal)) _ (call_passed n o Call.undo h) in
      let whole = (step_pass false n o.table o.journal _ _ (passed_at _ q.1 0)).0 in
      rw (call_done n o Call.undo h) (unbroken_counts false o.table o.journal _ _ whole)

  pub redo_count_lem : Counted n o Call.redo
  unfolding checks_of done_of
  redo_count_lem h =
      let q = passed_append (step_checks n o.table o.journal (redo_ok o.journal)) _ (call_passed n o Call.redo h) in
      let whole = (step_pass true n o.table o.journal _ _ (passed_at _ q.1 0)).0 in
      rw (call_done n o Call.redo h) (unbroken_counts true o.table o.journal _ _ whole)

-- ---- sets of darts

module _ (n : ℕ) (o : Outcome) where
  -- "count 1 for a map, 2 for a block map"
  pub check_count : (do_call n o Call.check).number ≡ 0
      → (is_block n o.table ≡ true → (do_call n o Call.check).count ≡ 2)
      × (is_block n o.table ≡ false → (do_call n o Call.check).count ≡ 1)
  unfolding done_of
  check_count h =
      let is = ap (λ (r : Outcome). r.count) (call_done n o Call.check h) in
      (λ b. is ∙ rw b, λ b. is ∙ rw b)

  -- "Count: darts reached"
  pub orbit_count : (mask d : ℕ) → (do_call n o (Call.orbit mask d)).number ≡ 0
      → (do_call n o (Call.orbit mask d)).count ≡ count 1 (orbit n o.table mask d)
  unfolding done_of
  orbit_count mask d h = ap (λ (r : Outcome). r.count) (call_done n o (Call.orbit mask d) h)

  -- "Count: size of S"
  pub sheet_count : (d : ℕ) → (do_call n o (Call.sheet d)).number ≡ 0
      → (do_call n o (Call.sheet d)).count ≡ count 1 (sheet n o.table d)
  unfolding done_of
  sheet_count d h = ap (λ (r : Outcome). r.count) (call_done n o (Call.sheet d) h)

  -- "Count: 8 or 48"
  pub add_count : (tag : ℕ) → (do_call n o (Call.op tag Op.add)).number ≡ 0 → (do_call n o (Call.op tag Op.add)).count ≡ cell_size n
  unfolding done_of
  add_count tag h = ap (λ (r : Outcome). r.count) (call_done n o (Call.op tag Op.add) h)

  -- "Count: darts removed": those with marks 1 or 2
  pub remove_count : (tag d : ℕ) → (do_call n o (Call.op tag (Op.remove d))).number ≡ 0
      → (do_call n o (Call.op tag (Op.remove d))).count
      ≡ count 1 (do_call n o (Call.op tag (Op.remove d))).marks + count 2 (do_call n o (Call.op tag (Op.remove d))).marks
  unfolding done_of count_marked
  remove_count tag d h = rw (call_done n o (Call.op tag (Op.remove d)) h)

  -- "Count: darts added": n for each dart of S
  pub split_count : (tag d : ℕ) → (do_call n o (Call.op tag (Op.split d))).number ≡ 0
      → (do_call n o (Call.op tag (Op.split d))).count ≡ n * count 1 (sheet n o.table d)
  unfolding done_of
  split_count tag d h =
      rw (call_done n o (Call.op tag (Op.split d)) h) (ap (λ (k : ℕ). n * k) (length_ones (sheet n o.table d) 0))

  -- "count: darts added" (02, R-5): n for each dart of the wall
  pub insert_count : (tag : ℕ) (w : List ℕ) → (do_call n o (Call.op tag (Op.insert w))).number ≡ 0
      → (do_call n o (Call.op tag (Op.insert w))).count ≡ n * count 1 w
  unfolding done_of
  insert_count tag w h = rw (call_done n o (Call.op tag (Op.insert w)) h) (ap (λ (k : ℕ). n * k) (length_ones w 0))

  -- "count: darts added" (02, R-1): 48 for each cell of the text
  pub vtk_count : (tag : ℕ) (text : List ℕ) → (do_call n o (Call.op tag (Op.vtk text))).number ≡ 0
      → (do_call n o (Call.op tag (Op.vtk text))).count ≡ 48 * length (rows_in (grid_of text))
  unfolding done_of darts
  vtk_count tag text h = ap (λ (r : Outcome). r.count) (call_done n o (Call.op tag (Op.vtk text)) h)
