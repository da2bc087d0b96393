-- What an accepted call makes of a map is a map; what add, remove, split and insert make of a block map is a block map, and so is what
-- the cells of a text make.
use Prim.Native.Nat.{ℕ, ◌≤◌}
use mathlib.Core.Path.{◌≡◌, sym, ap, ◌∙◌, subst}
use mathlib.Core.Bool.{true, false}
use mathlib.Core.List.{List, []}
use Rattle.model.specs.Lists.{ones}
use Rattle.model.specs.Table.{live}
use Rattle.model.specs.Map.{is_map}
use Rattle.model.specs.Cell.{cell_size}
use Rattle.model.specs.Sheet.{sheet}
use Rattle.model.specs.Add.{add_slots, add_table}
use Rattle.model.specs.Sew.{is_paired, sew_table, unsew_table}
use Rattle.model.specs.Split.{split_table}
use Rattle.model.specs.Vtk.{grid_of, rows_in}
use Rattle.model.specs.Faces.{vtk_table}
use Rattle.model.specs.Checks.{step_checks, undo_ok, redo_ok}
use Rattle.model.specs.Calls.{Outcome, add_call, sew_call, unsew_call, remove_call, split_call, insert_call, vtk_call}
use Rattle.model.specs.Calls.{undo_call, redo_call}
use Rattle.model.specs.Runs.{Op, Call, do_call, keeping, effect}
use Rattle.model.specs.Meaning.Ends.{lent, checks_of, done_of}
use Rattle.model.specs.Meaning.Maps.{MapTable, Straight, BlockTable, Keeps, KeepsAt, BlockMap}
use Rattle.model.specs.Meaning.Pairings.{OnSide, Sewable}
use Rattle.theorems.proofs.Lists.Ones.{vacant_frees}
use Rattle.theorems.proofs.Maps.Rules.{of_map}
use Rattle.theorems.proofs.Cells.Exact.{block_of, of_block}
use Rattle.theorems.proofs.Cells.Chart.{block_straight, relink_block}
use Rattle.theorems.proofs.Cells.Add.{add_map, add_block}
use Rattle.theorems.proofs.Operations.Relink.{Relinked, relinked_table}
use Rattle.theorems.proofs.Sewing.Sew.{sew_relinked}
use Rattle.theorems.proofs.Sewing.Unsew.{unsew_relinked}
use Rattle.theorems.proofs.Sewing.Straight.{sew_straight, unsew_straight}
use Rattle.theorems.proofs.Layers.Remove.{remove_block}
use Rattle.theorems.proofs.Layers.Splitting.{splits_splitting}
use Rattle.theorems.proofs.Layers.SplitBlock.{split_block}
use Rattle.theorems.proofs.Insert.Inserted.{insert_keeps}
use Rattle.theorems.proofs.Calls.Checks.{passed_at, passed_append}
use Rattle.theorems.proofs.Calls.Pass.{step_pass, SidesPassed, unsew_side, sides_sewable}
use Rattle.theorems.proofs.Calls.Pass.{add_passed, unsew_passed, sew_passed, layer_passed, split_passed, insert_passed}
use Rattle.theorems.proofs.Calls.Ends.{call_passed, call_done, op_effect}
use Rattle.theorems.proofs.Vtk.Passed.{vtk_passed}
use Rattle.theorems.proofs.Vtk.Table.{read_map_test, read_block_test}

-- ---- add

module _ (n : ℕ) (t j : List ℕ) (tag : ℕ) where
  pub add_call_lem : (add_call n t j tag).number ≡ 0 → Keeps n t (add_call n t j tag).table
  unfolding do_call keeping effect add_table add_slots
  add_call_lem h =
      let r = op_effect n (lent t [] j) tag Op.add h in
      let passed = add_passed n t j r.0 in
      let T = passed.table in
      let fresh = vacant_frees t (cell_size n) in
      rw r.1 (
        of_map n (add_table n t) (add_map T fresh passed.room),
        λ b. of_block n (add_table n t) (add_block (block_of n t T b) fresh passed.room),
      )

-- ---- unsew, sew

-- a live dart of t whose side is not folded has none folded in u
abbrev StayStraight : ℕ → List ℕ → List ℕ → Type 0
StayStraight n t u = (x : ℕ) → live t x ≡ true → Straight n t x → Straight n u x

-- the links i are made anew
keeps_at_lem : {n : ℕ} {t u : List ℕ} {i : ℕ} → MapTable n t → i ≤ n → Relinked n t i u → (i ≡ n → StayStraight n t u) → KeepsAt i n t u
keeps_at_lem {n} {t} {u} {i} T low made straight = (
  of_map n u (relinked_table T low made).map,
  λ e h.
      let B = block_of n t T h in
      of_block n u (relinked_block B (subst (λ (k : ℕ). Relinked n t k u) e made) (λ x l. straight e x l (block_straight B x l))),
)
  where
    relinked_block : BlockTable n t → Relinked n t n u → ((x : ℕ) → live t x ≡ true → Straight n u x) → BlockTable n u
    relinked_block B made straight = subst (BlockTable n) (sym made.is)
        (relink_block B made.change (λ x l. subst (λ (v : List ℕ). Straight n v x) made.is (straight x l)))

module _ (n : ℕ) (t j : List ℕ) (tag i d : ℕ) where
  pub unsew_call_lem : (unsew_call n t j tag i d).number ≡ 0 → KeepsAt i n t (unsew_call n t j tag i d).table
  unfolding do_call keeping effect
  unsew_call_lem h =
      let r = op_effect n (lent t [] j) tag (Op.unsew i d) h in
      let passed = unsew_passed n t j i d r.0 in
      let on = unsew_side passed in
      rw r.1 (keeps_at_lem passed.table passed.index (unsew_relinked on) (λ e.
      subst (λ (k : ℕ). OnSide n t k d → StayStraight n t (unsew_table n t k d)) (sym e) unsew_straight on))

module _ (n : ℕ) (t j : List ℕ) (tag i d e : ℕ) where
  sew_keeps : SidesPassed n t i d e → is_paired n t i d e ≡ true → KeepsAt i n t (sew_table n t i d e)
  sew_keeps passed h =
      let able = sides_sewable passed h in
      keeps_at_lem passed.table passed.index (sew_relinked able) (λ q.
      subst (λ (k : ℕ). Sewable n t k d e → StayStraight n t (sew_table n t k d e)) (sym q) sew_straight able)

  pub sew_call_lem : (sew_call n t j tag i d e).number ≡ 0 → KeepsAt i n t (sew_call n t j tag i d e).table
  unfolding do_call keeping effect
  sew_call_lem h =
      let r = op_effect n (lent t [] j) tag (Op.sew i d e) h in
      let passed = sew_passed n t j i d e r.0 in
      rw r.1 (sew_keeps passed.0 passed.1)

-- ---- remove, split, insert

block_map : (n : ℕ) (u : List ℕ) → BlockTable n u → BlockMap n u
block_map n u U = (of_map n u U.map, of_block n u U)

module _ (n : ℕ) (t m j : List ℕ) (tag d : ℕ) where
  pub remove_call_lem : (remove_call n t m j tag d).number ≡ 0 → BlockMap n (remove_call n t m j tag d).table
  unfolding do_call keeping effect
  remove_call_lem h =
      let r = op_effect n (lent t m j) tag (Op.remove d) h in
      let passed = layer_passed n t j m d r.0 in
      rw r.1 (block_map n _ (remove_block passed))

  pub split_call_lem : (split_call n t m j tag d).number ≡ 0 → BlockMap n (split_call n t m j tag d).table
  unfolding do_call keeping effect split_table
  split_call_lem h =
      let r = op_effect n (lent t m j) tag (Op.split d) h in
      let gs = ones (sheet n t d) in
      let passed = layer_passed n t j m d r.0.0 in
      let split = split_passed n t j (sheet n t d) gs r.0.1 in
      let given = splits_splitting (record { dart = passed; uncrossed = split.uncrossed; room = split.room }) in
      rw r.1 (block_map n _ (split_block given))

pub insert_call_lem : (n : ℕ) (t m j : List ℕ) (tag : ℕ) → (insert_call n t m j tag).number ≡ 0
    → BlockMap n (insert_call n t m j tag).table
unfolding do_call keeping effect
insert_call_lem n t m j tag h =
    let r = op_effect n (lent t m j) tag (Op.insert m) h in
    rw r.1 (block_map n _ (insert_keeps (insert_passed n t j m r.0)))

-- ---- the cells of a text

pub vtk_call_lem : (n : ℕ) (t j : List ℕ) (tag : ℕ) (text : List ℕ) → (vtk_call n t j tag text).number ≡ 0
    → BlockMap n (vtk_call n t j tag text).table
unfolding do_call keeping effect
vtk_call_lem n t j tag text h =
    let r = op_effect n (lent t [] j) tag (Op.vtk text) h in
    let (solid, R) = vtk_passed n t j text r.0 in
    rw r.1 (subst (λ (k : ℕ). BlockMap k (vtk_table t (rows_in (grid_of text)))) (sym solid) (read_map_test R, read_block_test R))

-- ---- undo, redo: what is put back is a map, or it is refused

pub undo_call_lem : (n : ℕ) (t j : List ℕ) → (undo_call n t j).number ≡ 0 → is_map n (undo_call n t j).table ≡ true
unfolding do_call keeping checks_of done_of
undo_call_lem n t j h =
    let o = lent t [] j in
    let q = passed_append (step_checks n t j (undo_ok j)) _ (call_passed n o Call.undo h) in
    ap (λ (r : Outcome). is_map n r.table) (call_done n o Call.undo h) ∙ (step_pass false n t j _ _ (passed_at _ q.1 0)).1

pub redo_call_lem : (n : ℕ) (t j : List ℕ) → (redo_call n t j).number ≡ 0 → is_map n (redo_call n t j).table ≡ true
unfolding do_call keeping checks_of done_of
redo_call_lem n t j h =
    let o = lent t [] j in
    let q = passed_append (step_checks n t j (redo_ok j)) _ (call_passed n o Call.redo h) in
    ap (λ (r : Outcome). is_map n r.table) (call_done n o Call.redo h) ∙ (step_pass true n t j _ _ (passed_at _ q.1 0)).1
