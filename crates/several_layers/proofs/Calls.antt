-- Sheets as classes, and the order of two removals, of the calls. `sheet_calls_ones`: two accepted sheet calls leave equal marks 1 exactly
-- if each seed is in the other's sheet; their marks tell that (`sheet_calls_told`), and whether the sheets share a cell
-- (`sheet_calls_share`). When one of two sheets that share no cell is removed, sheet and remove of the other answer as before
-- (`remove_then_sheet`, `remove_then_count`). `remove_calls_order`: removed in either order they leave equal tables.
use Prim.Native.Nat.{ℕ}
use mathlib.Core.Path.{◌≡◌, sym, ap, ◌∙◌}
use mathlib.Core.Logic.{◌↔◌}
use mathlib.Core.List.{List, [], ◌∷◌}
use lib.ListN.{get_or}
use Rattle.model.specs.Lists.{index_of, count, how_many}
use Rattle.model.specs.Table.{slots}
use Rattle.model.specs.Sheet.{sheet}
use Rattle.model.specs.Remove.{marked, remove_table}
use Rattle.model.specs.Checks.{map_checks, sheet_checks}
use Rattle.model.specs.Calls.{Outcome, sheet_call, remove_call}
use Rattle.model.specs.Runs.{Op, Call, do_call, keeping, effect}
use Rattle.model.specs.Meaning.Ends.{lent, numbers, checks_of, done_of}
use Rattle.model.specs.Meaning.Sheets.{BlockDart, marks_of}
use Rattle.theorems.proofs.Layers.Counts.{how_many_same}
use Rattle.theorems.proofs.Layers.Marks.{marks_one, sheet_layer}
use Rattle.theorems.proofs.Layers.Remove.{layer_slots_lem, remove_removes}
use Rattle.theorems.proofs.Layers.RemoveCounts.{removed_number}
use Rattle.theorems.proofs.Calls.Checks.{passed_number}
use Rattle.theorems.proofs.Calls.Pass.{rules_pass, block_table_of, dart_pass, layer_passed}
use Rattle.theorems.proofs.Calls.Ends.{call_passed, call_done, op_effect}
use Rattle.theorems.proofs.Calls.Untouched.{sheet_marks_lem}
use Rattle.theorems.proofs.History.Counts.{sheet_count}
use Rattle.several_layers.specs.Classes.{SameMark, SameOnes, InEachOther}
use Rattle.several_layers.specs.Removals.{ShareNoCell, Disjoint, remove_each, RemovedInTurn, finished, accepted}
use Rattle.several_layers.proofs.Classes.{ones_exactly}
use Rattle.several_layers.proofs.Apart.{share_exactly, sheet_kept, marks_kept, marked_kept, remove_order}

-- ---- what an accepted call has passed, and leaves

module _ (n : ℕ) (t m : List ℕ) (d : ℕ) (passed : (sheet_call n t m d).number ≡ 0) where
  sheet_dart : BlockDart n t d
  unfolding do_call keeping checks_of sheet_checks map_checks index_of
  sheet_dart =
      let q = passed_number (numbers (Call.sheet d)) (sheet_checks n t m d) (call_passed n (lent t m []) (Call.sheet d) passed) in
      record {
        table = block_table_of n t (q 1) (q 2) (rules_pass n t (q 5) (q 24) (q 25) (q 26)) (q 8);
        lives = dart_pass t d (q 7);
      }

  sheet_leaves : (sheet_call n t m d).marks ≡ marks_of n t d
  unfolding do_call keeping
  sheet_leaves = sheet_marks_lem n (lent t m []) d passed

  sheet_counts : (sheet_call n t m d).count ≡ count 1 (sheet n t d)
  unfolding do_call keeping
  sheet_counts = sheet_count n (lent t m []) d passed

module _ (n : ℕ) (t m j : List ℕ) (tag d : ℕ) (passed : (remove_call n t m j tag d).number ≡ 0) where
  pub remove_dart : BlockDart n t d
  unfolding do_call
  remove_dart = layer_passed n t j m d (op_effect n (lent t m j) tag (Op.remove d) passed).0

  remove_leaves : (remove_call n t m j tag d).table ≡ remove_table n t d
  unfolding do_call effect
  remove_leaves = (op_effect n (lent t m j) tag (Op.remove d) passed).1

  remove_counts : (remove_call n t m j tag d).count ≡ how_many (slots t) (marked (marks_of n t d))
  unfolding do_call done_of
  remove_counts =
      ap (λ (r : Outcome). r.count) (call_done n (lent t m j) (Call.op tag (Op.remove d)) passed) ∙ removed_number remove_dart

-- ---- two seeds

module _ (n : ℕ) (t m k : List ℕ) (d e : ℕ) (first : (sheet_call n t m d).number ≡ 0) (second : (sheet_call n t k e).number ≡ 0) where
  -- "two seeds get equal marks 1 exactly if each is in the other's sheet"
  pub sheet_calls_ones : SameOnes (sheet_call n t m d).marks (sheet_call n t k e).marks ↔ InEachOther n t d e
  sheet_calls_ones =
      rw (sheet_leaves n t m d first, sheet_leaves n t k e second)
      (ones_exactly (sheet_dart n t m d first) (sheet_dart n t k e second))

  -- each is in the other's sheet exactly if each has the mark 1 in what the other's call leaves
  pub sheet_calls_told : InEachOther n t d e ↔ ((get_or (sheet_call n t m d).marks e 0 ≡ 1) × (get_or (sheet_call n t k e).marks d 0 ≡ 1))
  sheet_calls_told =
      let D = sheet_dart n t m d first in
      let E = sheet_dart n t k e second in
      rw (sheet_leaves n t m d first, sheet_leaves n t k e second) (
        λ (h, q). ((marks_one D e).1 h, (marks_one E d).1 q),
        λ (h, q). ((marks_one D e).0 h, (marks_one E d).0 q),
      )

  -- the sheets share no cell exactly if no dart has a mark 1 or 2 of both calls
  pub sheet_calls_share : ShareNoCell n t d e ↔ Disjoint (sheet_call n t m d).marks (sheet_call n t k e).marks
  sheet_calls_share =
      rw (sheet_leaves n t m d first, sheet_leaves n t k e second)
      (share_exactly (sheet_dart n t m d first) (sheet_dart n t k e second))

-- ---- after the removal of d

module _ (n : ℕ) (t m j : List ℕ) (tag d e : ℕ) (apart : ShareNoCell n t d e) (passed : (remove_call n t m j tag d).number ≡ 0) where
  abbrev u : List ℕ
  u = (remove_call n t m j tag d).table

  D : BlockDart n t d
  D = remove_dart n t m j tag d passed

  is : u ≡ remove_table n t d
  is = remove_leaves n t m j tag d passed

  -- sheet of e has its marks 1 and 2 where it had them, and counts as many
  pub remove_then_sheet : (k l : List ℕ) → (sheet_call n t k e).number ≡ 0 → (sheet_call n u l e).number ≡ 0
      → SameMark 1 (sheet_call n u l e).marks (sheet_call n t k e).marks
      × SameMark 2 (sheet_call n u l e).marks (sheet_call n t k e).marks
      × ((sheet_call n u l e).count ≡ (sheet_call n t k e).count)
  remove_then_sheet k l q r =
      let E = sheet_dart n t k e q in
      let counts = ap (count 1) (sheet_kept D E apart) in
      let kept = marks_kept D E apart in
      rw (sheet_leaves n u l e r, sheet_leaves n t k e q, sheet_counts n u l e r, sheet_counts n t k e q, is)
      (kept.0, kept.1, counts)

  -- remove of e takes as many darts as before
  pub remove_then_count : (k i : List ℕ) (a : ℕ) (l h : List ℕ) (b : ℕ) → (remove_call n t k i a e).number ≡ 0
      → (remove_call n u l h b e).number ≡ 0 → (remove_call n u l h b e).count ≡ (remove_call n t k i a e).count
  remove_then_count k i a l h b q r =
      let E = remove_dart n t k i a e q in
      let long = layer_slots_lem (sheet_layer D) (remove_removes D) in
      remove_counts n u l h b e r
      ∙ ap (λ (v : List ℕ). how_many (slots v) (marked (marks_of n v e))) is
      ∙ ap (λ (s : ℕ). how_many s (marked (marks_of n (remove_table n t d) e))) long
      ∙ how_many_same (slots t) _ _ (λ x _. marked_kept D E apart x) ∙ sym (remove_counts n t k i a e q)

-- ---- removals in turn

pub first_dart_lem : {n : ℕ} {t ds u : List ℕ} {d : ℕ} → RemovedInTurn n t (d ∷ ds) u → BlockDart n t d
first_dart_lem {n} {t} (accepted {d = d} m j tag h rest) = remove_dart n t m j tag d h

-- accepted removals leave what their effects leave, one after the other
pub turn_leaves : {n : ℕ} {t ds u : List ℕ} → RemovedInTurn n t ds u → remove_each n t ds ≡ u
unfolding remove_each
turn_leaves (finished e) = e
turn_leaves {n} {t} (accepted {d = d} {ds = ds} m j tag h rest) =
    ap (λ (s : List ℕ). remove_each n s ds) (sym (remove_leaves n t m j tag d h)) ∙ turn_leaves rest

-- "Two sheets that share no cell, removed in either order, leave equal tables, where all four removals are accepted."
pub remove_calls_order : {n : ℕ} {t : List ℕ} {d e : ℕ} {u v : List ℕ} → ShareNoCell n t d e
    → RemovedInTurn n t (d ∷ e ∷ []) u → RemovedInTurn n t (e ∷ d ∷ []) v → u ≡ v
unfolding remove_each
remove_calls_order apart p q = sym (turn_leaves p) ∙ remove_order (first_dart_lem p) (first_dart_lem q) apart ∙ turn_leaves q
