-- What calls write into the journal. `op_recorded`: an accepted operation writes its record at the cursor, cursor and end
-- go behind it, and other words stay. `undo_words`, `redo_words`: undo and redo change only the cursor word. `undo_record_tag`,
-- `redo_record_tag`: they give the tag of their record.
use Prim.Native.Nat.{ℕ, ◌+◌, ◌-◌, ◌≤◌, ◌<◌}
use mathlib.Core.Path.{◌≡◌, refl, ap, ◌∙◌}
use mathlib.Core.List.{List, ◌++◌}
use native.Mathlib.Omega.{arith}
use lib.ListN.{length, get_or, set, take, drop, length-append, length-drop, length-set, get_or-append}
use lib.Seq.{length-take-le, get_or-append-add, get_or-take, get_or-drop, get_or-set_same, get_or-set_other}
use Rattle.model.specs.Lists.{index_of}
use Rattle.model.specs.Journal.{cursor, end, record_length, written, tag_at}
use Rattle.model.specs.Checks.{pass, journal_ok, in_order, add_checks, sides_checks, unsew_checks, layer_checks}
use Rattle.model.specs.Checks.{insert_checks, vtk_checks, step_checks}
use Rattle.model.specs.Calls.{Outcome}
use Rattle.model.specs.Runs.{Op, Call, do_call}
use Rattle.model.specs.Meaning.Ends.{checks, op_numbers, numbers, undo_start, done, record_made, Recorded, CursorMoved, checks_of, done_of}
use Rattle.model.specs.Meaning.Numbers.{JournalRule}
use Rattle.theorems.proofs.Lists.Scan.{if_eq}
use Rattle.theorems.proofs.Calls.Checks.{passed_number}
use Rattle.theorems.proofs.Calls.Pass.{journal_pass}
use Rattle.theorems.proofs.Calls.Ends.{call_passed, call_done, op_accepted}
use Rattle.theorems.proofs.Calls.Untouched.{call_untouched}

-- ---- words written over others

module _ (j r : List ℕ) (c : ℕ) (fits : c + length r ≤ length j) where
  abbrev overwritten : List ℕ
  overwritten = take c j ++ r ++ drop (c + length r) j

  front_length : length (take c j) ≡ c
  front_length = length-take-le c j (omega arith)

  head_length : length (take c j ++ r) ≡ c + length r
  head_length = let a = length-append (take c j) r in let b = front_length in omega arith

  overwritten_length : length overwritten ≡ length j
  overwritten_length =
      let a = length-append (take c j ++ r) (drop (c + length r) j) in
      let b = head_length in
      let d = length-drop (c + length r) j in
      omega arith

  overwritten_before : (x : ℕ) → x < c → get_or overwritten x 0 ≡ get_or j x 0
  overwritten_before x h =
      let a = front_length in
      let b = head_length in
      get_or-append (take c j ++ r) _ 0 x (omega arith) ∙ get_or-append (take c j) r 0 x (omega arith) ∙ get_or-take c j x 0 h

  overwritten_words : (x : ℕ) → x < length r → get_or overwritten (c + x) 0 ≡ get_or r x 0
  overwritten_words x h =
      let a = front_length in
      let b = head_length in
      let at : c + x ≡ length (take c j) + x = omega arith in
      get_or-append (take c j ++ r) _ 0 (c + x) (omega arith)
      ∙ ap (λ (k : ℕ). get_or (take c j ++ r) k 0) at ∙ get_or-append-add (take c j) r x 0

  overwritten_behind : (x : ℕ) → c + length r ≤ x → get_or overwritten x 0 ≡ get_or j x 0
  overwritten_behind x h =
      let b = head_length in
      let e = c + length r in
      let at : x ≡ length (take c j ++ r) + (x - e) = omega arith in
      let back : e + (x - e) ≡ x = omega arith in
      ap (λ (k : ℕ). get_or overwritten k 0) at ∙ get_or-append-add (take c j ++ r) (drop e j) (x - e) 0
      ∙ get_or-drop e j (x - e) 0 ∙ ap (λ (k : ℕ). get_or j k 0) back

-- ---- an operation

-- a record that has room is written
module _ (j r : List ℕ) (rule : JournalRule j) (room : length r ≤ length j - cursor j) where
  fits : cursor j + length r ≤ length j
  fits = let a = rule.ends in let b = rule.within in omega arith

  word_stays : (x : ℕ) → 2 ≤ x → get_or (written j r) x 0 ≡ get_or (overwritten j r (cursor j) fits) x 0
  unfolding written
  word_stays x h =
      get_or-set_other (set (overwritten j r (cursor j) fits) 0 _) 1 x _ 0 (λ q. omega arith)
      ∙ get_or-set_other (overwritten j r (cursor j) fits) 0 x _ 0 (λ q. omega arith)

  written_recorded : Recorded r j (written j r)
  unfolding written cursor end
  written_recorded =
      let e = cursor j + length r in
      let words = overwritten j r (cursor j) fits in
      let long = overwritten_length j r (cursor j) fits in
      let low = rule.low in
      let two = rule.long in
      record {
        long = length-set (set words 0 e) 1 e ∙ length-set words 0 e ∙ long;
        at_cursor = get_or-set_other (set words 0 e) 1 0 e 0 (λ q. omega arith) ∙ get_or-set_same words 0 e 0 (omega arith);
        at_end = get_or-set_same (set words 0 e) 1 e 0 (let l = length-set words 0 e in omega arith);
        words = λ x h. word_stays (cursor j + x) (omega arith) ∙ overwritten_words j r (cursor j) fits x h;
        before = λ x h k. word_stays x h ∙ overwritten_before j r (cursor j) fits x k;
        behind = λ x h. word_stays x (omega arith) ∙ overwritten_behind j r (cursor j) fits x h;
      }

-- the check 4 has passed
op_journal : (n : ℕ) (o : Outcome) (tag : ℕ) (p : Op) → in_order (checks n o (Call.op tag p)) ≡ pass
    → journal_ok o.journal ≡ pass
unfolding checks_of index_of add_checks sides_checks unsew_checks layer_checks insert_checks vtk_checks
op_journal n o tag p h = journal p (passed_number (op_numbers p) (checks n o (Call.op tag p)) h 4)
  where
    journal : (p : Op) → get_or (checks n o (Call.op tag p)) (index_of 4 (op_numbers p)) pass ≡ pass
        → journal_ok o.journal ≡ pass
    journal Op.add q = q
    journal (Op.sew i d e) q = q
    journal (Op.unsew i d) q = q
    journal (Op.remove d) q = q
    journal (Op.split d) q = q
    journal (Op.insert w) q = q
    journal (Op.vtk text) q = q

module _ (n : ℕ) (o : Outcome) (tag : ℕ) (p : Op) (accepted : (do_call n o (Call.op tag p)).number ≡ 0) where
  pub op_written : (do_call n o (Call.op tag p)).journal ≡ written o.journal (record_made n o tag p)
  op_written = let r = op_accepted n o tag p accepted in rw r.table r.journal

  pub op_recorded : Recorded (record_made n o tag p) o.journal (do_call n o (Call.op tag p)).journal
  op_recorded =
      let r = op_accepted n o tag p accepted in
      let rule = journal_pass o.journal (op_journal n o tag p (call_passed n o (Call.op tag p) accepted)) in
      rw (r.table, r.journal) (written_recorded o.journal _ rule r.room)

-- ---- undo and redo

cursor_to : (j : List ℕ) (x : ℕ) → journal_ok j ≡ pass → cursor (set j 0 x) ≡ x
unfolding cursor
cursor_to j x h = let two = (journal_pass j h).long in get_or-set_same j 0 x 0 (omega arith)

module _ (n : ℕ) (o : Outcome) where
  cursor_set : (c : Call) (x : ℕ) → (done n o c).journal ≡ set o.journal 0 x → CursorMoved o.journal (do_call n o c).journal
  cursor_set c x e = if_eq (do_call n o c).number 0
      (λ h. rw (ap (λ (r : Outcome). r.journal) (call_done n o c h) ∙ e) (record {
        long = length-set o.journal 0 x;
        words = λ y q. get_or-set_other o.journal 0 y x 0 q;
      }))
      (λ h. rw (call_untouched n o c h).journal (record { long = refl; words = λ y q. refl }))

  pub undo_words : CursorMoved o.journal (do_call n o Call.undo).journal
  unfolding done_of
  undo_words = cursor_set Call.undo _ refl

  pub redo_words : CursorMoved o.journal (do_call n o Call.redo).journal
  unfolding done_of
  redo_words = cursor_set Call.redo _ refl

  -- the cursor goes to the beginning of the record that was undone ..
  pub undo_cursor : (do_call n o Call.undo).number ≡ 0
      → cursor (do_call n o Call.undo).journal ≡ cursor o.journal - record_length (do_call n o Call.undo).count
  unfolding done_of checks_of step_checks index_of
  undo_cursor h =
      let ok = passed_number (numbers Call.undo) (checks n o Call.undo) (call_passed n o Call.undo h) 4 in
      rw (call_done n o Call.undo h) (cursor_to o.journal _ ok)

  -- .. and behind the one that was redone
  pub redo_cursor : (do_call n o Call.redo).number ≡ 0
      → cursor (do_call n o Call.redo).journal ≡ cursor o.journal + record_length (do_call n o Call.redo).count
  unfolding done_of checks_of step_checks index_of
  redo_cursor h =
      let ok = passed_number (numbers Call.redo) (checks n o Call.redo) (call_passed n o Call.redo h) 4 in
      rw (call_done n o Call.redo h) (cursor_to o.journal _ ok)

  -- the place is the tag of the record: the word behind its first count
  pub undo_record_tag : (do_call n o Call.undo).number ≡ 0
      → (do_call n o Call.undo).place ≡ tag_at o.journal (undo_start o.journal)
  unfolding done_of
  undo_record_tag h = ap (λ (r : Outcome). r.place) (call_done n o Call.undo h)

  pub redo_record_tag : (do_call n o Call.redo).number ≡ 0
      → (do_call n o Call.redo).place ≡ tag_at o.journal (cursor o.journal)
  unfolding done_of
  redo_record_tag h = ap (λ (r : Outcome). r.place) (call_done n o Call.redo h)
