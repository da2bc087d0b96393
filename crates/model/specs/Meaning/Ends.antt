-- How a call ends (`Ends`): its checks in order, with their numbers; what a refusal leaves (`refused_by`); what an accepted
-- call gives (`done`). And what theorems say of that: `Untouched`, `Recorded`, `CursorMoved`, `CountsChanges`.
use Rattle.std.specs.Prelude.{ℕ, ◌+◌, ◌*◌, ◌-◌, ◌≤◌, ◌<◌, ◌≡◌, ◌⊎◌, ◌≢◌, Bool, true, false, ◌&&◌, List, [], ◌∷◌, ◌++◌, length, get_or, set, leb, eqb}
use Rattle.model.specs.Lists.{count, ones}
use Rattle.model.specs.Map.{MapRule, breaking_link, least_breaking, is_map}
use Rattle.model.specs.Cell.{cell_size, is_block, least_wrong}
use Rattle.model.specs.Orbit.{orbit, orbit_place}
use Rattle.model.specs.Sheet.{sheet, sheet_marks}
use Rattle.model.specs.Add.{add_slots, add_table}
use Rattle.model.specs.Sew.{sew_table, unsew_table}
use Rattle.model.specs.Remove.{count_marked, remove_table}
use Rattle.model.specs.NewDarts.{slots_for}
use Rattle.model.specs.Split.{split_table}
use Rattle.model.specs.Insert.{insert_table}
use Rattle.model.specs.Vtk.{grid_of, rows_in}
use Rattle.model.specs.Faces.{darts, vtk_table}
use Rattle.model.specs.Journal.{cursor, end, changes_from, record_of, record_length, written, changes_at, tag_at, put, unbroken}
use Rattle.model.specs.Checks.{Check, pass, refuse, must, in_order, rule_number}
use Rattle.model.specs.Checks.{dim_ok, solid_ok, table_ok, marks_ok, queue_ok, journal_ok, pairing_ok, undo_ok, redo_ok}
use Rattle.model.specs.Checks.{check_checks, orbit_checks, sheet_checks, pick_checks}
use Rattle.model.specs.Checks.{add_checks, sides_checks, sew_checks, unsew_checks, layer_checks, split_checks, insert_checks, vtk_checks}
use Rattle.model.specs.Checks.{step_checks}
use Rattle.model.specs.Calls.{Outcome, refused}
use Rattle.model.specs.Runs.{Op, Call, do_call, effect}
use Rattle.model.specs.Meaning.Lists.{member}
use Rattle.model.specs.Meaning.Maps.{by_rule}

-- a table, marks and a journal that are lent to a call
abbrev pub lent : List ℕ → List ℕ → List ℕ → Outcome
lent t m j = record { number = 0; place = 0; count = 0; table = t; marks = m; journal = j }

-- ---- the checks of a call, with 15 and 17

-- 15: "record longer than the words from cursor to length", where u is the new table
unfoldable pub record_ok : ℕ → List ℕ → List ℕ → List ℕ → Check
record_ok tag t u j = must (leb (length (record_of tag (changes_from 0 t u))) (length j - cursor j)) 15

-- 17: "record broken, or result no map", of the record of k changes at the word a
unfoldable pub step_ok : Bool → ℕ → List ℕ → List ℕ → ℕ → ℕ → Check
step_ok redo n t j a k = must (unbroken redo t j a k && is_map n (put redo (changes_at j a k) t)) 17

-- the record before the cursor: its number of changes, and the word where it begins
abbrev pub undo_count : List ℕ → ℕ
undo_count j = get_or j (cursor j - 1) 0

abbrev pub undo_start : List ℕ → ℕ
undo_start j = cursor j - record_length (undo_count j)

-- the record at the cursor: its number of changes
abbrev pub redo_count : List ℕ → ℕ
redo_count j = get_or j (cursor j) 0

-- of a call on the table t, the marks m and the journal j
unfoldable pub checks_of : ℕ → List ℕ → List ℕ → List ℕ → Call → List Check
checks_of n t m j Call.check = check_checks n t
checks_of n t m j (Call.orbit mask d) = orbit_checks n t m mask d
checks_of n t m j (Call.sheet d) = sheet_checks n t m d
checks_of n t m j (Call.pick w d) = pick_checks n t m w d
checks_of n t m j (Call.op tag Op.add) = add_checks n t j ++ (record_ok tag t (add_table n t) j ∷ [])
checks_of n t m j (Call.op tag (Op.sew i d e)) =
    sides_checks n t j i d e ++ (pairing_ok n t i d e ∷ record_ok tag t (sew_table n t i d e) j ∷ [])
checks_of n t m j (Call.op tag (Op.unsew i d)) = unsew_checks n t j i d ++ (record_ok tag t (unsew_table n t i d) j ∷ [])
checks_of n t m j (Call.op tag (Op.remove d)) = layer_checks n t m j d ++ (record_ok tag t (remove_table n t d) j ∷ [])
checks_of n t m j (Call.op tag (Op.split d)) =
    let s = sheet n t d in
    layer_checks n t m j d ++ (split_checks n t s (ones s) ++ (record_ok tag t (split_table n t d) j ∷ []))
checks_of n t m j (Call.op tag (Op.insert w)) = insert_checks n t w j ++ (record_ok tag t (insert_table n t w) j ∷ [])
checks_of n t m j (Call.op tag (Op.vtk text)) =
    let g = grid_of text in
    vtk_checks n t j g ++ (record_ok tag t (vtk_table t (rows_in g)) j ∷ [])
checks_of n t m j Call.undo = step_checks n t j (undo_ok j) ++ (step_ok false n t j (undo_start j) (undo_count j) ∷ [])
checks_of n t m j Call.redo = step_checks n t j (redo_ok j) ++ (step_ok true n t j (cursor j) (redo_count j) ∷ [])

abbrev pub checks : ℕ → Outcome → Call → List Check
checks n o c = checks_of n o.table o.marks o.journal c

-- of them those before the checks of a map
abbrev pub first_checks : ℕ → Outcome → Call → List Check
first_checks n o Call.check = dim_ok n ∷ table_ok o.table ∷ []
first_checks n o (Call.orbit mask d) = dim_ok n ∷ table_ok o.table ∷ marks_ok o.table o.marks ∷ []
first_checks n o (Call.sheet d) = dim_ok n ∷ table_ok o.table ∷ marks_ok o.table o.marks ∷ []
first_checks n o (Call.pick w d) =
    dim_ok n ∷ table_ok o.table ∷ marks_ok o.table o.marks ∷ queue_ok o.table w ∷ []
first_checks n o (Call.op tag Op.add) = dim_ok n ∷ table_ok o.table ∷ journal_ok o.journal ∷ []
first_checks n o (Call.op tag (Op.sew i d e)) = dim_ok n ∷ table_ok o.table ∷ journal_ok o.journal ∷ []
first_checks n o (Call.op tag (Op.unsew i d)) = dim_ok n ∷ table_ok o.table ∷ journal_ok o.journal ∷ []
first_checks n o (Call.op tag (Op.remove d)) =
    dim_ok n ∷ table_ok o.table ∷ marks_ok o.table o.marks ∷ journal_ok o.journal ∷ []
first_checks n o (Call.op tag (Op.split d)) =
    dim_ok n ∷ table_ok o.table ∷ marks_ok o.table o.marks ∷ journal_ok o.journal ∷ []
first_checks n o (Call.op tag (Op.insert w)) =
    dim_ok n ∷ table_ok o.table ∷ marks_ok o.table w ∷ journal_ok o.journal ∷ []
first_checks n o (Call.op tag (Op.vtk text)) = solid_ok n ∷ table_ok o.table ∷ journal_ok o.journal ∷ []
first_checks n o Call.undo = dim_ok n ∷ table_ok o.table ∷ journal_ok o.journal ∷ []
first_checks n o Call.redo = dim_ok n ∷ table_ok o.table ∷ journal_ok o.journal ∷ []

-- the numbers of a call's checks: the column "Calls" of 01's table, and 02's R-1, R-3, R-5 and R-13. sew has 7 twice, for d and for e
abbrev pub op_numbers : Op → List ℕ
op_numbers Op.add = 1 ∷ 2 ∷ 4 ∷ 5 ∷ 24 ∷ 25 ∷ 26 ∷ 14 ∷ 15 ∷ []
op_numbers (Op.sew i d e) = 1 ∷ 2 ∷ 4 ∷ 5 ∷ 24 ∷ 25 ∷ 26 ∷ 6 ∷ 7 ∷ 7 ∷ 9 ∷ 10 ∷ 12 ∷ 15 ∷ []
op_numbers (Op.unsew i d) = 1 ∷ 2 ∷ 4 ∷ 5 ∷ 24 ∷ 25 ∷ 26 ∷ 6 ∷ 7 ∷ 11 ∷ 15 ∷ []
op_numbers (Op.remove d) = 1 ∷ 2 ∷ 3 ∷ 4 ∷ 5 ∷ 24 ∷ 25 ∷ 26 ∷ 7 ∷ 8 ∷ 15 ∷ []
op_numbers (Op.split d) = 1 ∷ 2 ∷ 3 ∷ 4 ∷ 5 ∷ 24 ∷ 25 ∷ 26 ∷ 7 ∷ 8 ∷ 13 ∷ 14 ∷ 15 ∷ []
op_numbers (Op.insert w) = 1 ∷ 2 ∷ 3 ∷ 4 ∷ 5 ∷ 24 ∷ 25 ∷ 26 ∷ 8 ∷ 28 ∷ 29 ∷ 30 ∷ 31 ∷ 32 ∷ 14 ∷ 15 ∷ []
op_numbers (Op.vtk text) = 1 ∷ 2 ∷ 4 ∷ 5 ∷ 24 ∷ 25 ∷ 26 ∷ 18 ∷ 19 ∷ 20 ∷ 21 ∷ 22 ∷ 23 ∷ 14 ∷ 15 ∷ []

abbrev pub numbers : Call → List ℕ
numbers Call.check = 1 ∷ 2 ∷ 5 ∷ 24 ∷ 25 ∷ 26 ∷ []
numbers (Call.orbit mask d) = 1 ∷ 2 ∷ 3 ∷ 5 ∷ 24 ∷ 25 ∷ 26 ∷ 6 ∷ 7 ∷ []
numbers (Call.sheet d) = 1 ∷ 2 ∷ 3 ∷ 5 ∷ 24 ∷ 25 ∷ 26 ∷ 7 ∷ 8 ∷ []
numbers (Call.pick w d) = 1 ∷ 2 ∷ 3 ∷ 37 ∷ 5 ∷ 24 ∷ 25 ∷ 26 ∷ 7 ∷ 8 ∷ []
numbers (Call.op tag p) = op_numbers p
numbers Call.undo = 1 ∷ 2 ∷ 4 ∷ 5 ∷ 24 ∷ 25 ∷ 26 ∷ 16 ∷ 17 ∷ []
numbers Call.redo = 1 ∷ 2 ∷ 4 ∷ 5 ∷ 24 ∷ 25 ∷ 26 ∷ 16 ∷ 17 ∷ []

-- an operation passes its checks, but for 15
abbrev pub Passed : ℕ → List ℕ → List ℕ → List ℕ → Op → Type 0
Passed n t m j Op.add = in_order (add_checks n t j) ≡ pass
Passed n t m j (Op.sew i d e) = in_order (sew_checks n t j i d e) ≡ pass
Passed n t m j (Op.unsew i d) = in_order (unsew_checks n t j i d) ≡ pass
Passed n t m j (Op.remove d) = in_order (layer_checks n t m j d) ≡ pass
Passed n t m j (Op.split d) =
    (in_order (layer_checks n t m j d) ≡ pass) × (in_order (split_checks n t (sheet n t d) (ones (sheet n t d))) ≡ pass)
Passed n t m j (Op.insert w) = in_order (insert_checks n t w j) ≡ pass
Passed n t m j (Op.vtk text) = in_order (vtk_checks n t j (grid_of text)) ≡ pass

-- ---- a refusal by the number k

-- "place is 0 but for 5 and 8", and 24 to 26, whose "place stays that slot"
unfoldable pub refusal_place : ℕ → List ℕ → ℕ → ℕ
refusal_place n t k = by_rule (λ r. least_breaking n t) (elim (eqb k 8) [ true ↦ least_wrong n t | false ↦ 0 ]) k

-- "count is 0" but for 5 and 24 to 26: "count then gives the link index"
unfoldable pub refusal_count : ℕ → List ℕ → ℕ → ℕ
refusal_count n t k = by_rule (breaking_link n t (least_breaking n t)) 0 k

-- the call gives the number of the rule r, the place d and the count i
abbrev pub Answers : ℕ → Outcome → Call → MapRule → ℕ → ℕ → Type 0
Answers n o c r d i = ((do_call n o c).number ≡ rule_number r) × ((do_call n o c).place ≡ d) × ((do_call n o c).count ≡ i)

-- of remove and split: the numbers of the checks that come after the sheet is marked
abbrev pub late_numbers : List ℕ
late_numbers = 13 ∷ 14 ∷ 15 ∷ []

-- with the number k the sheet was marked: the call is accepted, or refused by one of these
abbrev pub Sheeted : ℕ → Type 0
Sheeted k = (k ≡ 0) ⊎ (member late_numbers k ≡ true)

-- "marks too, but remove and split refused by 13, 14 or 15 leave the sheet's marks"
unfoldable pub layer_marks : ℕ → Outcome → ℕ → ℕ → List ℕ
layer_marks n o d k =
    elim (member late_numbers k) [ true ↦ sheet_marks n o.table (sheet n o.table d) | false ↦ o.marks ]

unfoldable pub refusal_marks : ℕ → Outcome → Call → ℕ → List ℕ
refusal_marks n o Call.check k = o.marks
refusal_marks n o (Call.orbit mask d) k = o.marks
refusal_marks n o (Call.sheet d) k = o.marks
refusal_marks n o (Call.pick w d) k = o.marks
refusal_marks n o (Call.op tag Op.add) k = o.marks
refusal_marks n o (Call.op tag (Op.sew i d e)) k = o.marks
refusal_marks n o (Call.op tag (Op.unsew i d)) k = o.marks
refusal_marks n o (Call.op tag (Op.remove d)) k = layer_marks n o d k
refusal_marks n o (Call.op tag (Op.split d)) k = layer_marks n o d k
refusal_marks n o (Call.op tag (Op.insert w)) k = o.marks
refusal_marks n o (Call.op tag (Op.vtk text)) k = o.marks
refusal_marks n o Call.undo k = o.marks
refusal_marks n o Call.redo k = o.marks

-- "Refusals leave table and journal alike"
abbrev pub refused_by : ℕ → Outcome → Call → ℕ → ℕ → ℕ → Outcome
refused_by n o c k p q = refused k p q o.table (refusal_marks n o c k) o.journal

-- of the outcome r of a call on o that is refused
pub record Untouched (n : ℕ) (o : Outcome) (c : Call) (r : Outcome) : Type 0 where
  pub place : r.place ≡ refusal_place n o.table r.number
  pub count : r.count ≡ refusal_count n o.table r.number
  pub table : r.table ≡ o.table
  pub marks : r.marks ≡ refusal_marks n o c r.number
  pub journal : r.journal ≡ o.journal

-- ---- an accepted call

-- the calls that change nothing but marks
pub data Reading : Call → Type 0 where
  reads_check : Reading Call.check
  reads_orbit : {mask d : ℕ} → Reading (Call.orbit mask d)
  reads_sheet : {d : ℕ} → Reading (Call.sheet d)
  reads_pick : {w : List ℕ} {d : ℕ} → Reading (Call.pick w d)

-- one of these: the table and the journal stay; the place, the count and the marks
abbrev pub marking : List ℕ → List ℕ → ℕ → ℕ → List ℕ → Outcome
marking t j p k m = record { number = 0; place = p; count = k; table = t; marks = m; journal = j }

-- an operation: its tag, the new table u, the place, the count and the marks
abbrev pub changing : List ℕ → List ℕ → ℕ → List ℕ → ℕ → ℕ → List ℕ → Outcome
changing t j tag u p k m = record {
  number = 0;
  place = p;
  count = k;
  table = u;
  marks = m;
  journal = written j (record_of tag (changes_from 0 t u));
}

-- undo or redo of the record of k changes at the word a, whose tag is the place; the cursor goes to c
abbrev pub stepping : Bool → List ℕ → List ℕ → List ℕ → ℕ → ℕ → ℕ → Outcome
stepping redo t m j a k c = record {
  number = 0;
  place = tag_at j a;
  count = k;
  table = put redo (changes_at j a k) t;
  marks = m;
  journal = set j 0 c;
}

unfoldable pub done_of : ℕ → List ℕ → List ℕ → List ℕ → Call → Outcome
done_of n t m j Call.check = marking t j 0 (elim (is_block n t) [ true ↦ 2 | false ↦ 1 ]) m
done_of n t m j (Call.orbit mask d) = let s = orbit n t mask d in marking t j (orbit_place n mask) (count 1 s) s
done_of n t m j (Call.sheet d) = let s = sheet n t d in marking t j 0 (count 1 s) (sheet_marks n t s)
done_of n t m j (Call.pick w d) = let s = sheet n t d in marking t j 0 (count 1 s) (sheet_marks n t s)
done_of n t m j (Call.op tag Op.add) = changing t j tag (add_table n t) (get_or (add_slots n t) 0 0) (cell_size n) m
done_of n t m j (Call.op tag (Op.sew i d e)) = let u = sew_table n t i d e in changing t j tag u 0 (length (changes_from 0 t u)) m
done_of n t m j (Call.op tag (Op.unsew i d)) = let u = unsew_table n t i d in changing t j tag u 0 (length (changes_from 0 t u)) m
done_of n t m j (Call.op tag (Op.remove d)) =
    let marks = sheet_marks n t (sheet n t d) in
    changing t j tag (remove_table n t d) 0 (count_marked marks) marks
done_of n t m j (Call.op tag (Op.split d)) =
    let s = sheet n t d in
    changing t j tag (split_table n t d) (get_or (slots_for n t (ones s)) 0 0) (n * length (ones s)) (sheet_marks n t s)
done_of n t m j (Call.op tag (Op.insert w)) =
    changing t j tag (insert_table n t w) (get_or (slots_for n t (ones w)) 0 0) (n * length (ones w)) m
done_of n t m j (Call.op tag (Op.vtk text)) =
    let rows = rows_in (grid_of text) in
    changing t j tag (vtk_table t rows) 0 (darts rows) m
done_of n t m j Call.undo = stepping false t m j (undo_start j) (undo_count j) (undo_start j)
done_of n t m j Call.redo = stepping true t m j (cursor j) (redo_count j) (cursor j + record_length (redo_count j))

abbrev pub done : ℕ → Outcome → Call → Outcome
done n o c = done_of n o.table o.marks o.journal c

-- ---- how a call ends

-- behind the checks cs an outcome is y, where they pass, and f of the number, place and count where one refuses
pub record Behind (cs : List Check) (y : Outcome) (f : ℕ → ℕ → ℕ → Outcome) (r : Outcome) : Type 0 where
  pub passes : in_order cs ≡ pass → r ≡ y
  pub refuses : (k p q : ℕ) → in_order cs ≡ refuse k p q → r ≡ f k p q

abbrev pub Ends : ℕ → Outcome → Call → Type 0
Ends n o c = Behind (checks n o c) (done n o c) (refused_by n o c) (do_call n o c)

-- of the outcome r of an accepted operation p on o, with its tag: it has passed its checks, and leaves its effect and the
-- record of the changes, for which there was room
pub record OpAccepted (n : ℕ) (o : Outcome) (tag : ℕ) (p : Op) (r : Outcome) : Type 0 where
  pub passed : Passed n o.table o.marks o.journal p
  pub table : r.table ≡ effect n o.table p
  pub journal : r.journal ≡ written o.journal (record_of tag (changes_from 0 o.table (effect n o.table p)))
  pub room : length (record_of tag (changes_from 0 o.table (effect n o.table p)))
      ≤ length o.journal - cursor o.journal

-- the record of the operation p on o, with its tag: "every entry whose value changed"
abbrev pub record_made : ℕ → Outcome → ℕ → Op → List ℕ
record_made n o tag p = record_of tag (changes_from 0 o.table (do_call n o (Call.op tag p)).table)

-- "writes its record .. at the cursor; cursor and end go behind it .. Other journal words stay": of the journal j and the
-- journal k after it, where r is the record
pub record Recorded (r j k : List ℕ) : Type 0 where
  pub long : length k ≡ length j
  pub at_cursor : cursor k ≡ cursor j + length r
  pub at_end : end k ≡ cursor j + length r
  pub words : (x : ℕ) → x < length r → get_or k (cursor j + x) 0 ≡ get_or r x 0
  pub before : (x : ℕ) → 2 ≤ x → x < cursor j → get_or k x 0 ≡ get_or j x 0
  pub behind : (x : ℕ) → cursor j + length r ≤ x → get_or k x 0 ≡ get_or j x 0

-- "Undo and redo change only the cursor word": of the journal j and the journal k after them
pub record CursorMoved (j k : List ℕ) : Type 0 where
  pub long : length k ≡ length j
  pub words : (x : ℕ) → x ≢ 0 → get_or k x 0 ≡ get_or j x 0

-- "Count: entries changed": of the table t and the table u after it; there is one at least
pub record CountsChanges (t u : List ℕ) (k : ℕ) : Type 0 where
  pub size : k ≡ length (changes_from 0 t u)
  pub some : 0 < k

-- the same of a call that is accepted, and its count
abbrev pub Counted : ℕ → Outcome → Call → Type 0
Counted n o c = (do_call n o c).number ≡ 0 → CountsChanges o.table (do_call n o c).table (do_call n o c).count
