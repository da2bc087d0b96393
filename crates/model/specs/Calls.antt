-- The calls: each gives "number, place, count", and the table, marks and journal as it leaves them.
-- A call that takes no marks or no journal has [] for it.
use Rattle.std.specs.Prelude.{ℕ, zero, suc, ◌+◌, ◌*◌, ◌-◌, Bool, true, false, ◌&&◌, List, [], ◌∷◌, length, get_or, set, leb}
use Rattle.model.specs.Lists.{count, ones}
use Rattle.model.specs.Map.{is_map}
use Rattle.model.specs.Cell.{cell_size, is_block}
use Rattle.model.specs.Orbit.{orbit, orbit_place}
use Rattle.model.specs.Sheet.{sheet, sheet_marks}
use Rattle.model.specs.Add.{add_slots, add_table}
use Rattle.model.specs.Sew.{sew_table, unsew_table}
use Rattle.model.specs.Remove.{count_marked, remove_table}
use Rattle.model.specs.NewDarts.{slots_for}
use Rattle.model.specs.Split.{split_table}
use Rattle.model.specs.Insert.{insert_table}
use Rattle.model.specs.Vtk.{grid_of, rows_in}
use Rattle.model.specs.Faces.{darts, vtk_table}
use Rattle.model.specs.Journal.{Change, cursor, changes_from, record_of, record_length, written, changes_at, tag_at, put}
use Rattle.model.specs.Journal.{unbroken}
use Rattle.model.specs.Checks.{pass, refuse, in_order, check_checks, orbit_checks, sheet_checks, add_checks, sew_checks, unsew_checks}
use Rattle.model.specs.Checks.{pick_checks, list_checks, layer_checks, split_checks, insert_checks, vtk_checks, step_checks, undo_ok, redo_ok}

pub record Outcome : Type 0 where
  pub number : ℕ
  pub place : ℕ
  pub count : ℕ
  pub table : List ℕ
  pub marks : List ℕ
  pub journal : List ℕ

-- a refusal with its number, place and count; table and journal stay
unfoldable pub refused : ℕ → ℕ → ℕ → List ℕ → List ℕ → List ℕ → Outcome
refused k p q t m j = record { number = k; place = p; count = q; table = t; marks = m; journal = j }

-- "An accepted add, sew, unsew, remove or split writes its record (every entry whose value changed) at the cursor";
-- 15: "record longer than the words from cursor to length". u is the new table, p the place, size gives the count
unfoldable pub commit : List ℕ → List ℕ → List ℕ → List ℕ → ℕ → ℕ → (List Change → ℕ) → Outcome
commit t u m j tag p size =
    let cs = changes_from 0 t u in
    let r = record_of tag cs in
    elim (leb (length r) (length j - cursor j)) [
      | true ↦ record { number = 0; place = p; count = size cs; table = u; marks = m; journal = written j r }
      | false ↦ refused 15 0 0 t m j
    ]

-- ---- the calls that change nothing but marks

-- "count 1 for a map, 2 for a block map"
unfoldable pub check_call : ℕ → List ℕ → Outcome
check_call n t =
    elim (in_order (check_checks n t)) [
      | pass ↦ record {
        number = 0;
        place = 0;
        count = elim (is_block n t) [ true ↦ 2 | false ↦ 1 ];
        table = t;
        marks = [];
        journal = [];
      }
      | refuse k p q ↦ refused k p q t [] []
    ]

-- "Marks: 1 reached, 0 otherwise. Count: darts reached."
unfoldable pub orbit_call : ℕ → List ℕ → List ℕ → ℕ → ℕ → Outcome
orbit_call n t m mask d =
    elim (in_order (orbit_checks n t m mask d)) [
      | pass ↦ (
          let s = orbit n t mask d in
          record { number = 0; place = orbit_place n mask; count = count 1 s; table = t; marks = s; journal = [] })
      | refuse k p q ↦ refused k p q t m []
    ]

-- "Count: size of S.", and the marks
abbrev pub sheet_outcome : ℕ → List ℕ → ℕ → Outcome
sheet_outcome n t d =
    let s = sheet n t d in
    record { number = 0; place = 0; count = count 1 s; table = t; marks = sheet_marks n t s; journal = [] }

unfoldable pub sheet_call : ℕ → List ℕ → List ℕ → ℕ → Outcome
sheet_call n t m d =
    elim (in_order (sheet_checks n t m d)) [
      | pass ↦ sheet_outcome n t d
      | refuse k p q ↦ refused k p q t m []
    ]

-- 02, R-13: pick d over the queue w: "its marks and answers equal the first engine's"
unfoldable pub pick_call : ℕ → List ℕ → List ℕ → List ℕ → ℕ → Outcome
pick_call n t m w d =
    elim (in_order (pick_checks n t m w d)) [
      | pass ↦ sheet_outcome n t d
      | refuse k p q ↦ refused k p q t m []
    ]

-- "how many it took off, which equals the sheet's size"; of a refusal 0
unfoldable pub pick_taken : ℕ → List ℕ → List ℕ → List ℕ → ℕ → ℕ
pick_taken n t m w d = elim (in_order (pick_checks n t m w d)) [ pass ↦ count 1 (sheet n t d) | refuse k p q ↦ 0 ]

-- ---- the operations, each with the tag of its record

-- "Place: first slot. Count: 8 or 48."
unfoldable pub add_call : ℕ → List ℕ → List ℕ → ℕ → Outcome
add_call n t j tag =
    elim (in_order (add_checks n t j)) [
      | pass ↦ commit t (add_table n t) [] j tag (get_or (add_slots n t) 0 0) (λ cs. cell_size n)
      | refuse k p q ↦ refused k p q t [] j
    ]

-- "Count: entries changed."
unfoldable pub sew_call : ℕ → List ℕ → List ℕ → ℕ → ℕ → ℕ → ℕ → Outcome
sew_call n t j tag i d e =
    elim (in_order (sew_checks n t j i d e)) [
      | pass ↦ commit t (sew_table n t i d e) [] j tag 0 (λ cs. length cs)
      | refuse k p q ↦ refused k p q t [] j
    ]

-- "Count: entries changed."
unfoldable pub unsew_call : ℕ → List ℕ → List ℕ → ℕ → ℕ → ℕ → Outcome
unsew_call n t j tag i d =
    elim (in_order (unsew_checks n t j i d)) [
      | pass ↦ commit t (unsew_table n t i d) [] j tag 0 (λ cs. length cs)
      | refuse k p q ↦ refused k p q t [] j
    ]

-- "Remove and split take marks too and leave them as sheet gives them before the change." "Count: darts removed."
unfoldable pub remove_call : ℕ → List ℕ → List ℕ → List ℕ → ℕ → ℕ → Outcome
remove_call n t m j tag d =
    elim (in_order (layer_checks n t m j d)) [
      | pass ↦ (
          let marks = sheet_marks n t (sheet n t d) in
          commit t (remove_table n t d) marks j tag 0 (λ cs. count_marked marks))
      | refuse k p q ↦ refused k p q t m j
    ]

-- "Place: first new slot. Count: darts added."
unfoldable pub split_call : ℕ → List ℕ → List ℕ → List ℕ → ℕ → ℕ → Outcome
split_call n t m j tag d =
    elim (in_order (layer_checks n t m j d)) [
      | pass ↦ (
          let s = sheet n t d in
          let gs = ones s in
          let marks = sheet_marks n t s in
          elim (in_order (split_checks n t s gs)) [
            | pass ↦ commit t (split_table n t d) marks j tag (get_or (slots_for n t gs) 0 0) (λ cs. n * length gs)
            | refuse k p q ↦ refused k p q t marks j
          ])
      | refuse k p q ↦ refused k p q t m j
    ]

-- 02, R-5: "marks stay". "place: first new slot; count: darts added"
unfoldable pub insert_call : ℕ → List ℕ → List ℕ → List ℕ → ℕ → Outcome
insert_call n t m j tag =
    elim (in_order (insert_checks n t m j)) [
      | pass ↦ (
          let hs = ones m in
          commit t (insert_table n t m) m j tag (get_or (slots_for n t hs) 0 0) (λ cs. n * length hs))
      | refuse k p q ↦ refused k p q t m j
    ]

-- 02, R-1: "Place 0; count: darts added"
unfoldable pub vtk_call : ℕ → List ℕ → List ℕ → ℕ → List ℕ → Outcome
vtk_call n t j tag text =
    let g = grid_of text in
    elim (in_order (vtk_checks n t j g)) [
      | pass ↦ commit t (vtk_table t (rows_in g)) [] j tag 0 (λ cs. darts (rows_in g))
      | refuse k p q ↦ refused k p q t [] j
    ]

-- ---- 02, R-9: a list of sews

-- "(i, d, e)"
pub record Item : Type 0 where
  pub i : ℕ
  pub d : ℕ
  pub e : ℕ

-- the items of a list, three words each
unfoldable pub items : List ℕ → List Item
items [] = []
items (i ∷ []) = []
items (i ∷ d ∷ []) = []
items (i ∷ d ∷ e ∷ l) = record { i = i; d = d; e = e } ∷ items l

-- "it must equal the single calls in order, stopping at the first refusal", behind k items that stand and changed q entries:
-- "place says which item was refused, from 1"; "count is the entries changed by the items that stand, on a refusal too"
unfoldable pub sew_items : ℕ → ℕ → ℕ → ℕ → List ℕ → List ℕ → List Item → Outcome
sew_items n tag k q t j [] = record { number = 0; place = 0; count = q; table = t; marks = []; journal = j }
sew_items n tag k q t j (x ∷ xs) =
    let r = sew_call n t j tag x.i x.d x.e in
    elim r.number [
      | zero ↦ sew_items n tag (suc k) (q + r.count) r.table r.journal xs
      | suc z ↦ record {
        number = r.number;
        place = suc k;
        count = q;
        table = r.table;
        marks = [];
        journal = r.journal;
      }
    ]

unfoldable pub sew_list_call : ℕ → List ℕ → List ℕ → ℕ → List ℕ → Outcome
sew_list_call n t j tag l =
    elim (in_order (list_checks n t j l)) [
      | pass ↦ sew_items n tag 0 0 t j (items l)
      | refuse k p q ↦ refused k p q t [] j
    ]

-- ---- undo and redo

-- the record of k changes at the word a is put back, and the cursor goes to c: "Undo and redo change only the cursor
-- word"; 17: "record broken, or result no map". "Count: entries changed." They "give the tag back as place" (02, R-11)
unfoldable pub step_outcome : Bool → ℕ → List ℕ → List ℕ → ℕ → ℕ → ℕ → Outcome
step_outcome redo n t j a k c =
    let u = put redo (changes_at j a k) t in
    elim (unbroken redo t j a k && is_map n u) [
      | true ↦ record { number = 0; place = tag_at j a; count = k; table = u; marks = []; journal = set j 0 c }
      | false ↦ refused 17 0 0 t [] j
    ]

-- the record before the cursor
unfoldable pub undo_call : ℕ → List ℕ → List ℕ → Outcome
undo_call n t j =
    elim (in_order (step_checks n t j (undo_ok j))) [
      | pass ↦ (
          let k = get_or j (cursor j - 1) 0 in
          let a = cursor j - record_length k in
          step_outcome false n t j a k a)
      | refuse k p q ↦ refused k p q t [] j
    ]

-- the record at the cursor
unfoldable pub redo_call : ℕ → List ℕ → List ℕ → Outcome
redo_call n t j =
    elim (in_order (step_checks n t j (redo_ok j))) [
      | pass ↦ (
          let k = get_or j (cursor j) 0 in
          step_outcome true n t j (cursor j) k (cursor j + record_length k))
      | refuse k p q ↦ refused k p q t [] j
    ]
