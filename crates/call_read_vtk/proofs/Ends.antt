-- How a read ends behind 20: refused by 21 to 23 (`judged_refused`) or by 14 (`read_few`, `read_many`), else by what is left of it, `commit`
-- (`read_goes`); and what it knows then: the number of its changes (`read_number`), what the record is drafted from (`new_cells`), and its
-- draft (`cells_drafted`).
use Prim.Native.Nat.{ℕ, ◌*◌, ◌≤◌, ◌<◌}
use mathlib.Core.Path.{◌≡◌, refl, sym, ap, ◌∙◌, subst}
use mathlib.Core.Bool.{false}
use mathlib.Core.List.{List, [], ◌∷◌, ◌++◌}
use mathlib.Core.Option.{Option, some}
use native.Mathlib.Omega.{arith}
use lib.ListN.{length, get_or, take}
use borrow.Author.Tests.{le-leb, lt-leb}
use Rattle.model.specs.Table.{slots, live}
use Rattle.model.specs.Journal.{changes_from}
use Rattle.model.specs.Vtk.{Grid, grid_of, rows_in, types_in}
use Rattle.model.specs.Faces.{darts, vtk_table}
use Rattle.model.specs.Checks.{Check, pass, refuse, must, in_order, map_checks, cells_room_ok, grid_checks, vtk_checks}
use Rattle.model.specs.Calls.{commit, vtk_call}
use Rattle.model.specs.Meaning.Numbers.{JournalRule}
use Rattle.model.specs.Meaning.Vtk.{Readable}
use Rattle.theorems.proofs.Calls.Checks.{passed_at, append_passed, append_refused}
use Rattle.theorems.proofs.Calls.Pass.{table_pass, journal_pass}
use Rattle.theorems.proofs.Vtk.Table.{read_long}
use Rattle.theorems.proofs.Vtk.Counts.{read_changes_lem}
use Rattle.theorems.proofs.Vtk.Passed.{empty_pass, form_eight, room_test, vtk_passed}
use Rattle.theorems.proofs.Vtk.Call.{vtk_commits}
use Rattle.drafts.specs.Drafts.{drafted}
use Rattle.drafts.specs.Passes.{Room, Drafted}
use Rattle.std.specs.Prelude.{Result, Ok, Err}
use Rattle.answers.specs.Answers.{Reason, Refused, number_of, alone, outcome}
use Rattle.refusals.specs.declared.Reason.TheVariants.{TooFewSlots}
use Rattle.answers.proofs.Settled.{by_reason}
use Rattle.answers.proofs.Ladder.{rise, up, out, all_passed}
use Rattle.vtk_faces.specs.Texts.{CellsAt}
use Rattle.vtk_table.specs.Cells.{NewCells}
use Rattle.call_read_vtk.specs.Formed.{Formed, CellsHeld, cell_checks, first_refusal, Judged, JudgedHeld, Passed, Checked}
use Rattle.call_read_vtk.proofs.Forms.{vtk_ends}

-- where the text gives this grid
read_refused : (t j : List ℕ) (tag : ℕ) (text : List ℕ) (g : Grid) → grid_of text ≡ some g → {reason : Reason} {e : Refused} → e ≡ alone reason
    → in_order (vtk_checks 3 t j (some g)) ≡ refuse (number_of reason) 0 0 → outcome (Err e) t [] j ≡ vtk_call 3 t j tag text
read_refused t j tag text g is alike h = vtk_ends 3 t j tag text _ (by_reason alike (rw is h))

-- the first ten checks, 21 to 23, and 14
parts : (t j : List ℕ) (g : Grid) → vtk_checks 3 t j (some g) ≡ take 10 (vtk_checks 3 t j (some g)) ++ (cell_checks g.rows ++ (cells_room_ok t g.rows ∷ []))
unfolding vtk_checks map_checks grid_checks rows_in cell_checks
parts t j g = refl

fronts : (t j : List ℕ) (g : Grid) → take 13 (vtk_checks 3 t j (some g)) ≡ take 10 (vtk_checks 3 t j (some g)) ++ cell_checks g.rows
unfolding vtk_checks map_checks grid_checks rows_in cell_checks
fronts t j g = refl

module _ {t j text buffer : List ℕ} {at cells : ℕ} (F : Formed t j text buffer at cells) where
  pub cells_at : CellsAt text at cells F.grid.rows
  unfolding vtk_checks map_checks grid_checks types_in
  cells_at = record {
    stand = F.stand;
    eight = form_eight text F.grid F.is (passed_at _ F.passed 9);
    number = F.number;
  }

  pub cells_held : 8 * cells ≤ length buffer → CellsHeld buffer cells F.grid.rows
  cells_held room =
      let C = cells_at in
      let number = F.number in
      record {
        held = record { long = omega arith; row = λ c low. F.kept c low (C.eight c low) (omega arith) };
        eight = C.eight;
        number = number;
      }

  module _ {found : Result (Unit {0}) Reason} (J : Judged F.grid.rows found) where
    -- 21 to 23
    pub judged_refused : (tag : ℕ) {reason : Reason} {e : Refused} → found ≡ Err reason → e ≡ alone reason
        → outcome (Err e) t [] j ≡ vtk_call 3 t j tag text
    judged_refused tag h alike = read_refused t j tag text F.grid F.is alike
        (ap in_order (parts t j F.grid) ∙ append_passed (take 10 (vtk_checks 3 t j (some F.grid))) _ F.passed
        ∙ append_refused (cell_checks F.grid.rows) _ (J.gives ∙ ap first_refusal h))

    pub judged_passed : found ≡ Ok tt → Passed t j text cells
    judged_passed h = record {
      grid = F.grid;
      is = F.is;
      passed = ap in_order (fronts t j F.grid) ∙ append_passed (take 10 (vtk_checks 3 t j (some F.grid))) _ F.passed ∙ (J.gives ∙ ap first_refusal h);
      number = F.number;
    }

  pub judged_checked : {mates : List ℕ} {found : Result (Unit {0}) Reason} → JudgedHeld F.grid.rows mates found → found ≡ Ok tt → Checked t j text mates cells
  unfolding judged_passed
  judged_checked J h = record { pass = judged_passed J.judged h; mated = J.mated h }

module _ {t j text : List ℕ} {cells : ℕ} (P : Passed t j text cells) where
  abbrev rows : List (List ℕ)
  rows = P.grid.rows

  abbrev checks : Unit {0} → List Check
  checks _ = vtk_checks 3 t j (some P.grid)

  check : (i : ℕ) → get_or (take 13 (checks tt)) i pass ≡ pass
  check = passed_at (take 13 (checks tt)) P.passed

  sized : (length t ≡ 4 * slots t) × (slots t ≤ 65536)
  unfolding vtk_checks map_checks grid_checks
  sized = table_pass t (check 1)

  pub rule : JournalRule j
  unfolding vtk_checks map_checks grid_checks
  rule = journal_pass j (check 2)

  empty : (d : ℕ) → live t d ≡ false
  unfolding vtk_checks map_checks grid_checks
  empty = empty_pass t sized.0 (check 7)

  -- 14
  pub read_few : (tag : ℕ) {e : Refused} → e ≡ alone TooFewSlots → length t < 192 * cells → outcome (Err e) t [] j ≡ vtk_call 3 t j tag text
  unfolding vtk_checks map_checks grid_checks rows_in must darts
  read_few tag alike h =
      let number = P.number in
      let whole = sized.0 in
      read_refused t j tag text P.grid P.is alike (out {checks = checks} (rise 13 tt P.passed)
      (sym (room_test t rows empty) ∙ ap (λ b. must b 14) (lt-leb (darts rows) (slots t) (omega arith))))

  module _ (room : 192 * cells ≤ length t) where
    all : in_order (vtk_checks 3 t j (grid_of text)) ≡ pass
    unfolding vtk_checks map_checks grid_checks rows_in must darts
    all =
        let number = P.number in
        let whole = sized.0 in
        rw P.is (all_passed _ (up {checks = checks} (rise 13 tt P.passed)
        (sym (room_test t rows empty) ∙ ap (λ b. must b 14) (le-leb (darts rows) (slots t) (omega arith)))).passed)

    readable : Readable t rows
    unfolding rows_in
    readable = subst (λ (o : Option Grid). Readable t (rows_in o)) P.is (vtk_passed 3 t j text all).1

    pub read_goes : (tag : ℕ) → vtk_call 3 t j tag text ≡ commit t (vtk_table t rows) [] j tag 0 (λ cs. darts rows)
    unfolding rows_in
    read_goes tag = subst (λ (o : Option Grid). vtk_call 3 t j tag text ≡ commit t (vtk_table t (rows_in o)) [] j tag 0 (λ cs. darts (rows_in o)))
        P.is (vtk_commits 3 t j tag text all)

    pub read_number : 192 * cells ≡ length (changes_from 0 t (vtk_table t rows))
    read_number = let number = P.number in let changes = read_changes_lem readable in omega arith

    module _ (fits : Room t (vtk_table t rows) j) where
      pub cells_drafted : (w : List ℕ) → w ≡ drafted j (changes_from 0 t (vtk_table t rows)) → Drafted t (vtk_table t rows) j (192 * cells) w
      cells_drafted w draft = record {
        long = sym (read_long readable);
        rule = rule;
        room = fits;
        count = read_number;
        draft = draft;
      }

-- more cells than any table takes
pub read_many : {t j text : List ℕ} {cells : ℕ} → Passed t j text cells → (tag : ℕ) {e : Refused} → e ≡ alone TooFewSlots → 1365 < cells
    → outcome (Err e) t [] j ≡ vtk_call 3 t j tag text
read_many P tag alike many = let (whole, few) = sized P in read_few P tag alike (omega arith)

pub new_cells : {t j text mates : List ℕ} {cells : ℕ} (C : Checked t j text mates cells) → 192 * cells ≤ length t
    → Room t (vtk_table t C.pass.grid.rows) j → NewCells t C.pass.grid.rows mates cells j
new_cells C room fits = record {
  are = record { readable = readable C.pass room; mated = C.mated };
  number = C.pass.number;
  rule = rule C.pass;
  room = fits;
}
