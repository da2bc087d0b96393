-- `call_read_vtk::read_cells` meets its contract: 19 and 20 by `read_form`, all else by `read_formed`.
use Prim.Native.Nat.{ℕ}
use mathlib.Core.Path.{refl, ◌∙◌}
use mathlib.Core.List.{List}
use borrow.Author.Rules.{rules}
use Rattle.model.specs.Vtk.{grid_of}
use Rattle.model.specs.Checks.{Check, map_checks, grid_checks, vtk_checks}
use Rattle.theorems.proofs.Lists.Scan.{clash}
use Rattle.theorems.proofs.Calls.Pass.{must_pass}
use Rattle.answers.proofs.Ladder.{Rung, rise, up, out, all_passed}
use Rattle.answers.proofs.Settled.{by_reason}
use Rattle.answers.proofs.Verdicts.{passes, refuses}
use Rattle.call_read_vtk.specs.Formed.{empty_checks, Formed}
use Rattle.call_read_vtk.proofs.Empty.{empty_opened}
use Rattle.call_read_vtk.proofs.Forms.{vtk_ends, form_refuses, form_passes, types_test, formed}
use Rattle.call_read_vtk.proofs.+read_cells.Goals as goal
use Rattle.call_read_vtk.proofs.+read_cells.Goals.{In-Ok, Start, Then-not-table_fits}

-- ---- the table fits
never : (t : ℕ) → (c : Then-not-table_fits t) {A : Type 0} → A
never t c =
    let taken = c.if-not-table_fits.true in
    let fits = must_pass _ 2 (c.table_fits.ensures ∙ (empty_opened _ _ _ c.requires).1) in
    absurd (clash fits taken)

pub read_cells-requires : goal.read_cells-requires
read_cells-requires t c = never t (goal.at.read_cells-requires t c).Then-not-table_fits

pub returns-then-not-table_fits : goal.returns-then-not-table_fits
returns-then-not-table_fits t c = never t (goal.at.returns-then-not-table_fits t c).Then-not-table_fits

-- ---- the rungs
abbrev checks : (t : ℕ) → Start t → List Check
checks t p = vtk_checks 3 p.args.table.now p.args.journal.now (grid_of p.args.text.now)

abbrev empty : (t : ℕ) → Start t → Rung (checks t) 8
unfolding empty_checks vtk_checks map_checks grid_checks
empty t s = rise 8 s s.requires

-- ---- 19 and 20
pub returns-in-Err-WrongForm : goal.returns-in-Err-WrongForm
unfolding empty_checks vtk_checks map_checks grid_checks
returns-in-Err-WrongForm t c =
    let s = (goal.at.returns-in-Err-WrongForm t c).Start in
    let told = c.in-Err-WrongForm.ensures in
    let none = rw c.in-Err-WrongForm.field-0-is at told in
    vtk_ends _ _ _ _ _ _ (by_reason c.into-in-Err-WrongForm.ensures (out (empty t s) (form_refuses _ none)))

pub returns-in-Err-OtherType : goal.returns-in-Err-OtherType
unfolding empty_checks vtk_checks map_checks grid_checks
returns-in-Err-OtherType t c =
    let s = (goal.at.returns-in-Err-OtherType t c).Start in
    let told = c.in-Err-OtherType.ensures in
    let G = rw c.in-Err-OtherType.field-0-is at told in
    vtk_ends _ _ _ _ _ _ (by_reason c.into-in-Err-OtherType.ensures
    (out (up (empty t s) (form_passes _ _ G.is)) (refuses _ 20 (types_test _ _ G.is G.twelves) refl)))

-- ---- the cells, where they pass
cells : (t : ℕ) → (c : In-Ok t) →
    let a = c.args in
    let f = c.in-Ok.form in
    Formed a.table.now a.journal.now a.text.now c.read_form.new.rows f.at f.cells
unfolding empty_checks vtk_checks map_checks grid_checks
cells t c =
    let G = c.in-Ok.ensures in
    let form = up (empty t (goal.at.In-Ok t c).Start) (form_passes _ _ G.is) in
    formed _ _ _ _ _ G (all_passed _ (up form (passes _ 20 (types_test _ _ G.is G.twelves) refl)).passed)

pub read_formed-requires : goal.read_formed-requires
read_formed-requires t c = (
  cells t (goal.at.read_formed-requires t c).In-Ok,
  record { rows_long = search rules; heads_long = search rules; nexts_long = search rules; mates_long = search rules },
)
