-- `call_read_vtk::place_cells` meets its contract: 14, 15 by the number of changes; table and record written.
use Prim.Native.Nat.{ℕ, ◌*◌}
use mathlib.Core.Path.{◌≡◌, refl, ap}
use mathlib.Core.List.{List}
use native.Mathlib.Omega.{arith}
use Rattle.model.specs.Journal.{changes_from}
use Rattle.model.specs.Faces.{darts, vtk_table}
use Rattle.drafts.specs.Drafts.{drafted}
use Rattle.drafts.specs.Passes.{Room}
use Rattle.drafts.proofs.Carrying.{draft_closes}
use Rattle.drafts.proofs.Commits.{fits_room}
use Rattle.answers.proofs.Commits.{commit_full, commit_done}
use Rattle.call_read_vtk.specs.Formed.{Checked}
use Rattle.call_read_vtk.proofs.Ends.{rule, read_few, read_goes, read_number, new_cells, cells_drafted}
use Rattle.call_read_vtk.proofs.place_cells.Goals as goal
use Rattle.call_read_vtk.proofs.place_cells.Goals.{After-write_cells, Else-not-record_fits}

pub returns-then-table-cells : goal.returns-then-table-cells
returns-then-table-cells c text C = read_few C.pass _ c.into.ensures c.if-table-cells.true

pub record_fits-requires : goal.record_fits-requires
record_fits-requires c =
    let r = rule c.requires.0.are.pass in
    let long = r.long in
    let ends = r.ends in
    let within = r.within in
    (omega arith, omega arith)

pub returns-then-not-record_fits : goal.returns-then-not-record_fits
unfolding darts
returns-then-not-record_fits c text C =
    let room = c.if-table-cells.false in
    commit_full _ _ _ _ _ _ _ (read_goes C.pass room _) (read_number C.pass room) c.record_fits.ensures (c.if-not-record_fits.true) c.into-then-not-record_fits.ensures

fits : (c : Else-not-record_fits) → (text : List ℕ) (C : let a = c.args in
    Checked a.table.now a.journal.now text a.mates.now a.cells)
    → let a = c.args in
    Room a.table.now (vtk_table a.table.now C.pass.grid.rows) a.journal.now
fits c text C = fits_room _ _ _ _ (read_number C.pass c.if-table-cells.false) _ c.record_fits.ensures (c.if-not-record_fits.false)

pub write_cells-requires : goal.write_cells-requires
write_cells-requires c =
    let some = c.requires.0 in
    record { rows = _; are = new_cells some.are c.if-table-cells.false (fits (goal.at.write_cells-requires c).Else-not-record_fits _ some.are) }

-- table and record are written
left : (c : After-write_cells) (text : List ℕ) → (C : let a = c.args in
    Checked a.table.now a.journal.now text a.mates.now a.cells)
    → let t = c.args.table.now in
    let j = c.args.journal.now in
    let u = vtk_table t C.pass.grid.rows in
    (c.write_cells.new.table ≡ u) × (c.write_cells.new.journal ≡ drafted j (changes_from 0 t u))
left c text C =
    c.write_cells.ensures _ (new_cells C c.if-table-cells.false (fits (goal.at.After-write_cells c).Else-not-record_fits text C))

pub close_record-requires : goal.close_record-requires
close_record-requires c =
    let C = c.requires.0.are in
    draft_closes (cells_drafted C.pass c.if-table-cells.false (fits (goal.at.close_record-requires c).Else-not-record_fits _ C) _ (left (goal.at.close_record-requires c).After-write_cells _ C).1)

pub returns : goal.returns
unfolding darts
returns c text C =
    commit_done _ _ _ _ _ _ _ (read_goes C.pass c.if-table-cells.false _) (read_number C.pass c.if-table-cells.false) c.record_fits.ensures
    (c.if-not-record_fits.false)
    ((left (goal.at.returns c).After-write_cells text C).0, c.close_record.ensures _ _ (left (goal.at.returns c).After-write_cells text C).1 (read_number C.pass c.if-table-cells.false))
    refl (ap (λ (k : ℕ). 48 * k) C.pass.number)
