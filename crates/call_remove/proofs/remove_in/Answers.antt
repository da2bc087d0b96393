-- `call_remove::remove_in` meets its contract: the sheet, 15 by the number of changes; the record drafted and carried out.
use Prim.Native.Nat.{ℕ, ◌+◌, ◌*◌}
use mathlib.Core.Path.{◌≡◌, refl}
use mathlib.Core.List.{List}
use native.Mathlib.Omega.{arith}
use lib.ListN.{length}
use Rattle.model.specs.Journal.{changes_from}
use Rattle.model.specs.Remove.{removed}
use Rattle.drafts.proofs.Commits.{fits_room}
use Rattle.answers.proofs.Layered.{Sheeted, layered, given, marks_long, marks_few, marks_low}
use Rattle.answers.proofs.Commits.{commit_full, commit_done}
use Rattle.call_remove.specs.Removing.{Removing}
use Rattle.call_remove.proofs.Ends.{remove_goes, changes_number, removing, layer_drafted}
use Rattle.call_remove.proofs.remove_in.Goals as goal
use Rattle.call_remove.proofs.remove_in.Goals.{After-count_layer-counts, After-sheet, Else-not-record_fits}

-- its marks
abbrev marks : After-sheet → List ℕ
marks c = c.sheet.new.marks

sheeted : (c : After-sheet) → let a = c.args in
    Sheeted a.n a.table.now a.marks.now a.journal.now a.d (marks c)
sheeted c = record { passed = c.requires.d_value; marked = c.sheet.ensures.0 }

-- so many entries change
number : (c : After-count_layer-counts) →
    let r = c.count_layer-counts.result in
    let a = c.args in
    4 * r.darts + r.edge
    ≡ length (changes_from 0 a.table.now (removed a.n a.table.now (marks (goal.at.After-count_layer-counts c).After-sheet)))
number c = let (inner, three, _) = c.count_layer-counts.ensures in changes_number (sheeted (goal.at.After-count_layer-counts c).After-sheet) inner three

-- what the record is drafted from
drafting : (c : Else-not-record_fits) →
    let a = c.args in
    Removing a.n a.table.now (marks (goal.at.Else-not-record_fits c).After-sheet) a.journal.now
drafting c =
    removing (sheeted (goal.at.Else-not-record_fits c).After-sheet)
    (fits_room _ _ _ _ (number (goal.at.Else-not-record_fits c).After-count_layer-counts) _ c.record_fits.ensures (c.if-not-record_fits.false))

-- ---- the needs
pub sheet-requires : goal.sheet-requires
sheet-requires c =
    let passed = c.requires.d_value in let room = c.requires.table_bound in
    let L = layered passed in
    (L.dart, marks_long L, room)

pub count_layer-counts-requires : goal.count_layer-counts-requires
count_layer-counts-requires c =
    let H = sheeted (goal.at.count_layer-counts-requires c).After-sheet in
    (marks_few H, marks_low H)

pub overflow_mul-changes : goal.overflow_mul-changes
overflow_mul-changes c =
    let few = marks_few (sheeted (goal.at.overflow_mul-changes c).After-sheet) in
    let most = c.count_layer-counts.ensures.2 in
    omega arith

pub overflow_add-changes : goal.overflow_add-changes
overflow_add-changes c =
    let few = marks_few (sheeted (goal.at.overflow_add-changes c).After-sheet) in
    let most = c.count_layer-counts.ensures.2 in
    omega arith

pub record_fits-requires : goal.record_fits-requires
record_fits-requires c =
    let r = (given (sheeted (goal.at.record_fits-requires c).After-sheet)).rule in
    let long = r.long in
    let ends = r.ends in
    let within = r.within in
    (omega arith, omega arith)

pub returns-then-not-record_fits : goal.returns-then-not-record_fits
returns-then-not-record_fits c =
    commit_full _ _ _ _ _ _ _ (remove_goes (sheeted (goal.at.returns-then-not-record_fits c).After-sheet) _) (number (goal.at.returns-then-not-record_fits c).After-count_layer-counts) c.record_fits.ensures
    (c.if-not-record_fits.true) c.into.ensures

pub write_layer-requires : goal.write_layer-requires
write_layer-requires c = drafting (goal.at.write_layer-requires c).Else-not-record_fits

pub carry_out-requires : goal.carry_out-requires
carry_out-requires c =
    record {
      u = _;
      j = _;
      drafted = layer_drafted (drafting (goal.at.carry_out-requires c).Else-not-record_fits) _ (number (goal.at.carry_out-requires c).After-count_layer-counts) _ c.write_layer.ensures;
    }

pub returns : goal.returns
returns c =
    commit_done _ _ _ _ _ _ _ (remove_goes (sheeted (goal.at.returns c).After-sheet) _) (number (goal.at.returns c).After-count_layer-counts) c.record_fits.ensures
    (c.if-not-record_fits.false)
    (c.carry_out.ensures _ _ (layer_drafted (drafting (goal.at.returns c).Else-not-record_fits) _ (number (goal.at.returns c).After-count_layer-counts) _ c.write_layer.ensures))
    refl c.count_layer-counts.ensures.0
