-- `call_split::split_in` meets its contract: the sheet, 13 by its marks, 14 by the slots found, 15 by the number of changes; the darts
-- listed, the record drafted and carried out.
use Prim.Native.Nat.{◌+◌, ◌*◌, ◌≤◌}
use mathlib.Core.Path.{refl}
use mathlib.Core.Bool.{false}
use native.Mathlib.Omega.{arith}
use lib.ListN.{length}
use Rattle.model.specs.Table.{slots}
use Rattle.model.specs.Split.{split_table}
use Rattle.theorems.proofs.Maps.Tables.{map_table}
use Rattle.drafts.specs.Passes.{Drafted}
use Rattle.answers.proofs.Given.{told_given}
use Rattle.answers.proofs.Commits.{commit_full, commit_done}
use Rattle.answers.proofs.Layered.{Sheeted, layered, given, layer}
use Rattle.new_darts.specs.News.{split_made}
use Rattle.new_darts.specs.Drafting.{Writing}
use Rattle.call_split.proofs.Ends.{marks_long, leads_in, new_few, changes_few, split_crosses, split_few, ready as is-ready, Ready}
use Rattle.call_split.proofs.Ends.{split_goes, changes_number, some_new, first_new, new_count, darts_asked, writing, split_drafted}
use Rattle.call_split.proofs.split_in.Goals as goal
use Rattle.call_split.proofs.split_in.Goals.{After-list_darts, After-sheet-size, After-write_split, Else-not-find_slots}

abbrev sheeted : (c : After-sheet-size) → let a = c.args in
    Sheeted a.n a.table.now a.marks.now a.journal.now a.d c.sheet-size.new.marks
sheeted c = record { passed = c.requires.d_value; marked = c.sheet-size.ensures.0 }

pub sheet-size-requires : goal.sheet-size-requires
sheet-size-requires c =
    let L = layered c.requires.d_value in
    (L.dart, marks_long L, c.requires.table_bound.0)

pub crosses-requires : goal.crosses-requires
crosses-requires c =
    leads_in (sheeted (goal.at.crosses-requires c).After-sheet-size) c.sheet-size.ensures.1

pub returns-then-crosses : goal.returns-then-crosses
returns-then-crosses c =
    split_crosses (sheeted (goal.at.returns-then-crosses c).After-sheet-size) c.sheet-size.ensures.1 c.crosses.ensures _ c.if-crosses.true c.into.ensures

pub overflow_mul-new : goal.overflow_mul-new
overflow_mul-new c =
    let few = new_few (sheeted (goal.at.overflow_mul-new c).After-sheet-size) c.sheet-size.ensures.1 in
    omega arith

pub find_slots-requires : goal.find_slots-requires
find_slots-requires c =
    let H = sheeted (goal.at.find_slots-requires c).After-sheet-size in
    let few = new_few H c.sheet-size.ensures.1 in
    let room = c.requires.table_bound.0 in
    ((given H).table, told_given (map_table (given H).dart.table), omega arith, λ most. omega arith)

pub returns-then-not-find_slots : goal.returns-then-not-find_slots
returns-then-not-find_slots c =
    split_few (sheeted (goal.at.returns-then-not-find_slots c).After-sheet-size) c.sheet-size.ensures.1 c.crosses.ensures c.if-crosses.false c.find_slots.ensures _
    (c.if-not-find_slots.true) c.into-then-not-find_slots.ensures

ready : (c : Else-not-find_slots) →
    let a = c.args in
    Ready a.n a.table.now a.marks.now a.journal.now a.d c.sheet-size.new.marks c.sheet-size.result
    c.find_slots.new.fresh
ready c =
    is-ready (sheeted (goal.at.Else-not-find_slots c).After-sheet-size) c.sheet-size.ensures.1 c.crosses.ensures c.if-crosses.false c.find_slots.ensures
    (c.if-not-find_slots.false)

-- the slice of the new slots is as long as it was
long : (c : Else-not-find_slots) →
    slots c.args.table.now ≤ 2 * length c.find_slots.new.fresh
long c =
    let room = c.requires.table_bound.0 in
    let kept = c.fresh-1.given in
    let same = c.find_slots.ensures.long in
    omega arith

pub overflow_mul-changes : goal.overflow_mul-changes
overflow_mul-changes c =
    let few = changes_few (sheeted (goal.at.overflow_mul-changes c).After-sheet-size) c.sheet-size.ensures.1 in
    let three = (given (sheeted (goal.at.overflow_mul-changes c).After-sheet-size)).dart.table.dim.1 in
    omega arith

pub overflow_add-changes : goal.overflow_add-changes
overflow_add-changes c =
    let few = changes_few (sheeted (goal.at.overflow_add-changes c).After-sheet-size) c.sheet-size.ensures.1 in
    let three = (given (sheeted (goal.at.overflow_add-changes c).After-sheet-size)).dart.table.dim.1 in
    omega arith

pub overflow_mul-changes-2 : goal.overflow_mul-changes-2
overflow_mul-changes-2 c =
    let few = changes_few (sheeted (goal.at.overflow_mul-changes-2 c).After-sheet-size) c.sheet-size.ensures.1 in
    let three = (given (sheeted (goal.at.overflow_mul-changes-2 c).After-sheet-size)).dart.table.dim.1 in
    omega arith

pub record_fits-requires : goal.record_fits-requires
record_fits-requires c =
    let r = (given (sheeted (goal.at.record_fits-requires c).After-sheet-size)).rule in
    let long = r.long in
    let ends = r.ends in
    let within = r.within in
    (omega arith, omega arith)

pub returns-then-not-record_fits : goal.returns-then-not-record_fits
returns-then-not-record_fits c =
    let R = ready (goal.at.returns-then-not-record_fits c).Else-not-find_slots in
    commit_full _ _ _ _ _ _ _ (split_goes R _) (changes_number R) c.record_fits.ensures (c.if-not-record_fits.true) c.into-then-not-record_fits.ensures

-- ---- the record
pub list_darts-requires : goal.list_darts-requires
list_darts-requires c =
    let R = ready (goal.at.list_darts-requires c).Else-not-find_slots in
    let long = (layer R.sheeted).long in
    let asked = darts_asked R _ c.requires.table_bound.1 in
    record { marks_len_bound = (asked.0, asked.1, asked.2, asked.3); size_in_bounds = (asked.4, omega arith) }

write : (c : After-list_darts) →
    let a = c.args in
    Writing a.n false a.table.now (split_made a.n a.table.now a.d) c.list_darts.new.places c.list_darts.new.darts
    c.find_slots.new.fresh c.list_darts.new.places
    c.sheet-size.result a.journal.now
write c =
    let p = c.requires.table_bound in
    writing (ready (goal.at.After-list_darts c).Else-not-find_slots) refl c.record_fits.ensures (c.if-not-record_fits.false) c.list_darts.ensures (long (goal.at.After-list_darts c).Else-not-find_slots) p.1 p.2

pub write_split-requires : goal.write_split-requires
write_split-requires c = (_, write (goal.at.write_split-requires c).After-list_darts)

-- the record is drafted
draft : (c : After-write_split) →
    let a = c.args in
    Drafted a.table.now (split_table a.n a.table.now a.d) a.journal.now ((4 * a.n + 1) * c.sheet-size.result)
    c.write_split.new.journal
draft c =
    split_drafted (ready (goal.at.After-write_split c).Else-not-find_slots) refl c.record_fits.ensures (c.if-not-record_fits.false) _
    (c.write_split.ensures _ (write (goal.at.After-write_split c).After-list_darts))

pub carry_out-requires : goal.carry_out-requires
carry_out-requires c = record { u = _; j = _; drafted = draft (goal.at.carry_out-requires c).After-write_split }

pub bounds-fresh-0 : goal.bounds-fresh-0
bounds-fresh-0 c =
    let R = ready (goal.at.bounds-fresh-0 c).Else-not-find_slots in
    let some = some_new R.sheeted R.number in
    let half = R.half in
    let long = long (goal.at.bounds-fresh-0 c).Else-not-find_slots in
    omega arith

pub overflow_cast-result : goal.overflow_cast-result
overflow_cast-result c = omega (arith, c.slice_known-15-1.given 0)

pub returns : goal.returns
returns c =
    let R = ready (goal.at.returns c).Else-not-find_slots in
    commit_done _ _ _ _ _ _ _ (split_goes R _) (changes_number R) c.record_fits.ensures (c.if-not-record_fits.false)
    (c.carry_out.ensures _ _ (draft (goal.at.returns c).After-write_split)) (first_new R) (new_count R)
