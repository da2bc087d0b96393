-- `call_insert::insert_in` meets its contract: the wall tested, 14 by the slots found, 15 by the number of changes; the darts listed, the
-- record drafted and carried out.
use Prim.Native.Nat.{◌+◌, ◌*◌, ◌≤◌}
use mathlib.Core.Path.{refl}
use mathlib.Core.Bool.{true}
use native.Mathlib.Omega.{arith}
use lib.ListN.{length, drop}
use Rattle.model.specs.Table.{slots}
use Rattle.model.specs.Insert.{insert_table}
use Rattle.theorems.proofs.Maps.Tables.{map_table}
use Rattle.drafts.specs.Passes.{Drafted}
use Rattle.answers.proofs.Given.{told_given}
use Rattle.answers.proofs.Commits.{commit_full, commit_done}
use Rattle.new_darts.specs.News.{insert_made}
use Rattle.new_darts.specs.Drafting.{Writing}
use Rattle.call_insert.proofs.Ends.{Opened, opened as is-opened, wall_refused, new_few, both_few, changes_few, insert_few}
use Rattle.call_insert.proofs.Ends.{insert_goes, changes_number, behind_asked, writing, insert_drafted, some_new, first_new, new_count}
use Rattle.call_insert.proofs.insert_in.Goals as goal
use Rattle.call_insert.proofs.insert_in.Goals.{After-find_slots, After-list_behind, After-write_in, In-Ok, Start}

opened : (s : Start) → Opened s.args.n s.args.table.now s.args.marks.now s.args.journal.now
opened s = is-opened s.requires.journal_value

pub test-requires : goal.test-requires
test-requires c =
    let O = opened (goal.at.test-requires c).Start in
    let p = c.requires.table_in_bounds in
    record { table = O.table; long = O.long; queue_room = p.0; next_room = p.1; seen_room = p.2; clear = p.3 }

pub returns-in-Err : goal.returns-in-Err
returns-in-Err c = wall_refused (opened (goal.at.returns-in-Err c).Start) _ c.in-Err.ensures.refuses c.into.ensures

pub overflow_mul-new : goal.overflow_mul-new
overflow_mul-new c =
    let few = new_few (opened (goal.at.overflow_mul-new c).Start) c.in-Ok.ensures.passes in
    omega arith

pub find_slots-requires : goal.find_slots-requires
find_slots-requires c =
    let O = opened (goal.at.find_slots-requires c).Start in
    let few = both_few O c.in-Ok.ensures.passes in
    let room = c.requires.table_in_bounds.0 in
    (O.fits, told_given (map_table O.table), omega arith, λ most. omega arith)

pub returns-then-not-find_slots : goal.returns-then-not-find_slots
returns-then-not-find_slots c =
    insert_few (opened (goal.at.returns-then-not-find_slots c).Start) c.in-Ok.ensures.passes c.find_slots.ensures _ (c.if-not-find_slots.true) c.into-then-not-find_slots.ensures

pub overflow_mul-changes : goal.overflow_mul-changes
overflow_mul-changes c =
    let few = changes_few (opened (goal.at.overflow_mul-changes c).Start) c.in-Ok.ensures.passes in
    let three = (opened (goal.at.overflow_mul-changes c).Start).table.dim.1 in
    omega arith

pub overflow_add-changes : goal.overflow_add-changes
overflow_add-changes c =
    let three = (opened (goal.at.overflow_add-changes c).Start).table.dim.1 in
    omega arith

pub overflow_mul-changes-2 : goal.overflow_mul-changes-2
overflow_mul-changes-2 c =
    let few = changes_few (opened (goal.at.overflow_mul-changes-2 c).Start) c.in-Ok.ensures.passes in
    omega arith

pub record_fits-requires : goal.record_fits-requires
record_fits-requires c =
    let r = (opened (goal.at.record_fits-requires c).Start).rule in
    let long = r.long in
    let ends = r.ends in
    let within = r.within in
    (omega arith, omega arith)

pub returns-then-not-record_fits : goal.returns-then-not-record_fits
returns-then-not-record_fits c =
    let all = c.if-not-find_slots.false in
    commit_full _ _ _ _ _ _ _ (insert_goes (opened (goal.at.returns-then-not-record_fits c).Start) c.in-Ok.ensures.passes c.find_slots.ensures all _)
    (changes_number (opened (goal.at.returns-then-not-record_fits c).Start) c.in-Ok.ensures.passes c.find_slots.ensures all)
    c.record_fits.ensures (c.if-not-record_fits.true) c.into-then-not-record_fits.ensures

-- the slices are as long as they were: the queue, where the slots are found; nexts and places, where the wall is tested
queue_long : (f : After-find_slots) →
    slots f.args.table.now ≤ length f.find_slots.new.fresh
queue_long f =
    let room = f.requires.table_in_bounds.0 in
    let kept = f.queue-1.given in
    let same = f.find_slots.ensures.long in
    omega arith

nexts_long : (e : In-Ok) →
    slots e.args.table.now ≤ length e.test.new.next
nexts_long e =
    let room = e.requires.table_in_bounds.1 in
    let kept = e.nexts-1.given in
    omega arith

places_long : (e : In-Ok) →
    slots e.args.table.now ≤ length e.test.new.seen
places_long e =
    let room = e.requires.table_in_bounds.2 in
    let kept = e.places-1.given in
    omega arith

pub list_behind-requires : goal.list_behind-requires
list_behind-requires c =
    behind_asked (opened (goal.at.list_behind-requires c).Start) c.in-Ok.ensures.passes c.find_slots.ensures (c.if-not-find_slots.false) _ _
    (queue_long (goal.at.list_behind-requires c).After-find_slots) (places_long (goal.at.list_behind-requires c).In-Ok)

write : (c : After-list_behind) →
    let a = c.args in
    Writing a.n true a.table.now (insert_made a.n a.table.now a.marks.now) c.test.new.next
    (drop (a.n * c.in-Ok.size) c.list_behind.new.queue) c.list_behind.new.queue c.list_behind.new.places
    c.in-Ok.size a.journal.now
write c =
    writing (opened (goal.at.After-list_behind c).Start) c.in-Ok.ensures.passes c.find_slots.ensures (c.if-not-find_slots.false) refl
    c.record_fits.ensures (c.if-not-record_fits.false) c.list_behind.ensures (queue_long (goal.at.After-list_behind c).After-find_slots) (nexts_long (goal.at.After-list_behind c).In-Ok) (places_long (goal.at.After-list_behind c).In-Ok)

pub write_in-requires : goal.write_in-requires
write_in-requires c =
    let few = new_few (opened (goal.at.write_in-requires c).Start) c.in-Ok.ensures.passes in
    ((_, write (goal.at.write_in-requires c).After-list_behind), omega arith)

-- the record is drafted
draft : (c : After-write_in) →
    let a = c.args in
    Drafted a.table.now (insert_table a.n a.table.now a.marks.now) a.journal.now ((4 * a.n + 1) * c.in-Ok.size)
    c.write_in.new.journal
draft c =
    insert_drafted (opened (goal.at.After-write_in c).Start) c.in-Ok.ensures.passes c.find_slots.ensures (c.if-not-find_slots.false) refl
    c.record_fits.ensures (c.if-not-record_fits.false) _ (c.write_in.ensures _ (write (goal.at.After-write_in c).After-list_behind))

pub carry_out-requires : goal.carry_out-requires
carry_out-requires c = record { u = _; j = _; drafted = draft (goal.at.carry_out-requires c).After-write_in }

pub bounds-queue-0 : goal.bounds-queue-0
bounds-queue-0 c =
    let some = some_new (opened (goal.at.bounds-queue-0 c).Start) c.in-Ok.ensures.passes c.find_slots.ensures (c.if-not-find_slots.false) in
    let within = c.find_slots.ensures.within (c.if-not-find_slots.false) in
    let long = queue_long (goal.at.bounds-queue-0 c).After-find_slots in
    let same = c.list_behind.ensures.long in
    omega arith

pub overflow_cast-result : goal.overflow_cast-result
overflow_cast-result c = omega (arith, c.slice_known-15-1.given 0)

pub returns : goal.returns
returns c =
    let all = c.if-not-find_slots.false in
    commit_done _ _ _ _ _ _ _ (insert_goes (opened (goal.at.returns c).Start) c.in-Ok.ensures.passes c.find_slots.ensures all _)
    (changes_number (opened (goal.at.returns c).Start) c.in-Ok.ensures.passes c.find_slots.ensures all)
    c.record_fits.ensures (c.if-not-record_fits.false) (c.carry_out.ensures _ _ (draft (goal.at.returns c).After-write_in))
    (first_new (opened (goal.at.returns c).Start) c.in-Ok.ensures.passes c.find_slots.ensures all _ c.list_behind.ensures.before)
    (new_count (opened (goal.at.returns c).Start) c.in-Ok.ensures.passes c.find_slots.ensures all)
