use Prim.Native.Nat.{◌+◌, ◌*◌, ◌-◌, ◌≤◌, ◌<◌}
use mathlib.Core.Path.{◌≡◌, refl, ◌∙◌}
use native.Mathlib.Omega.{arith}
use lib.ListN.{length, get_or, length-set}
use lib.Seq.{get_or-set_same}
use Rattle.model.specs.Table.{slots}
use Rattle.model.specs.Meaning.Sheets.{half}
use Rattle.theorems.proofs.Maps.Tables.{map_table, live_below}
use Rattle.sheets.proofs.Spreading.{falls, some_room, size_few, size_within, spreading_start, taken_dart, spreading_taken, found_few, begins_of, spreading_next}
use Rattle.sheets.proofs.Layers.{spread_marks, found_size}
use Rattle.sheets.proofs.flood.Goals as goal
use Rattle.sheets.proofs.flood.Goals.{At-loop-size, In-loop-size, Then-marks-g-ne1}

pub overflow_cast-work : goal.overflow_cast-work
overflow_cast-work c =
    let D = c.requires.0 in
    let low = live_below (map_table D.table) _ D.lives in
    let few = D.table.few in
    omega arith

pub bounds-work-0 : goal.bounds-work-0
bounds-work-0 c = some_room c.requires.0 _ c.requires.2

pub loop-size-init : goal.loop-size-init
loop-size-init c =
    let some = some_room c.requires.0 _ c.requires.2 in
    (refl, rw c.requires.1 (spreading_start c.requires.0 _ (get_or-set_same c.args.work.now 0 c.args.d 0 some)))

-- the words are as many as at first
same_words : (c : At-loop-size) → length c.loop-size.work ≡ length c.args.work.now
same_words c = c.loop-size.invariant.0 ∙ length-set c.args.work.now 0 c.args.d

enough : (c : At-loop-size) → slots c.args.table.now ≤ 2 * length c.loop-size.work
enough c = rw (same_words c) c.requires.2

within : (c : In-loop-size) → c.loop-size.size - 1 < length c.loop-size.work
within c =
    let most = size_within c.requires.0 c.loop-size.invariant.1 (enough (goal.at.In-loop-size c).At-loop-size) in
    let some = c.loop-size-test.true in
    omega arith

-- the dart that is taken is a slot
dart_low : (c : In-loop-size) →
    get_or c.loop-size.work (c.loop-size.size - 1) 0 < slots c.args.table.now
dart_low c =
    let G = taken_dart c.requires.0 c.loop-size.invariant.1 c.loop-size-test.true in
    live_below (map_table G.table) _ G.lives

pub offset_bounds-work-size : goal.offset_bounds-work-size
offset_bounds-work-size c =
    let D = c.requires.0 in
    let low = size_few D c.loop-size.invariant.1 in
    let few = D.table.few in
    omega arith

pub bounds-work-size : goal.bounds-work-size
bounds-work-size c = within (goal.at.bounds-work-size c).In-loop-size

pub overflow_cast-g : goal.overflow_cast-g
overflow_cast-g c =
    let low = dart_low (goal.at.overflow_cast-g c).In-loop-size in
    let few = c.requires.0.table.few in
    omega arith

pub overflow_cast-g-in-loop-size : goal.overflow_cast-g-in-loop-size
overflow_cast-g-in-loop-size c =
    let low = dart_low (goal.at.overflow_cast-g-in-loop-size c).In-loop-size in
    let few = c.requires.0.table.few in
    omega arith

pub bounds-marks-g : goal.bounds-marks-g
bounds-marks-g c =
    let low = dart_low (goal.at.bounds-marks-g c).In-loop-size in
    let long = c.loop-size.invariant.1.long in
    omega arith

pub spread-size-requires : goal.spread-size-requires
spread-size-requires c =
    begins_of c.requires.0 c.loop-size.invariant.1 c.loop-size-test.true c.if-marks-g-ne1.true (enough (goal.at.spread-size-requires c).At-loop-size)

-- the darts found, with the cell's, are slots
few_found : (c : Then-marks-g-ne1) →
    c.loop-size.found + half c.args.n ≤ slots c.args.table.now
few_found c =
    found_few c.requires.0 c.loop-size.invariant.1 c.loop-size-test.true c.if-marks-g-ne1.true

pub overflow_add-found : goal.overflow_add-found
overflow_add-found c =
    let low = few_found (goal.at.overflow_add-found c).Then-marks-g-ne1 in
    let few = c.requires.0.table.few in
    let same = c.half-half.ensures in
    omega arith

pub loop-size-smaller-then-marks-g-ne1 : goal.loop-size-smaller-then-marks-g-ne1
loop-size-smaller-then-marks-g-ne1 c =
    rw c.half-half.ensures
    (falls _ c.requires.0.table.dim _ _ _ _ c.loop-size-test.true c.spread-size.ensures.waiting.high (few_found (goal.at.loop-size-smaller-then-marks-g-ne1 c).Then-marks-g-ne1))

pub loop-size-preserved-then-marks-g-ne1 : goal.loop-size-preserved-then-marks-g-ne1
loop-size-preserved-then-marks-g-ne1 c =
    let Q = c.spread-size.ensures in (
      Q.waiting.long ∙ c.loop-size.invariant.0,
      rw c.half-half.ensures
          (spreading_next c.requires.0 c.loop-size.invariant.1 c.loop-size-test.true Q),
    )

pub loop-size-smaller : goal.loop-size-smaller
loop-size-smaller c = let some = c.loop-size-test.true in omega arith

pub loop-size-preserved : goal.loop-size-preserved
loop-size-preserved c =
    (c.loop-size.invariant.0, spreading_taken c.requires.0 c.loop-size.invariant.1 c.loop-size-test.true c.if-marks-g-ne1.false)

pub returns : goal.returns
returns c =
    let none : c.loop-size.size ≡ 0 = omega arith in
    let P = rw none at c.loop-size.invariant.1 in
    (spread_marks c.requires.0 P, found_size c.requires.0 P)
