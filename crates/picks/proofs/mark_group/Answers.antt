use Prim.Native.Nat.{suc, ◌+◌, ◌-◌, ◌≤◌, ◌<◌}
use mathlib.Core.Path.{◌≡◌, ◌∙◌}
use native.Mathlib.Omega.{arith}
use lib.ListN.{get_or, drop, length-drop}
use Rattle.std.proofs.Common.{length-take-le, get_or-drop, get_or-take}
use Rattle.model.specs.Table.{slots}
use Rattle.picks.specs.Enter.{Dart}
use Rattle.picks.specs.Queued.{group}
use Rattle.picks.proofs.Darts.{dart_of, dart_low, dart_there, dart_next}
use Rattle.picks.proofs.mark_group.Goals as goal
use Rattle.picks.proofs.mark_group.Goals.{After-link_in-y, In-loop-x, Start}

-- ---- the first dart
first_dart : (s : Start) → Dart s.args.table.now (get_or s.args.queue.now s.args.from 0)
first_dart s =
    let P = s.requires in
    let two = P.dim.0 in
    let D = P.darts 0 (omega arith) in
    let at : s.args.from + 0 ≡ s.args.from = omega arith in
    dart_of (rw at at D)

-- the words of the group are slots
few : (s : Start) → s.args.from + group s.args.n ≤ 65536
few s =
    let P = s.requires in
    let two = P.dim.0 in
    let slots = (P.darts 0 (omega arith)).table.few in
    let words = P.words in
    let room = P.room in
    omega arith

pub offset_bounds-queue-from : goal.offset_bounds-queue-from
offset_bounds-queue-from c = let most = few (goal.at.offset_bounds-queue-from c).Start in omega arith

pub bounds-queue-from : goal.bounds-queue-from
bounds-queue-from c =
    let P = c.requires in
    let two = P.dim.0 in
    let room = P.room in
    omega arith

pub link_in-y-requires : goal.link_in-y-requires
link_in-y-requires c = dart_there (first_dart (goal.at.link_in-y-requires c).Start) 1 (omega arith)

over : (c : After-link_in-y) → c.link_in-y.result < slots c.args.table.now
over c =
    let low = dart_low (dart_next (first_dart (goal.at.After-link_in-y c).Start) 1 (omega arith)) in
    let is = c.link_in-y.ensures in
    omega arith

pub overflow_cast-unmet : goal.overflow_cast-unmet
overflow_cast-unmet c = let low = over c in let D = first_dart (goal.at.overflow_cast-unmet c).Start in let slots = D.1.table.few in omega arith

pub bounds-marks-y : goal.bounds-marks-y
bounds-marks-y c = let low = over (goal.at.bounds-marks-y c).After-link_in-y in let long = c.requires.long in omega arith

pub group-requires : goal.group-requires
group-requires c = c.requires.dim

pub loop-x-preserved : goal.loop-x-preserved
loop-x-preserved c =
    let (few, long, to) = c.loop-x.invariant in
    let from = c.args.from in
    let w = c.args.queue.now in
    let j = c.loop-x.x-index in
    let is = c.group.ensures in
    let room = c.requires.room in
    let behind = length-drop from w in
    let size = length-take-le (from + c.group.result - from) (drop from w) (omega arith) in
    let low : j < group c.args.n = let inside = c.loop-x-test.true in omega arith in
    let item = get_or-take (from + c.group.result - from) (drop from w) j 0 (omega arith) ∙ get_or-drop from w j 0 in
    let same : j + 1 ≡ suc j = omega arith in
    (omega arith, c.mark_beside.auto.marks ∙ long, rw same (c.loop-x.marks, to, rw item at c.mark_beside.ensures))
