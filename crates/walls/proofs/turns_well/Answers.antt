-- `walls::turns_well` meets its contract.
use native.Mathlib.Omega.{arith}
use Rattle.theorems.proofs.Insert.Turn.{next_on}
use Rattle.walls.proofs.Drawings.{dart_in, entry_of}
use Rattle.walls.proofs.Nexting.{drawn_of}
use Rattle.walls.proofs.Joints.{Joint, joint_free, joint_flat, joint_solid}
use Rattle.walls.proofs.turns_well.Goals as goal
use Rattle.walls.proofs.turns_well.Goals.{After-word-b}

-- next(h), h.n and next(h.n) have been read
read : (c : After-word-b) →
    let a = c.args in
    Joint a.n a.table.now a.next.now a.h c.word-a.result c.link_in-over.result c.word-b.result
read c =
    record { a_is = c.word-a.ensures; over_is = c.link_in-over.ensures; b_is = c.word-b.ensures }

pub word-a-requires : goal.word-a-requires
word-a-requires c =
    let p = c.requires in
    let room = p.nexts.room in
    let low = dart_in p.nexts.closed.drawing _ p.dart in
    omega arith

pub link_in-over-requires : goal.link_in-over-requires
link_in-over-requires c =
    let p = c.requires in
    let D = p.nexts.closed.drawing in
    let dim = D.table.dim in
    entry_of D _ p.dart _ (omega arith)

pub word-b-requires : goal.word-b-requires
word-b-requires c =
    let p = c.requires in
    let C = p.nexts.closed in
    let room = p.nexts.room in
    let low = dart_in C.drawing _ ((drawn_of C).over _ p.dart) in
    let is = c.link_in-over.ensures in
    omega arith

pub returns-then-a-h : goal.returns-then-a-h
returns-then-a-h c m N i = joint_free N i (read (goal.at.returns-then-a-h c).After-word-b) c.if-a-h.true

pub link_in-requires : goal.link_in-requires
link_in-requires c =
    let p = c.requires in
    let C = p.nexts.closed in
    let dim = C.drawing.table.dim in
    rw (c.word-a.ensures, p.nexts.next _ p.dart) (entry_of C.drawing _ (next_on (drawn_of C) _ p.dart) _ (omega arith))

pub link_in-along-requires : goal.link_in-along-requires
link_in-along-requires c =
    let p = c.requires in
    entry_of p.nexts.closed.drawing _ p.dart 0 (omega arith)

pub link_in-requires-then-n-eq3 : goal.link_in-requires-then-n-eq3
link_in-requires-then-n-eq3 c =
    let p = c.requires in
    let C = p.nexts.closed in
    let dim = C.drawing.table.dim in
    rw c.link_in-along.ensures (entry_of C.drawing _ ((drawn_of C).along _ 0 (omega arith) p.dart) _ (omega arith))

pub returns-then-n-eq3 : goal.returns-then-n-eq3
returns-then-n-eq3 c m N i =
    joint_solid N i (read (goal.at.returns-then-n-eq3 c).After-word-b) c.if-a-h.false _ c.link_in.ensures c.if-n-eq3.true _ _
    c.link_in-along.ensures c.link_in-then-n-eq3.ensures

pub returns-else-n-eq3 : goal.returns-else-n-eq3
returns-else-n-eq3 c m N i =
    joint_flat N i (read (goal.at.returns-else-n-eq3 c).After-word-b) c.if-a-h.false _ c.link_in.ensures c.if-n-eq3.false
