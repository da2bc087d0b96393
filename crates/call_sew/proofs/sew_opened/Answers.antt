-- `call_sew::sew_opened` meets its contract, by `sew_with` of a size.
use native.Mathlib.Omega.{arith}
use Rattle.answers.proofs.Given.{room_given, room_small}
use Rattle.call_sew.proofs.Ends.{list_ready}
use Rattle.call_sew.proofs.sew_opened.Goals as goal

pub sew_with-requires : goal.sew_with-requires
sew_with-requires c =
    let h = c.requires in
    let room = room_small 2048 _ (list_ready _ _ _ _ h).table c.if-table.true in
    record { list_value = h; room = (room, omega arith, omega arith, omega arith) }

pub sew_with-requires-then-table-2 : goal.sew_with-requires-then-table-2
sew_with-requires-then-table-2 c =
    let h = c.requires in
    let room = room_small 16384 _ (list_ready _ _ _ _ h).table c.if-table-2.true in
    record { list_value = h; room = (room, omega arith, omega arith, omega arith) }

pub sew_with-requires-2 : goal.sew_with-requires-2
sew_with-requires-2 c =
    let h = c.requires in
    let room = room_given _ (list_ready _ _ _ _ h).table in
    record { list_value = h; room = (room, omega arith, omega arith, omega arith) }
