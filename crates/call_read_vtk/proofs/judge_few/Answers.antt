-- `call_read_vtk::judge_few` meets its contract.
use native.Mathlib.Omega.{arith}
use Rattle.call_read_vtk.proofs.Judging.{once_passes, judged_repeated, judged_none, cells_in, judged_held}
use Rattle.call_read_vtk.proofs.judge_few.Goals as goal

pub returns-then-repeated : goal.returns-then-repeated
returns-then-repeated c rs C = judged_none (judged_repeated rs (c.repeated.ensures rs C.held C.number) c.if-repeated.true)

pub judge_held-requires : goal.judge_held-requires
judge_held-requires c =
    let (some, few, lent) = c.requires in
    let C = some.is in
    let nexts = lent.nexts_long in
    let mates = lent.mates_long in
    let once = once_passes some.rows (c.repeated.ensures some.rows C.held C.number) c.if-repeated.false in (
      record { rows = _; is = cells_in C once },
      record { few = few; heads_long = lent.heads_long; nexts_room = omega arith; mates_room = omega arith },
    )

pub returns : goal.returns
returns c rs C =
    let once = once_passes rs (c.repeated.ensures rs C.held C.number) c.if-repeated.false in
    judged_held C once _ (c.judge_held.ensures rs (cells_in C once))
