-- `call_read_vtk::judge_many` meets its contract.
use mathlib.Core.Path.{◌≡◌}
use native.Mathlib.Omega.{arith}
use lib.ListN.{length}
use borrow.Author.Rules.{rules}
use Rattle.call_read_vtk.proofs.Judging.{once_passes, judged_repeated, judged_verdict, judgeable}
use Rattle.call_read_vtk.proofs.judge_many.Goals as goal

pub returns-then-any_repeated : goal.returns-then-any_repeated
returns-then-any_repeated c rs C = judged_repeated rs (c.any_repeated.ensures rs C) c.if-any_repeated.true

pub judge-requires : goal.judge-requires
judge-requires c =
    let (some, lent) = c.requires in
    let C = some.is in
    let long = lent.rows_long in
    let kept : length c.any_repeated.new.rows ≡ length c.args.rows.now = search rules in
    let nexts = lent.nexts_long in
    let mates = lent.mates_long in (
      record { rows = _; is = judgeable C (once_passes _ (c.any_repeated.ensures _ C) c.if-any_repeated.false) },
      omega arith,
      record { few = omega arith; heads_long = lent.heads_long; nexts_room = omega arith; mates_room = omega arith },
    )

pub returns : goal.returns
returns c rs C =
    let once = once_passes rs (c.any_repeated.ensures rs C) c.if-any_repeated.false in
    judged_verdict rs once _ (c.judge.ensures rs (judgeable C once))
