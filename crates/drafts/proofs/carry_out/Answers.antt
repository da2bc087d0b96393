-- `carry_out` meets its contract: `close_record`, and `put_record` of the record that was closed.
use native.Mathlib.Omega.{arith}
use Rattle.model.specs.Journal.{cursor}
use Rattle.drafts.proofs.Carrying.{draft_closes, closed_puts, carried}
use Rattle.drafts.proofs.carry_out.Goals as goal

pub bounds-journal-0 : goal.bounds-journal-0
bounds-journal-0 c =
    let d = c.requires.drafted in
    let closes = draft_closes d in
    omega arith

pub overflow_cast-start : goal.overflow_cast-start
overflow_cast-start c = omega (arith, c.slice_known-3-1.given 0)

pub close_record-requires : goal.close_record-requires
close_record-requires c = draft_closes c.requires.drafted

pub put_record-requires : goal.put_record-requires
unfolding cursor
put_record-requires c =
    let d = c.requires.drafted in
    closed_puts d _ _ (c.close_record.ensures _ _ d.draft d.count)

pub returns : goal.returns
unfolding cursor
returns c u j d =
    carried d _ _ (c.close_record.ensures _ _ d.draft d.count) _ c.put_record.ensures
