-- `lines::taking::fresh` meets its contract.
use mathlib.Core.Path.{sym}
use native.Mathlib.Omega.{arith}
use lib.Seq.{length-take-le}
use Rattle.lines.proofs.Fresh.{fresh_lent}
use Rattle.lines.proofs.taking.fresh.Goals as goal

pub slice_bounds-fill-end-2 : goal.slice_bounds-fill-end-2
slice_bounds-fill-end-2 c =
    sym (length-take-le _ _ (omega (arith, c.requires.0, c.requires.3)))

pub slice_bounds-fill-end-4 : goal.slice_bounds-fill-end-4
slice_bounds-fill-end-4 c =
    sym (length-take-le _ _ (omega (arith, c.requires.1, c.requires.3)))

pub returns : goal.returns
returns c =
    fresh_lent c.args.slots c.args.table.now _ c.args.marks.now _ _ (omega (arith, c.requires.0, c.requires.3))
    (c.fill.ensures.after (λ _ e. e)) (omega (arith, c.requires.1, c.requires.3)) (c.fill-2.ensures.after (λ _ e. e))
    (rw c.requires.2 at c.fresh_journal.ensures)
