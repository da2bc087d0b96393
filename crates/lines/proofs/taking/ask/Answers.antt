-- `lines::taking::ask` meets its contract.
use mathlib.Core.Path.{sym}
use native.Mathlib.Omega.{arith}
use lib.Seq.{length-take-le}
use Rattle.lines.proofs.Fresh.{asked_back}
use Rattle.lines.proofs.taking.ask.Goals as goal

pub slice_bounds-request-end-2 : goal.slice_bounds-request-end-2
slice_bounds-request-end-2 c =
    sym (length-take-le _ _ (omega (arith, c.requires.0, c.requires.2)))

pub slice_bounds-request-end-4 : goal.slice_bounds-request-end-4
slice_bounds-request-end-4 c =
    sym (length-take-le _ _ (omega (arith, c.requires.1, c.requires.2)))

pub returns : goal.returns
returns c =
    let k = c.request.auto in
    asked_back c.request.result c.args.s.slots c.args.table.now _ c.args.marks.now _ _
    (omega (arith, c.requires.0, c.requires.2)) k.table (omega (arith, c.requires.1, c.requires.2)) k.marks
    c.request.ensures
