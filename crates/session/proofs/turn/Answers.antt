-- `session::turn` meets its contract.
use mathlib.Core.Path.{sym}
use native.Mathlib.Omega.{arith}
use lib.Seq.{length-take-le}
use Rattle.session.proofs.turn.Goals as goal

pub slice_bounds-write_all-end : goal.slice_bounds-write_all-end
slice_bounds-write_all-end c =
    let told = c.feed-step.ensures in
    omega (arith, told.few, c.feed-step.auto.out, c.requires.line_bound.1)

pub slice_bounds-write_all-end-2 : goal.slice_bounds-write_all-end-2
slice_bounds-write_all-end-2 c =
    let told = c.feed-step.ensures in
    sym (length-take-le _ _ (omega (arith, told.few, c.feed-step.auto.out, c.requires.line_bound.1)))

pub returns : goal.returns
returns c =
    let told = c.feed-step.ensures in
    (told.kept, omega (arith, told.line))
