use mathlib.Core.Path.{sym, ◌∙◌}
use native.Mathlib.Omega.{arith}
use Rattle.walls.proofs.Drawings.{fits_none, fits_more, fits_over, fits_all, fits_not}
use Rattle.walls.proofs.drawn.Goals as goal

pub skip_blocks-x-requires : goal.skip_blocks-x-requires
skip_blocks-x-requires c = omega arith

pub loop-x-init : goal.loop-x-init
loop-x-init c =
    let a = c.args in
    let S = c.skip_blocks-x.ensures in
    (fits_over a.table.now a.marks.now (fits_none a.table.now a.marks.now) S, S.within)

pub bounds-marks-x : goal.bounds-marks-x
bounds-marks-x c = omega arith

pub overflow_cast-x : goal.overflow_cast-x
overflow_cast-x c = omega arith

pub returns-then-not-mark_fits : goal.returns-then-not-mark_fits
returns-then-not-mark_fits c =
    let low = c.loop-x-test.true in
    let long = c.requires.0 in
    sym (fits_not c.args.table.now c.args.marks.now c.loop-x.x (omega arith)
    (sym c.mark_fits.ensures ∙ c.if-not-mark_fits.true))

pub overflow_add-x : goal.overflow_add-x
overflow_add-x c = omega arith

pub skip_clear-x-requires : goal.skip_clear-x-requires
skip_clear-x-requires c = omega arith

pub loop-x-smaller : goal.loop-x-smaller
loop-x-smaller c = let on = c.skip_clear-x.ensures.onward in omega arith

pub loop-x-preserved : goal.loop-x-preserved
loop-x-preserved c =
    let a = c.args in
    let S = c.skip_clear-x.ensures in
    let here = sym c.mark_fits.ensures ∙ c.if-not-mark_fits.false in
    (fits_over a.table.now a.marks.now (fits_more a.table.now a.marks.now c.loop-x.x c.loop-x.invariant.0 here) S, S.within)

pub returns : goal.returns
returns c =
    let long = c.requires.0 in
    let end = c.loop-x-test.false in
    sym (fits_all c.args.table.now c.args.marks.now c.loop-x.x (omega arith) c.loop-x.invariant.0)
