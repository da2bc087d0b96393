-- `lines::line_ended` meets its contract: the line gives a value, or is bad.
use mathlib.Core.Path.{sym, ap, ◌∙◌}
use mathlib.Core.List.{[]}
use native.Mathlib.Omega.{arith}
use lib.Seq.{length-take-le}
use Rattle.texts.specs.Texts.{given_by}
use Rattle.lines.specs.Held.{lent}
use Rattle.lines.proofs.Steps.{fits_read, taken_told, bad_told}
use Rattle.lines.proofs.line_ended.Goals as goal

pub slice_bounds-given-end : goal.slice_bounds-given-end
slice_bounds-given-end c =
    sym (length-take-le _ _ (omega (arith, c.requires.room.1.short, c.requires.room.0.line)))

pub done-end-requires : goal.done-end-requires
done-end-requires c =
    let s = c.args.s in
    let room = c.requires.room.0 in
    let f = fits_read s.key 0 0 0 0 (lent 0 [] [] []) _ _
    (sym (ap given_by c.in-Some.is) ∙ c.given.ensures 0 0 0 0 _) in
    record { in_bounds = (room.table, room.marks, room.journal, c.requires.room.1.few); fits = (f, omega (arith, c.requires.line_bound.1)) }

pub returns-in-Some : goal.returns-in-Some
returns-in-Some c =
    let s = c.args.s in
    let gives = sym (ap given_by c.in-Some.is) ∙ c.given.ensures s.n s.op s.i s.d _ in
    rw c.noted.ensures
    (taken_told s _ _ _ _ _ _ _ _ _ _ _ _ c.requires.room.2 c.requires.room.1 gives c.done-end.ensures)

pub returns-in-None : goal.returns-in-None
returns-in-None c =
    let s = c.args.s in
    let gives = sym (ap given_by c.in-None.is)
    ∙ c.given.ensures s.n s.op s.i s.d _ in
    bad_told s _ _ _ _ _ _ _ _ c.requires.room.2 c.requires.room.1 gives c.say-end.ensures.0 c.say-end.ensures.1
