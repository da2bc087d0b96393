-- `reach::meet` meets its contract.
use mathlib.Core.Path.{◌≡◌, sym, ap, ◌∙◌}
use lib.ListN.{get_or}
use mathlib.Core.List.{map}
use borrow.Author.Tests.{eqb-true, eqb-false}
use Rattle.std.proofs.lemmas.List.{get_or-map, map-set, length-map}
use native.Mathlib.Omega.{arith}
use Rattle.reach.specs.Search.{search_of}
use Rattle.reach.proofs.Meeting.{meet_new, meet_old}
use Rattle.reach.proofs.meet.Given.{Over}
use Rattle.reach.proofs.meet.Goals as goal
use Rattle.reach.proofs.meet.Goals.{After-is_zero-unmarked}

-- what is read of y
read : (g : Over) (c : After-is_zero-unmarked g) → get_or (map g.M.Mark.number c.args.marks.now) c.args.y 0 ≡ g.M.Mark.number c.index-marks-y.result
read g c =
    let a = c.args in
    let inside = rw length-map at c.requires.inside in
    get_or-map g.M.Mark.number a.marks.now a.y c.index-marks-y.result 0 (omega arith) ∙ ap g.M.Mark.number (sym c.index-marks-y.is)

pub returns-then-unmarked : goal.returns-then-unmarked
returns-then-unmarked g c =
    let a = c.args in
    let zero = read g (goal.at.returns-then-unmarked g c).After-is_zero-unmarked ∙ eqb-true _ _ (sym c.is_zero-unmarked.ensures ∙ c.if-unmarked.true) in
    rw (map-set, c.one.ensures) (sym (meet_new a.y (search_of (map g.M.Mark.number a.marks.now) a.queue.now a.tail) zero))

pub returns-else-unmarked : goal.returns-else-unmarked
returns-else-unmarked g c =
    let a = c.args in
    let read = read g (goal.at.returns-else-unmarked g c).After-is_zero-unmarked in
    let off = eqb-false _ _ (sym c.is_zero-unmarked.ensures ∙ c.if-unmarked.false) in
    sym (meet_old a.y (search_of (map g.M.Mark.number a.marks.now) a.queue.now a.tail) (λ e. off (sym read ∙ e)))
