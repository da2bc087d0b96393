-- `picks::enter_side` meets its contract: dart by dart.
use mathlib.Core.Path.{◌≡◌, refl, sym, ap, ◌∙◌}
use native.Mathlib.Omega.{arith}
use Rattle.model.specs.Table.{link}
use Rattle.picks.specs.Enter.{Dart, side_at, Entered}
use Rattle.picks.proofs.Darts.{dart_low, dart_there, dart_next, dart_across}
use Rattle.picks.proofs.Entering.{entered_as, entered_next}
use Rattle.picks.proofs.enter_side.Goals as goal
use Rattle.picks.proofs.enter_side.Goals.{After-enter, After-enter-2, After-enter-3, After-enter-4, After-link_in-u}

pub link_in-y-requires : goal.link_in-y-requires
link_in-y-requires c = dart_there c.requires.0 0 (omega arith)

pub link_in-u-requires : goal.link_in-u-requires
link_in-u-requires c =
    rw c.across-z.ensures (dart_there (dart_across c.requires.0) 0 (omega arith))

first_dart : (c : After-link_in-u) → Dart c.args.table.now c.args.x
first_dart c = c.requires.0

-- the links that were read
second : (c : After-link_in-u) → side_at c.args.table.now c.args.x 1 ≡ c.link_in-y.result
second c = sym c.link_in-y.ensures

third : (c : After-link_in-u) → side_at c.args.table.now c.args.x 2 ≡ c.across-z.result
third c = sym c.across-z.ensures

fourth : (c : After-link_in-u) → side_at c.args.table.now c.args.x 3 ≡ c.link_in-u.result
fourth c = sym (c.link_in-u.ensures ∙ ap (link c.args.table.now 0) c.across-z.ensures)

entered1 : (c : After-enter) →
    let a = c.args in
    Entered a.marks.now a.queue.now a.at 1 (side_at a.table.now a.x) c.enter.new.marks c.enter.new.queue
entered1 c = entered_as c.enter.ensures (λ j h. let zero : j ≡ 0 = omega arith in rw zero refl)

entered2 : (c : After-enter-2) →
    let a = c.args in
    Entered a.marks.now a.queue.now a.at 2 (side_at a.table.now a.x) c.enter-2.new.marks c.enter-2.new.queue
entered2 c =
    entered_next (entered1 (goal.at.After-enter-2 c).After-enter) c.enter-2.ensures (second (goal.at.After-enter-2 c).After-link_in-u)

entered3 : (c : After-enter-3) →
    let a = c.args in
    Entered a.marks.now a.queue.now a.at 3 (side_at a.table.now a.x) c.enter-3.new.marks c.enter-3.new.queue
entered3 c =
    entered_next (entered2 (goal.at.After-enter-3 c).After-enter-2) c.enter-3.ensures (third (goal.at.After-enter-3 c).After-link_in-u)

entered4 : (c : After-enter-4) →
    let a = c.args in
    Entered a.marks.now a.queue.now a.at 4 (side_at a.table.now a.x) c.enter-4.new.marks c.enter-4.new.queue
entered4 c =
    entered_next (entered3 (goal.at.After-enter-4 c).After-enter-3) c.enter-4.ensures (fourth (goal.at.After-enter-4 c).After-link_in-u)

pub enter-requires : goal.enter-requires
enter-requires c =
    let low = dart_low c.requires.0 in
    let all = c.requires.1 in
    (omega arith, omega arith)

pub enter-requires-2 : goal.enter-requires-2
enter-requires-2 c =
    let low = dart_low (dart_next c.requires.0 0 (omega arith)) in
    let is = second (goal.at.enter-requires-2 c).After-link_in-u in
    let all = c.requires.1 in
    let long = (entered1 (goal.at.enter-requires-2 c).After-enter).long in
    let words = (entered1 (goal.at.enter-requires-2 c).After-enter).words in
    (omega arith, omega arith)

pub enter-requires-3 : goal.enter-requires-3
enter-requires-3 c =
    let low = dart_low (dart_across c.requires.0) in
    let is = third (goal.at.enter-requires-3 c).After-link_in-u in
    let all = c.requires.1 in
    let long = (entered2 (goal.at.enter-requires-3 c).After-enter-2).long in
    let words = (entered2 (goal.at.enter-requires-3 c).After-enter-2).words in
    (omega arith, omega arith)

pub overflow_add-at-3 : goal.overflow_add-at-3
overflow_add-at-3 c =
    let room = c.requires.2 in
    omega (arith, c.slice_known-2-1.given 0)

pub enter-requires-4 : goal.enter-requires-4
enter-requires-4 c =
    let low = dart_low (dart_next (dart_across c.requires.0) 0 (omega arith)) in
    let is = fourth (goal.at.enter-requires-4 c).After-link_in-u in
    let all = c.requires.1 in
    let long = (entered3 (goal.at.enter-requires-4 c).After-enter-3).long in
    let words = (entered3 (goal.at.enter-requires-4 c).After-enter-3).words in
    (omega arith, omega arith)

pub returns : goal.returns
returns c = entered4 (goal.at.returns c).After-enter-4
