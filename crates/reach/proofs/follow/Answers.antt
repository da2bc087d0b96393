-- `reach::follow` meets its contract.
use mathlib.Core.Path.{sym, ap, ◌∙◌}
use Prim.Native.Nat.{ℕ}
use native.Mathlib.Omega.{arith}
use borrow.Author.Tests.{eq-eqb, ne_eqb}
use Rattle.std.proofs.lemmas.List.{map-id}
use Rattle.model.specs.Orbit.{bit}
use Rattle.reach.specs.Search.{Search, search_of, meet}
use Rattle.reach.proofs.Meeting.{meet_asks, link_in, entry_in, follow_takes, follow_skips}
use Rattle.reach.proofs.follow.Goals as goal
use Rattle.reach.proofs.follow.Goals.{Start}

abbrev first : Start → Search
first p = search_of p.args.marks.now p.args.queue.now p.args.tail

pub link_in-y-requires : goal.link_in-y-requires
link_in-y-requires c =
    let (s, low) = c.requires in
    entry_in _ s.linked _ s.lives _ low

pub meet-requires : goal.meet-requires
meet-requires c =
    let (s, low) = c.requires in
    let t = c.args.table.now in
    let to = link_in t s.linked c.args.x s.lives c.args.i low in
    let is = c.link_in-y.ensures in
    rw map-id (meet_asks _ (first (goal.at.meet-requires c).Start) c.link_in-y.result (omega arith) s.space s.linked.few)

pub returns-then-mask-i-eq1 : goal.returns-then-mask-i-eq1
unfolding bit
returns-then-mask-i-eq1 c =
    (rw (map-id c.meet.new.marks, map-id c.args.marks.now) at c.meet.ensures) ∙ ap (λ (y : ℕ). meet y (first (goal.at.returns-then-mask-i-eq1 c).Start)) c.link_in-y.ensures
    ∙ sym (follow_takes _ _ _ (first (goal.at.returns-then-mask-i-eq1 c).Start) _ (eq-eqb _ _ c.if-mask-i-eq1.true))

pub returns-else-mask-i-eq1 : goal.returns-else-mask-i-eq1
unfolding bit
returns-else-mask-i-eq1 c =
    sym (follow_skips _ _ _ (first (goal.at.returns-else-mask-i-eq1 c).Start) _ (ne_eqb _ _ c.if-mask-i-eq1.false))
