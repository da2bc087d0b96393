use mathlib.Core.Path.{◌≡◌, sym, ap, ◌∙◌}
use mathlib.Core.Bool.{false, ◌||◌}
use native.Mathlib.Omega.{arith}
use lib.Dec.{eqb}
use Rattle.model.specs.Table.{link}
use Rattle.sides.proofs.Entries.{live_entry}
use Rattle.sides.proofs.SideTurns.{side_start_lem}
use Rattle.sides.proofs.Standing.{standing_live, standing_nearer}
use Rattle.sides.proofs.Seeking.{seek_begins, seek_found, seek_round, seek_on}
use Rattle.sides.proofs.meets.Goals as goal
use Rattle.sides.proofs.meets.Goals.{After-link_in-x}

pub loop-x-init : goal.loop-x-init
loop-x-init c = seek_begins _ _ _ _ _

pub overflow_cast-a : goal.overflow_cast-a
overflow_cast-a c = let s = side_start_lem c.requires c.side_links-links.ensures in omega arith

pub link_in-p-requires : goal.link_in-p-requires
link_in-p-requires c =
    let on = c.requires in
    let links = c.side_links-links.ensures in
    let s = side_start_lem on links in
    live_entry s.mapped.linked c.loop-x.x _ (standing_live s c.loop-x.invariant.at) s.first_low

pub returns-then-x-e : goal.returns-then-x-e
returns-then-x-e c =
    let on = c.requires in
    seek_found on c.side_links-links.ensures c.loop-x.invariant (rw c.link_in-p.ensures at c.if-x-e.true)

pub overflow_cast-b : goal.overflow_cast-b
overflow_cast-b c =
    let s = side_start_lem c.requires c.side_links-links.ensures in
    omega arith

pub link_in-x-requires : goal.link_in-x-requires
link_in-x-requires c =
    let on = c.requires in
    let links = c.side_links-links.ensures in
    let s = side_start_lem on links in
    rw c.link_in-p.ensures
    (live_entry s.mapped.linked _ _ (s.mapped.linked.goes c.loop-x.x _ (standing_live s c.loop-x.invariant.at) s.first_low)
    s.second_low)

-- the turn: it leads from x to what was read, and passes e
record Turn (c : After-link_in-x) : Type 0 where
  to : let a = c.args in
      let r = c.side_links-links.result in
      c.link_in-x.result ≡ link a.table.now r.b (link a.table.now r.a c.loop-x.x)
  past : let a = c.args in
      let r = c.side_links-links.result in
      (eqb c.loop-x.x a.e || eqb (link a.table.now r.a c.loop-x.x) a.e) ≡ false

turn : (c : After-link_in-x) → Turn c
turn c =
    record {
      to = c.link_in-x.ensures ∙ ap (link _ _) c.link_in-p.ensures;
      past = rw c.link_in-p.ensures at c.if-x-e.false;
    }

pub returns-then-x-d : goal.returns-then-x-d
returns-then-x-d c =
    let h = turn (goal.at.returns-then-x-d c).After-link_in-x in
    seek_round c.requires c.side_links-links.ensures c.loop-x.invariant h.past (sym h.to ∙ c.if-x-d.true)

pub loop-x-smaller : goal.loop-x-smaller
loop-x-smaller c =
    let h = turn (goal.at.loop-x-smaller c).After-link_in-x in
    let s = side_start_lem c.requires c.side_links-links.ensures in
    rw h.to (standing_nearer s c.loop-x.invariant.at (λ z. c.if-x-d.false (h.to ∙ z)))

pub loop-x-preserved : goal.loop-x-preserved
loop-x-preserved c =
    let h = turn (goal.at.loop-x-preserved c).After-link_in-x in
    rw h.to (seek_on c.requires c.side_links-links.ensures c.loop-x.invariant h.past
    (λ z. c.if-x-d.false (h.to ∙ z)))
