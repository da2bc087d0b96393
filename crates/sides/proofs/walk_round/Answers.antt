use native.Mathlib.Omega.{arith}
use native.Mathlib.Numerals.{add-one}
use Rattle.sides.proofs.Entries.{live_entry}
use Rattle.sides.proofs.Going.{going_begins, Inside, going_room, Turn, turn_is, going_differs, going_round, going_on}
use Rattle.sides.proofs.walk_round.Goals as goal
use Rattle.sides.proofs.walk_round.Goals.{After-link_in-v, At-loop-a}

inside : (c : At-loop-a) → let l = c.loop-a in Inside c.args.table.now l.x l.y l.k l.xs l.ys
inside c = going_room c.requires c.loop-a.invariant

pub loop-a-init : goal.loop-a-init
loop-a-init c = going_begins _ _ _ _ _ _ _

pub overflow_cast-xs : goal.overflow_cast-xs
overflow_cast-xs c = let i = inside c in let few = c.requires.left.mapped.linked.few in omega arith

pub offset_bounds-xs-k : goal.offset_bounds-xs-k
offset_bounds-xs-k c = let i = inside c in let few = c.requires.left.mapped.linked.few in omega arith

pub bounds-xs-k : goal.bounds-xs-k
bounds-xs-k c = (inside c).left_room

pub overflow_cast-ys : goal.overflow_cast-ys
overflow_cast-ys c = let i = inside c in let few = c.requires.left.mapped.linked.few in omega arith

pub offset_bounds-ys-k : goal.offset_bounds-ys-k
offset_bounds-ys-k c = let i = inside c in let few = c.requires.left.mapped.linked.few in omega arith

pub bounds-ys-k : goal.bounds-ys-k
bounds-ys-k c = (inside c).right_room

pub overflow_add-k : goal.overflow_add-k
overflow_add-k c = let i = inside c in let few = c.requires.left.mapped.linked.few in omega arith

pub link_in-p-requires : goal.link_in-p-requires
link_in-p-requires c =
    let s = c.requires.left in
    live_entry s.mapped.linked c.loop-a.x _ (inside c).left_lives s.first_low

pub link_in-q-requires : goal.link_in-q-requires
link_in-q-requires c =
    let s = c.requires.left in
    live_entry s.mapped.linked c.loop-a.y _ (inside (goal.at.link_in-q-requires c).At-loop-a).right_lives s.first_low

pub link_in-u-requires : goal.link_in-u-requires
link_in-u-requires c =
    let s = c.requires.left in
    rw c.link_in-p.ensures
    (live_entry s.mapped.linked _ _ (s.mapped.linked.goes c.loop-a.x _ (inside (goal.at.link_in-u-requires c).At-loop-a).left_lives s.first_low) s.second_low)

pub link_in-v-requires : goal.link_in-v-requires
link_in-v-requires c =
    let s = c.requires.left in
    rw c.link_in-q.ensures
    (live_entry s.mapped.linked _ _ (s.mapped.linked.goes c.loop-a.y _ (inside (goal.at.link_in-v-requires c).At-loop-a).right_lives s.first_low) s.second_low)

left_turn : (c : After-link_in-v) →
    let a = c.args in
    Turn a.table.now a.a a.b a.d c.loop-a.k c.loop-a.x c.link_in-p.result
    c.link_in-u.result
left_turn c =
    turn_is _ _ _ _ _ _ _ _ c.loop-a.invariant.left_is c.link_in-p.ensures c.link_in-u.ensures

right_turn : (c : After-link_in-v) →
    let a = c.args in
    Turn a.table.now a.a a.b a.e c.loop-a.k c.loop-a.y c.link_in-q.result c.link_in-v.result
right_turn c =
    turn_is _ _ _ _ _ _ _ _ c.loop-a.invariant.right_is c.link_in-q.ensures c.link_in-v.ensures

pub returns-then-not-alike-clause-differs : goal.returns-then-not-alike-clause-differs
returns-then-not-alike-clause-differs c =
    let o = goal.at.returns-then-not-alike-clause-differs c in
    going_differs c.requires c.loop-a.invariant (left_turn o.After-link_in-v) (right_turn o.After-link_in-v)
    (c.alike.ensures.fails (c.if-not-alike.true))

pub returns-then-u-d-clause-walked : goal.returns-then-u-d-clause-walked
returns-then-u-d-clause-walked c =
    let o = goal.at.returns-then-u-d-clause-walked c in
    record {
      some = omega arith;
      round = rw (add-one c.loop-a.k) (going_round c.requires c.loop-a.invariant (left_turn o.After-link_in-v) (right_turn o.After-link_in-v)
          (c.alike.ensures.holds (c.if-not-alike.false)) c.has_end-ended.ensures c.if-u-d.true);
    }

pub loop-a-smaller : goal.loop-a-smaller
loop-a-smaller c = let i = inside (goal.at.loop-a-smaller c).At-loop-a in omega arith

pub loop-a-preserved : goal.loop-a-preserved
loop-a-preserved c =
    rw (add-one c.loop-a.k) (going_on c.requires c.loop-a.invariant (left_turn (goal.at.loop-a-preserved c).After-link_in-v) (right_turn (goal.at.loop-a-preserved c).After-link_in-v)
    (c.alike.ensures.holds (c.if-not-alike.false)) c.has_end-ended.ensures c.if-u-d.false)
