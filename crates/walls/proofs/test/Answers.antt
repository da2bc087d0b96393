-- `walls::test` meets its contract.
use Prim.Native.Nat.{ℕ}
use mathlib.Core.Path.{◌≡◌, sym, ap, ◌∙◌}
use mathlib.Core.Bool.{true, not}
use mathlib.Core.List.{List}
use native.Mathlib.Omega.{arith}
use lib.Dec.{eqb}
use lib.ListN.{length, take}
use lib.Seq.{length-take-le}
use Rattle.model.specs.Lists.{count, ones, all_of}
use Rattle.model.specs.Table.{link}
use Rattle.model.specs.Wall.{drawn, enclosed, sewn_wall, turns_well, connected, wall_reached}
use Rattle.theorems.proofs.Lists.Scan.{test}
use Rattle.theorems.proofs.Insert.Wall.{some_dart}
use Rattle.walls.specs.Given.{Drawing, Closed, ToFlood}
use Rattle.walls.proofs.Passing.{listed_first, zeros_front}
use Rattle.walls.proofs.Flooded.{connected_by}
use Rattle.walls.proofs.Verdicts.{refused_28, refused_29, refused_30, refused_31, refused_32, accepted}
use Rattle.walls.proofs.test.Goals as goal
use Rattle.walls.proofs.test.Goals.{After-reached-found, After-sewn, After-turns, Else-not-drawn, Else-not-enclosed, Else-not-turns}

-- ---- what is known there
drawing : (c : Else-not-drawn) → let a = c.args in Drawing a.n a.table.now a.marks.now
drawing c =
    let p = c.requires in
    record { table = p.table; long = p.long; drawn = sym c.drawn.ensures ∙ c.if-not-drawn.false }

closed : (c : Else-not-enclosed) →
    let a = c.args in
    Closed a.n a.table.now a.marks.now
closed c = record {
  drawing = drawing (goal.at.Else-not-enclosed c).Else-not-drawn;
  enclosed = sym c.enclosed.ensures ∙ c.if-not-enclosed.false;
}

sewn_is : (c : After-sewn) →
    let a = c.args in
    c.sewn.result ≡ sewn_wall a.n a.table.now a.marks.now
unfolding sewn_wall
sewn_is c =
    let a = c.args in
    c.sewn.ensures ∙ ap (all_of (λ h. not (eqb (link a.table.now a.n h) h))) c.list_ones-size.ensures.front

turns_is : (c : After-turns) →
    let a = c.args in
    c.turns.result ≡ all_of (turns_well a.n a.table.now a.marks.now) (ones a.marks.now)
turns_is c = c.turns.ensures _ c.find_next.ensures c.list_ones-size.ensures.front

to_flood : (c : Else-not-turns) →
    let a = c.args in
    ToFlood a.n a.table.now a.marks.now c.find_next.new.next (take (length a.marks.now) a.seen.now)
    c.list_ones-size.new.words
to_flood c =
    let C = closed (goal.at.Else-not-turns c).Else-not-enclosed in
    let D = C.drawing in
    record {
      nexts = c.find_next.ensures;
      clear = rw c.requires.long (zeros_front _ _ c.requires.seen_room c.requires.clear);
      room = let long = c.list_ones-size.ensures.long in let room = c.requires.queue_room in omega arith;
      first = let L = c.list_ones-size.ensures in listed_first _ _ _ L.front L.size (some_dart _ D.table D.long D.drawn C.enclosed);
    }

-- 28 to 31 have passed
record Passed (n : ℕ) (t m : List ℕ) : Type 0 where
  drawn : drawn t m ≡ true
  enclosed : enclosed n t m ≡ true
  sewn : sewn_wall n t m ≡ true
  turns : all_of (turns_well n t m) (ones m) ≡ true

passed : (c : Else-not-turns) →
    let a = c.args in
    Passed a.n a.table.now a.marks.now
passed c =
    let C = closed (goal.at.Else-not-turns c).Else-not-enclosed in
    record {
      drawn = C.drawing.drawn;
      enclosed = C.enclosed;
      sewn = sym (sewn_is (goal.at.Else-not-turns c).After-sewn) ∙ c.if-not-sewn.false;
      turns = sym (turns_is (goal.at.Else-not-turns c).After-turns) ∙ c.if-not-turns.false;
    }

found_is : (c : After-reached-found) →
    let a = c.args in
    c.reached-found.result ≡ count 1 (wall_reached a.n a.table.now a.marks.now)
found_is c = c.reached-found.ensures _ (to_flood (goal.at.After-reached-found c).Else-not-turns)

pub returns-then-not-drawn-clause-refuses : goal.returns-then-not-drawn-clause-refuses
returns-then-not-drawn-clause-refuses c =
    let a = c.args in
    refused_28 a.n a.table.now a.marks.now (sym c.drawn.ensures ∙ c.if-not-drawn.true)

pub enclosed-requires : goal.enclosed-requires
enclosed-requires c = (drawing (goal.at.enclosed-requires c).Else-not-drawn, c.list_ones-size.ensures.front)

pub returns-then-not-enclosed-clause-refuses : goal.returns-then-not-enclosed-clause-refuses
returns-then-not-enclosed-clause-refuses c =
    let a = c.args in
    refused_29 a.n a.table.now a.marks.now (drawing (goal.at.returns-then-not-enclosed-clause-refuses c).Else-not-drawn).drawn
    (sym c.enclosed.ensures ∙ c.if-not-enclosed.true)

pub sewn-requires : goal.sewn-requires
sewn-requires c =
    let dim = c.requires.table.dim in
    omega arith

pub returns-then-not-sewn-clause-refuses : goal.returns-then-not-sewn-clause-refuses
returns-then-not-sewn-clause-refuses c =
    let a = c.args in
    let C = closed (goal.at.returns-then-not-sewn-clause-refuses c).Else-not-enclosed in
    refused_30 a.n a.table.now a.marks.now C.drawing.drawn C.enclosed
    (sym (sewn_is (goal.at.returns-then-not-sewn-clause-refuses c).After-sewn) ∙ c.if-not-sewn.true)

pub find_next-requires : goal.find_next-requires
find_next-requires c =
    record { closed = (closed (goal.at.find_next-requires c).Else-not-enclosed, c.list_ones-size.ensures.front); table_in_bounds = c.requires.next_room }

pub turns-requires : goal.turns-requires
turns-requires c =
    record { m = c.args.marks.now; nexts = c.find_next.ensures; listed = c.list_ones-size.ensures.front }

pub returns-then-not-turns-clause-refuses : goal.returns-then-not-turns-clause-refuses
returns-then-not-turns-clause-refuses c =
    let a = c.args in
    let C = closed (goal.at.returns-then-not-turns-clause-refuses c).Else-not-enclosed in
    refused_31 a.n a.table.now a.marks.now C.drawing.drawn C.enclosed
    (sym (sewn_is (goal.at.returns-then-not-turns-clause-refuses c).After-sewn) ∙ c.if-not-sewn.false) (sym (turns_is (goal.at.returns-then-not-turns-clause-refuses c).After-turns) ∙ c.if-not-turns.true)

pub slice_bounds-reached-end : goal.slice_bounds-reached-end
slice_bounds-reached-end c =
    let p = c.requires in
    let long = p.long in
    let room = p.seen_room in
    omega arith

pub slice_bounds-reached-end-2 : goal.slice_bounds-reached-end-2
slice_bounds-reached-end-2 c =
    let long = c.requires.long in
    let room = c.requires.seen_room in
    sym (length-take-le (length c.args.marks.now) c.args.seen.now (omega arith))

pub reached-found-requires : goal.reached-found-requires
reached-found-requires c = record { m = _; is = to_flood (goal.at.reached-found-requires c).Else-not-turns }

pub returns-then-found-size-clause-refuses : goal.returns-then-found-size-clause-refuses
returns-then-found-size-clause-refuses c =
    let a = c.args in
    let P = passed (goal.at.returns-then-found-size-clause-refuses c).Else-not-turns in
    let number = c.list_ones-size.ensures.size in
    let off = test (connected a.n a.table.now a.marks.now)
    (λ q. absurd (c.if-found-size.true (found_is (goal.at.returns-then-found-size-clause-refuses c).After-reached-found ∙ (connected_by c.find_next.ensures).1 q ∙ sym number))) (λ q. q) in
    refused_32 a.n a.table.now a.marks.now P.drawn P.enclosed P.sewn P.turns off

pub returns-clause-passes : goal.returns-clause-passes
returns-clause-passes c =
    let a = c.args in
    let P = passed (goal.at.returns-clause-passes c).Else-not-turns in
    let number = c.list_ones-size.ensures.size in
    record {
      checks = accepted a.n a.table.now a.marks.now P.drawn P.enclosed P.sewn P.turns
          ((connected_by c.find_next.ensures).0 (sym (found_is (goal.at.returns-clause-passes c).After-reached-found) ∙ c.if-found-size.false ∙ number));
      size = number;
      next = c.find_next.ensures.next;
    }
