use Prim.Native.Nat.{◌+◌, ◌<◌}
use native.Mathlib.Omega.{arith}
use native.Mathlib.Numerals.{add-one}
use lib.ListN.{length}
use borrow.Author.Rules.{rules}
use Rattle.sides.proofs.Mirrors.{mirror_begins, word_entry, word_low, word_room, mirror_more}
use Rattle.sides.proofs.mirror.Goals as goal
use Rattle.sides.proofs.mirror.Goals.{In-loop-k}

room : (c : In-loop-k) → c.args.size + c.loop-k.k < length c.loop-k.words
room c = word_room c.requires c.loop-k.invariant c.loop-k-test.true

pub loop-k-init : goal.loop-k-init
loop-k-init c = mirror_begins _ _ _ _

pub offset_bounds-words-k : goal.offset_bounds-words-k
offset_bounds-words-k c = let r = room c in search rules

pub bounds-words-k : goal.bounds-words-k
bounds-words-k c = let r = room (goal.at.bounds-words-k c).In-loop-k in omega arith

pub link_in-requires : goal.link_in-requires
link_in-requires c = word_entry c.requires c.loop-k.invariant c.loop-k-test.true

pub overflow_cast-words : goal.overflow_cast-words
overflow_cast-words c =
    let few = c.requires.linked.few in
    let low = word_low c.requires c.loop-k.invariant c.loop-k-test.true in
    let e = c.link_in.ensures in
    omega arith

pub overflow_add-words : goal.overflow_add-words
overflow_add-words c = let r = room (goal.at.overflow_add-words c).In-loop-k in search rules

pub offset_bounds-words-size : goal.offset_bounds-words-size
offset_bounds-words-size c = let r = room (goal.at.offset_bounds-words-size c).In-loop-k in search rules

pub bounds-words-size : goal.bounds-words-size
bounds-words-size c = room (goal.at.bounds-words-size c).In-loop-k

pub loop-k-smaller : goal.loop-k-smaller
loop-k-smaller c = let l = c.loop-k-test.true in omega arith

pub loop-k-preserved : goal.loop-k-preserved
loop-k-preserved c =
    rw (add-one c.loop-k.k)
    (mirror_more c.requires c.loop-k.invariant c.loop-k-test.true c.link_in.ensures)

pub returns : goal.returns
returns c =
    let g = c.loop-k.invariant in
    let high = g.high in
    let past = c.loop-k-test.false in
    record { stays = g.stays; added = λ j l. g.added j (omega arith) }
