use Prim.Native.Nat.{◌+◌, ◌*◌, ◌<◌}
use mathlib.Core.Path.{◌≡◌, refl, ap, sym, ◌∙◌}
use mathlib.Core.Bool.{true}
use native.Mathlib.Omega.{arith}
use lib.ListN.{length, get_or, length-set}
use Rattle.journal.specs.Records.{within}
use Rattle.journal.proofs.Puts.{rest_from, rest_first, rest_none, put_turn, within_turn, put_length, put_none}
use Rattle.journal.proofs.put_record.Goals as goal
use Rattle.journal.proofs.put_record.Goals.{In-loop-turn}

pub loop-turn-init : goal.loop-turn-init
loop-turn-init c = let e = rest_first c.args.journal.now c.args.a c.args.k 0 refl in rw e (refl, c.requires.1)

-- in a turn the entry lies in the table, and so do those behind it
inside : (c : In-loop-turn)
    → let j = c.args.journal.now in
    let l = c.loop-turn in
    (get_or j (c.args.a + 2 + 3 * l.turn) 0 < length l.table)
    × (within (length l.table) (rest_from j c.args.a c.args.k (l.turn + 1)) ≡ true)
inside c = within_turn c.args.journal.now c.args.a c.args.k c.loop-turn.turn (omega arith) _ c.loop-turn.invariant.1

pub bounds-table-e : goal.bounds-table-e
bounds-table-e c = (inside (goal.at.bounds-table-e c).In-loop-turn).0

pub loop-turn-preserved : goal.loop-turn-preserved
loop-turn-preserved c =
    let l = c.loop-turn in (
      put_turn _ c.args.a c.args.k l.turn (omega arith) _ l.table _ c.value_put.ensures ∙ l.invariant.0,
      rw length-set (inside (goal.at.loop-turn-preserved c).In-loop-turn).1,
    )

pub shape_of-table : goal.shape_of-table
shape_of-table c = sym (put_length _ _ c.loop-turn.table) ∙ ap length c.loop-turn.invariant.0 ∙ put_length _ _ _

pub returns : goal.returns
returns c =
    let l = c.loop-turn in
    sym (put_none _ l.table) ∙ rw (rest_none c.args.journal.now c.args.a c.args.k l.turn (omega arith)) at l.invariant.0
