use Prim.Native.Nat.{◌+◌}
use mathlib.Core.Path.{refl, ◌∙◌}
use native.Mathlib.Omega.{arith}
use Rattle.std.specs.Prelude.{Ok, Err}
use Rattle.std.specs.Slice.Iter.{chunks_exact_rest}
use Rattle.refusals.proofs.Numbers.{some_number}
use Rattle.call_sew.proofs.Going.{Going, going_starts, going_lent, going_few, going_stops, going_on, going_ends}
use Rattle.call_sew.proofs.sew_items.Goals as goal
use Rattle.call_sew.proofs.sew_items.Goals.{In-Ok}

pub loop-item-init : goal.loop-item-init
loop-item-init c =
    let a = c.args in
    let made = c.into_iter-item-iterator.ensures.into_iter_gives in
    let words = c.chunks_exact-item-items.ensures in
    rw (made, words.rest, words.size)
    (going_starts _ _ _ _ a.list.now a.marks.now a.groups.now a.xs.now a.ys.now c.requires.list_value c.requires.lent, refl)

pub overflow_add-place : goal.overflow_add-place
overflow_add-place c =
    let few = going_few c.requires.lent c.loop-item.invariant.0 in
    omega arith

pub sew_item-requires : goal.sew_item-requires
sew_item-requires c =
    let G = c.loop-item.invariant.0 in record { ready = G.ready; lent = going_lent c.requires.lent G }

-- where the item is accepted
on : (c : In-Ok) →
    let a = c.args in
    Going a.n a.tag a.table.now a.journal.now a.list.now a.marks.now a.groups.now a.xs.now a.ys.now
    (chunks_exact_rest c.next.new.self) (c.loop-item.place + 1) (c.loop-item.count + c.in-Ok.done.count) c.sew_item.new.table
    c.sew_item.new.journal c.sew_item.new.marks c.sew_item.new.groups c.sew_item.new.xs c.sew_item.new.ys
on c =
    let (G, size) = c.loop-item.invariant in
    let words = c.in-Some.ensures.steps.1 in
    let kept = c.sew_item.auto in
    going_on c.requires.lent G _ _ words.0 (words.1 ∙ size) (Ok c.in-Ok.done) c.in-Ok.ensures.0 refl c.in-Ok.ensures.1 kept.marks kept.groups kept.xs kept.ys

pub overflow_add-count : goal.overflow_add-count
overflow_add-count c =
    let few = going_few c.requires.lent (on (goal.at.overflow_add-count c).In-Ok) in
    omega arith

pub returns-in-Err : goal.returns-in-Err
returns-in-Err c =
    let (G, size) = c.loop-item.invariant in
    let words = c.in-Some.ensures.steps.1 in
    going_stops c.requires.lent G _ _ words.0 (words.1 ∙ size) (Err c.in-Err.refused) c.in-Err.ensures.0 (some_number c.in-Err.refused.reason)

pub loop-item-preserved : goal.loop-item-preserved
loop-item-preserved c = (on (goal.at.loop-item-preserved c).In-Ok, c.in-Some.ensures.steps.0 ∙ c.loop-item.invariant.1)

pub returns : goal.returns
returns c =
    let (G, size) = c.loop-item.invariant in
    let few = c.in-None.ensures.steps.1.0 in
    going_ends c.requires.lent G (omega arith)
