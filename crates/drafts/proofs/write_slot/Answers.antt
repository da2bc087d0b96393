use mathlib.Core.Path.{◌≡◌, sym, ◌∙◌}
use native.Mathlib.Omega.{arith}
use borrow.Author.Rules.{rules}
use Rattle.drafts.proofs.Passes.{slot_none, slot_room, slot_more, slot_length, slot_met, pass_length}
use Rattle.drafts.proofs.write_slot.Goals as goal

pub loop-k-init : goal.loop-k-init
loop-k-init c = (omega arith, λ t u j pass four. slot_none pass four)

pub overflow_add-w : goal.overflow_add-w
overflow_add-w c =
    let to = c.requires in
    let met = c.loop-k.invariant.1 _ _ _ to.pass to.four in
    let inside = to.four.inside in
    let room = slot_room to.pass to.four c.loop-k.k c.loop-k-test.true _ met in
    let same = slot_length to.pass to.four c.loop-k.k c.loop-k.invariant.0 _ _ met ∙ sym (pass_length to.pass (omega arith)) in
    let long = c.slice_known-1.given in
    search rules

pub overflow_mul-x : goal.overflow_mul-x
overflow_mul-x c =
    let to = c.requires in
    let few = to.pass.few in
    let inside = to.four.inside in
    omega arith

pub overflow_add-x : goal.overflow_add-x
overflow_add-x c =
    let to = c.requires in
    let few = to.pass.few in
    let inside = to.four.inside in
    omega arith

pub write_triple-requires : goal.write_triple-requires
write_triple-requires c =
    let to = c.requires in
    slot_room to.pass to.four c.loop-k.k c.loop-k-test.true _
    (c.loop-k.invariant.1 _ _ _ to.pass to.four)

pub loop-k-preserved : goal.loop-k-preserved
loop-k-preserved c = (
  omega arith,
  λ t u j pass four. slot_more pass four c.loop-k.k c.loop-k-test.true _ (c.loop-k.invariant.1 t u j pass four) _
      c.write_triple.ensures,
)

pub shape_of-journal : goal.shape_of-journal
shape_of-journal c =
    let to = c.requires in
    let inside = to.four.inside in
    slot_length to.pass to.four c.loop-k.k c.loop-k.invariant.0 _ _ (c.loop-k.invariant.1 _ _ _ to.pass to.four)
    ∙ sym (pass_length to.pass (omega arith))

pub returns : goal.returns
returns c =
    let end : c.loop-k.k ≡ 4 = omega arith in
    let all = rw end at c.loop-k.invariant.1 in
    λ t u j pass four. slot_met pass four _ (all t u j pass four)
