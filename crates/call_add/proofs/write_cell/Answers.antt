use native.Mathlib.Omega.{arith}
use Rattle.model.specs.Journal.{cursor}
use Rattle.drafts.proofs.Passes.{pass_length, pass_word}
use Rattle.call_add.proofs.Drafting.{word_inside, new_links, drafting_none, drafting_at, drafting_more, drafting_all}
use Rattle.call_add.proofs.write_cell.Goals as goal

pub bounds-journal-0 : goal.bounds-journal-0
bounds-journal-0 c = let rule = c.requires.is.rule.long in omega arith

pub overflow_cast-w : goal.overflow_cast-w
overflow_cast-w c = omega (arith, c.slice_known-2-1.given 0)

pub overflow_add-w : goal.overflow_add-w
overflow_add-w c = omega (arith, c.slice_known-2-1.given 0)

pub loop-k-init : goal.loop-k-init
unfolding cursor
loop-k-init c = (omega arith, λ t C. drafting_none C)

pub bounds-fresh-k : goal.bounds-fresh-k
bounds-fresh-k c =
    let long = c.requires.is.long in
    omega arith

pub overflow_cast-x-in-loop-k : goal.overflow_cast-x-in-loop-k
overflow_cast-x-in-loop-k c = omega (arith, c.shared_slice_known-in-loop-k-1.given c.loop-k.k)

-- what the links of the k-th dart require
pub cell_slot-requires : goal.cell_slot-requires
cell_slot-requires c =
    let is = c.requires.is in
    let whole = is.whole in
    let long = is.long in
    (is.table.dim, omega arith, omega arith, omega arith)

pub cell_slot-requires-in-loop-k : goal.cell_slot-requires-in-loop-k
cell_slot-requires-in-loop-k c =
    let is = c.requires.is in
    let whole = is.whole in
    let long = is.long in
    (is.table.dim, omega arith, omega arith, omega arith)

pub cell_slot-requires-in-loop-k-2 : goal.cell_slot-requires-in-loop-k-2
cell_slot-requires-in-loop-k-2 c =
    let is = c.requires.is in
    let whole = is.whole in
    let long = is.long in
    (is.table.dim, omega arith, omega arith, omega arith)

pub cell_slot-requires-in-loop-k-3 : goal.cell_slot-requires-in-loop-k-3
cell_slot-requires-in-loop-k-3 c =
    let is = c.requires.is in
    let whole = is.whole in
    let long = is.long in
    (is.table.dim, omega arith, omega arith, omega arith)

pub write_slot-requires : goal.write_slot-requires
write_slot-requires c =
    let C = c.requires.is in
    let low = c.loop-k-test.true in
    record {
      t = _;
      u = _;
      j = _;
      pass = drafting_at C (c.loop-k.invariant.1 _ C) low;
      four = new_links C c.loop-k.k low c.cell_slot.ensures c.cell_slot-in-loop-k.ensures
          c.cell_slot-in-loop-k-2.ensures c.cell_slot-in-loop-k-3.ensures;
    }

pub overflow_add-w-in-loop-k : goal.overflow_add-w-in-loop-k
overflow_add-w-in-loop-k c =
    let low = c.loop-k-test.true in
    let C = c.requires.is in
    let inside = word_inside C c.loop-k.k low in
    let P = c.write_slot.ensures _ _ _ (drafting_at C (c.loop-k.invariant.1 _ C) low)
    (new_links C c.loop-k.k low c.cell_slot.ensures c.cell_slot-in-loop-k.ensures
    c.cell_slot-in-loop-k-2.ensures c.cell_slot-in-loop-k-3.ensures) in
    let word = pass_word P (omega arith) in
    let long = pass_length P (omega arith) in
    let few = C.rule.few in
    omega arith

pub loop-k-preserved : goal.loop-k-preserved
loop-k-preserved c =
    let low = c.loop-k-test.true in (
      omega arith,
      λ t C. drafting_more C (c.loop-k.invariant.1 t C) low _ (c.write_slot.ensures _ _ _ (drafting_at C (c.loop-k.invariant.1 t C) low)
          (new_links C c.loop-k.k low c.cell_slot.ensures c.cell_slot-in-loop-k.ensures
          c.cell_slot-in-loop-k-2.ensures c.cell_slot-in-loop-k-3.ensures)),
    )

pub returns : goal.returns
returns c t C =
    drafting_all C (c.loop-k.invariant.1 t C) (omega arith)
