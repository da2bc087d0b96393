-- `call_remove::write_one` meets its contract.
use native.Mathlib.Omega.{arith}
use Rattle.call_remove.proofs.Clearings.{of_layer, edge_out, edge_one, gone_four, clearing_word, clearing_more}
use Rattle.call_remove.proofs.write_one.Goals as goal

pub bounds-marks-x : goal.bounds-marks-x
bounds-marks-x c =
    let to = c.requires in
    let long = (of_layer to.clearing.sheet).long in
    let inside = to.inside in
    omega arith

pub link_in-y-requires : goal.link_in-y-requires
link_in-y-requires c =
    let to = c.requires in
    let fits = to.clearing.pass.fits in
    let dim = (of_layer to.clearing.sheet).table.dim in
    let inside = to.inside in
    omega arith

pub first_outside-requires : goal.first_outside-requires
first_outside-requires c =
    let S = c.requires.clearing.sheet in record { layer = of_layer S; x_value = edge_out S _ c.if-at_edge.true }

pub write_link-requires : goal.write_link-requires
write_link-requires c =
    let to = c.requires in
    record {
      t = _;
      u = _;
      j = _;
      pass = to.clearing.pass;
      one = edge_one to.clearing.sheet _ to.inside c.if-at_edge.true _ _ c.link_in-y.ensures c.first_outside.ensures;
    }

pub overflow_add-result : goal.overflow_add-result
overflow_add-result c =
    let to = c.requires in
    let inside = to.inside in
    let word = clearing_word to.clearing (omega arith) in
    omega arith

pub returns-then-at_edge : goal.returns-then-at_edge
returns-then-at_edge c =
    let to = c.requires in
    λ j C. clearing_more C (c.write_link.ensures _ _ _ C.pass
    (edge_one C.sheet _ to.inside c.if-at_edge.true _ _ c.link_in-y.ensures c.first_outside.ensures))

pub links_in-requires : goal.links_in-requires
links_in-requires c = c.requires.inside

pub write_slot-requires : goal.write_slot-requires
write_slot-requires c =
    let to = c.requires in
    record {
      t = _;
      u = _;
      j = _;
      pass = to.clearing.pass;
      four = gone_four to.clearing.sheet _ to.inside to.mark c.if-at_edge.false _ c.links_in.ensures;
    }

pub overflow_add-result-2 : goal.overflow_add-result-2
overflow_add-result-2 c =
    let to = c.requires in
    let inside = to.inside in
    let word = clearing_word to.clearing (omega arith) in
    omega arith

pub returns : goal.returns
returns c =
    let to = c.requires in
    λ j C. clearing_more C (c.write_slot.ensures _ _ _ C.pass
    (gone_four C.sheet _ to.inside to.mark c.if-at_edge.false _ c.links_in.ensures))
