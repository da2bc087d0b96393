-- `write_link` meets its contract, by `link_met`.
use native.Mathlib.Omega.{arith}
use Rattle.drafts.proofs.Passes.{link_room, link_met}
use Rattle.drafts.proofs.write_link.Goals as goal

pub overflow_mul-x : goal.overflow_mul-x
overflow_mul-x c =
    let to = c.requires in
    let few = to.pass.few in
    let inside = to.one.inside in
    omega arith

pub overflow_add-x : goal.overflow_add-x
overflow_add-x c =
    let to = c.requires in
    let few = to.pass.few in
    let inside = to.one.inside in
    let index = to.one.index in
    omega arith

pub write_triple-requires : goal.write_triple-requires
write_triple-requires c = let to = c.requires in link_room to.pass to.one

pub returns : goal.returns
returns c t u j pass one = link_met pass one _ c.write_triple.ensures
