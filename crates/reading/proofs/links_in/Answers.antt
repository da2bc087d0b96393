-- `reading::links_in` meets its contract, link by link.
use native.Mathlib.Omega.{arith}
use Rattle.model.specs.Table.{slots}
use Rattle.reading.proofs.Four.{four_of}
use Rattle.reading.proofs.links_in.Goals as goal

pub link_in-requires : goal.link_in-requires
unfolding slots
link_in-requires c = omega arith

pub link_in-requires-2 : goal.link_in-requires-2
unfolding slots
link_in-requires-2 c = omega arith

pub link_in-requires-3 : goal.link_in-requires-3
unfolding slots
link_in-requires-3 c = omega arith

pub link_in-requires-4 : goal.link_in-requires-4
unfolding slots
link_in-requires-4 c = omega arith

pub returns : goal.returns
returns c =
    four_of _ c.link_in.ensures c.link_in-2.ensures c.link_in-3.ensures c.link_in-4.ensures
