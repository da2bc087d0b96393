-- `reading::opposite_edge` meets its contract.
use Rattle.model.specs.Table.{walk}
use Rattle.reading.proofs.opposite_edge.Goals as goal

pub returns : goal.returns
unfolding walk
returns c =
    rw (c.link-3.ensures, c.link-2.ensures, c.link.ensures)
