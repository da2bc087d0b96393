-- `reading::live` meets its contract.
use Rattle.model.specs.Table.{live}
use Rattle.reading.proofs.live.Goals as goal

pub returns : goal.returns
unfolding live
returns c =
    rw (c.link.ensures, c.link-2.ensures, c.link-3.ensures, c.link-4.ensures)
