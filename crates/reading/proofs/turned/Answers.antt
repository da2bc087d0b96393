-- `reading::turned` meets its contract.
use Rattle.reading.specs.Near.{turned}
use Rattle.reading.proofs.turned.Goals as goal

pub returns : goal.returns
unfolding turned
returns c = rw (c.link-2.ensures, c.link.ensures)
