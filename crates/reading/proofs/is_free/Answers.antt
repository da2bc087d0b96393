-- `reading::is_free` meets its contract.
use Rattle.reading.proofs.is_free.Goals as goal

pub returns : goal.returns
returns c = rw c.link.ensures
