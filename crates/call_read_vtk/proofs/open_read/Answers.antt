-- `call_read_vtk::open_read` meets its contract.
use Rattle.call_read_vtk.proofs.open_read.Goals as goal

pub returns-then-opens_empty : goal.returns-then-opens_empty
returns-then-opens_empty c = record { gives = c.opens_empty.ensures c.if-opens_empty.true }
