-- `phlernsap::phl_read_vtk` meets its contract, by that of `kernel::read_vtk`.
use Rattle.phlernsap.proofs.Gives.{gives}
use Rattle.phlernsap.proofs.phl_read_vtk.Goals as goal

pub returns : goal.returns
returns c = gives _ c.give.ensures (search)
