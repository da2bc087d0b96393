-- `call_read_vtk::read_cells` meets its contract. It never comes to its call of itself: the table fits.
use Rattle.call_read_vtk.proofs.+read_cells.Given as goal

abbrev pub decreases-read_cells : goal.decreases-read_cells
decreases-read_cells l = 0
