-- `vtk_words::is_end` meets its contract.
use Rattle.vtk_words.specs.Words.{ends_between}
use Rattle.vtk_words.proofs.is_end.Goals as goal

pub returns : goal.returns
unfolding ends_between
returns c = rw (c.is_blank.ensures, c.is_blank-2.ensures)
