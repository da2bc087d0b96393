-- `vtk_words::word_start` meets its contract.
use Rattle.vtk_words.proofs.Passing.{start_first}
use Rattle.vtk_words.proofs.word_start.Goals as goal

pub returns : goal.returns
returns c = start_first _ _ _ c.first.ensures
