-- `vtk_words::word_end` meets its contract.
use Rattle.vtk_words.proofs.Passing.{end_first}
use Rattle.vtk_words.proofs.word_end.Goals as goal

pub returns : goal.returns
returns c = end_first _ _ _ c.first.ensures
