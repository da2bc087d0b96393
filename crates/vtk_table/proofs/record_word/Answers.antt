-- `vtk_table::record_word` meets its contract.
use mathlib.Core.Path.{◌∙◌}
use native.Mathlib.Omega.{arith}
use Rattle.model.specs.Cell.{cell_size}
use Rattle.vtk_table.proofs.Words.{word_first, word_second, word_none, word_link}
use Rattle.vtk_table.proofs.record_word.Goals as goal

pub returns-then-y-eq0 : goal.returns-then-y-eq0
returns-then-y-eq0 c = word_first _ c.if-y-eq0.true

pub returns-then-y-eq1 : goal.returns-then-y-eq1
returns-then-y-eq1 c = word_second _ c.if-y-eq1.true

pub returns-then-i-eq3 : goal.returns-then-i-eq3
returns-then-i-eq3 c = word_none _ (omega arith) (omega arith) c.if-i-eq3.true

pub cell_link-requires : goal.cell_link-requires
unfolding cell_size
cell_link-requires c = ((omega arith, omega arith), omega arith)

pub returns : goal.returns
returns c = c.cell_link.ensures ∙ word_link _ (omega arith) (omega arith) (omega arith)
