-- `vtk_table::record_words` meets its contract.
use borrow.Author.Rules.{rules}
use Rattle.vtk_table.proofs.record_words.Goals as goal

pub returns : goal.returns
returns c y low = let (p, q, k) = c.from_fn.ensures.items.at y 0 low in search rules
