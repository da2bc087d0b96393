-- `vtk_table::table_words` meets its contract.
use borrow.Author.Rules.{rules}
use Rattle.vtk_table.proofs.table_words.Goals as goal

pub returns : goal.returns
returns c x low = let (p, q, k) = c.from_fn.ensures.items.at x 0 low in search rules
