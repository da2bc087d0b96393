-- `write_triple` meets its contract, by `draft_at`.
use native.Mathlib.Omega.{arith}
use lib.ListN.{length-set}
use Rattle.drafts.proofs.Drafts.{draft_at}
use Rattle.drafts.proofs.write_triple.Goals as goal

pub bounds-journal-w-2 : goal.bounds-journal-w-2
bounds-journal-w-2 c = simp length-set (omega arith)

pub bounds-journal-w-3 : goal.bounds-journal-w-3
bounds-journal-w-3 c = simp length-set (omega arith)

pub shape_of-journal : goal.shape_of-journal
shape_of-journal c = simp length-set

pub returns : goal.returns
returns c j cs draft at = draft_at _ j cs _ _ draft at c.requires
