-- `close_record` meets its contract, by `draft_closed`.
use native.Mathlib.Omega.{arith}
use lib.ListN.{length-set}
use borrow.Author.Rules.{rules}
use Rattle.model.specs.Journal.{cursor}
use Rattle.drafts.proofs.Drafts.{draft_closed}
use Rattle.drafts.proofs.close_record.Goals as goal

pub overflow_cast-start : goal.overflow_cast-start
overflow_cast-start c = omega (arith, c.slice_known-1.given 0)

pub overflow_add-last : goal.overflow_add-last
unfolding cursor
overflow_add-last c = search rules

pub overflow_add-last-2 : goal.overflow_add-last-2
unfolding cursor
overflow_add-last-2 c = search rules

pub offset_bounds-journal-start : goal.offset_bounds-journal-start
unfolding cursor
offset_bounds-journal-start c = search rules

pub bounds-journal-start : goal.bounds-journal-start
unfolding cursor
bounds-journal-start c = search rules

pub overflow_add-journal : goal.overflow_add-journal
unfolding cursor
overflow_add-journal c = search rules

pub offset_bounds-journal-start-2 : goal.offset_bounds-journal-start-2
unfolding cursor
offset_bounds-journal-start-2 c = search rules

pub bounds-journal-start-2 : goal.bounds-journal-start-2
unfolding cursor
bounds-journal-start-2 c = simp length-set (omega arith)

pub offset_bounds-journal-last : goal.offset_bounds-journal-last
unfolding cursor
offset_bounds-journal-last c = search rules

pub bounds-journal-last : goal.bounds-journal-last
unfolding cursor
bounds-journal-last c = simp length-set (omega arith)

pub overflow_cast-behind : goal.overflow_cast-behind
unfolding cursor
overflow_cast-behind c = omega arith

pub overflow_add-behind : goal.overflow_add-behind
unfolding cursor
overflow_add-behind c = omega arith

pub bounds-journal-0-2 : goal.bounds-journal-0-2
bounds-journal-0-2 c = simp length-set (omega arith)

pub shape_of-journal : goal.shape_of-journal
shape_of-journal c = simp length-set

pub returns : goal.returns
unfolding cursor
returns c j cs draft count = draft_closed _ j cs _ draft count _ c.requires.0
