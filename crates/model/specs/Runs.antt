-- Demand 3: runs of calls over one table and one journal, and the operations that stand after them.
-- "An accepted add, sew, unsew, remove or split .. is an operation in demand 3, and no other is"; of 02 insert and the reading of a
-- VTK text are each one too, and each item of a list of sews.
use Rattle.std.specs.Prelude.{ℕ, zero, suc, ◌*◌, ◌-◌, List, [], ◌∷◌, ◌++◌, replicate}
use Rattle.model.specs.Table.{unused}
use Rattle.model.specs.Add.{add_table}
use Rattle.model.specs.Sew.{sew_table, unsew_table}
use Rattle.model.specs.Remove.{remove_table}
use Rattle.model.specs.Split.{split_table}
use Rattle.model.specs.Insert.{insert_table}
use Rattle.model.specs.Vtk.{grid_of, rows_in}
use Rattle.model.specs.Faces.{vtk_table}
use Rattle.model.specs.Checks.{pass, refuse, in_order, list_checks}
use Rattle.model.specs.Calls.{Outcome, check_call, orbit_call, sheet_call, add_call, sew_call, unsew_call, remove_call, split_call}
use Rattle.model.specs.Calls.{pick_call, insert_call, vtk_call, Item, items, sew_list_call, undo_call, redo_call}

-- ---- calls as data

-- an operation: sew (i, d, e); unsew (i, d); insert (the wall's marks), which it reads and leaves; vtk (the bytes of the text)
pub data Op : Type 0 where
  add : Op
  sew : ℕ → ℕ → ℕ → Op
  unsew : ℕ → ℕ → Op
  remove split : ℕ → Op
  insert vtk : List ℕ → Op

-- orbit (mask, d); pick (the queue, d); an operation with its tag
pub data Call : Type 0 where
  check undo redo : Call
  orbit : ℕ → ℕ → Call
  sheet : ℕ → Call
  pick : List ℕ → ℕ → Call
  op : ℕ → Op → Call

-- a table with no live slot, marks that are 0, and a fresh journal of so many words, for a first call
unfoldable pub begin : ℕ → ℕ → Outcome
begin slots words = record {
  number = 0;
  place = 0;
  count = 0;
  table = replicate (4 * slots) unused;
  marks = replicate slots 0;
  journal = 2 ∷ 2 ∷ replicate (words - 2) 0;
}

-- an outcome with these marks and this journal
unfoldable pub keeping : Outcome → List ℕ → List ℕ → Outcome
keeping o m j =
    record { number = o.number; place = o.place; count = o.count; table = o.table; marks = m; journal = j }

-- a call on the table, marks and journal that the last one left; those that it does not take stay
unfoldable pub do_call : ℕ → Outcome → Call → Outcome
do_call n o Call.check = keeping (check_call n o.table) o.marks o.journal
do_call n o Call.undo = let r = undo_call n o.table o.journal in keeping r o.marks r.journal
do_call n o Call.redo = let r = redo_call n o.table o.journal in keeping r o.marks r.journal
do_call n o (Call.orbit mask d) = let r = orbit_call n o.table o.marks mask d in keeping r r.marks o.journal
do_call n o (Call.sheet d) = let r = sheet_call n o.table o.marks d in keeping r r.marks o.journal
do_call n o (Call.pick w d) = let r = pick_call n o.table o.marks w d in keeping r r.marks o.journal
do_call n o (Call.op tag Op.add) = let r = add_call n o.table o.journal tag in keeping r o.marks r.journal
do_call n o (Call.op tag (Op.sew i d e)) =
    let r = sew_call n o.table o.journal tag i d e in
    keeping r o.marks r.journal
do_call n o (Call.op tag (Op.unsew i d)) =
    let r = unsew_call n o.table o.journal tag i d in
    keeping r o.marks r.journal
do_call n o (Call.op tag (Op.remove d)) = remove_call n o.table o.marks o.journal tag d
do_call n o (Call.op tag (Op.split d)) = split_call n o.table o.marks o.journal tag d
do_call n o (Call.op tag (Op.insert w)) =
    let r = insert_call n o.table w o.journal tag in
    keeping r o.marks r.journal
do_call n o (Call.op tag (Op.vtk text)) =
    let r = vtk_call n o.table o.journal tag text in
    keeping r o.marks r.journal

-- ---- operations

-- the table that an operation makes of a table: the journal has no part in it
unfoldable pub effect : ℕ → List ℕ → Op → List ℕ
effect n t Op.add = add_table n t
effect n t (Op.sew i d e) = sew_table n t i d e
effect n t (Op.unsew i d) = unsew_table n t i d
effect n t (Op.remove d) = remove_table n t d
effect n t (Op.split d) = split_table n t d
effect n t (Op.insert w) = insert_table n t w
effect n t (Op.vtk text) = vtk_table t (rows_in (grid_of text))

-- an operation and the tag that it was called with
pub record Tagged : Type 0 where
  pub tag : ℕ
  pub op : Op

-- what a list of operations, the newest first, makes of a table: the tags have no part in it
unfoldable pub replay : ℕ → List ℕ → List Tagged → List ℕ
replay n t [] = t
replay n t (o ∷ os) = effect n (replay n t os) o.op

-- ---- which operations stand

-- the operations that still stand, the newest first; and those undone since the last accepted new operation,
-- the next to redo first
pub record History : Type 0 where
  pub standing : List Tagged
  pub undone : List Tagged

unfoldable pub after_undo : List Tagged → List Tagged → History
after_undo [] us = record { standing = []; undone = us }
after_undo (o ∷ os) us = record { standing = os; undone = o ∷ us }

unfoldable pub after_redo : List Tagged → List Tagged → History
after_redo os [] = record { standing = os; undone = [] }
after_redo os (u ∷ us) = record { standing = u ∷ os; undone = us }

unfoldable pub after_op : Tagged → History → History
after_op o h = record { standing = o ∷ h.standing; undone = [] }

-- after a call that was accepted
unfoldable pub accepted : Call → History → History
accepted Call.check h = h
accepted Call.undo h = after_undo h.standing h.undone
accepted Call.redo h = after_redo h.standing h.undone
accepted (Call.orbit mask d) h = h
accepted (Call.sheet d) h = h
accepted (Call.pick w d) h = h
accepted (Call.op tag p) h = after_op (record { tag = tag; op = p }) h

-- after a call that gave this number
unfoldable pub answered : ℕ → Call → History → History
answered zero c h = accepted c h
answered (suc k) c h = h

-- ---- runs

-- a call, and the marks lent to it
pub record Step : Type 0 where
  pub call : Call
  pub marks : List ℕ

-- what the last call left, and the history
pub record State : Type 0 where
  pub outcome : Outcome
  pub history : History

unfoldable pub start : List ℕ → List ℕ → State
start t j = record {
  outcome = record { number = 0; place = 0; count = 0; table = t; marks = []; journal = j };
  history = record { standing = []; undone = [] };
}

unfoldable pub answer : ℕ → State → Step → Outcome
answer n s c = do_call n (keeping s.outcome c.marks s.outcome.journal) c.call

unfoldable pub stepped : ℕ → State → Step → State
stepped n s c = record { outcome = answer n s c; history = answered (answer n s c).number c.call s.history }

unfoldable pub run : ℕ → State → List Step → State
run n s [] = s
run n s (c ∷ cs) = run n (stepped n s c) cs

-- ---- runs with lists: "demand 3 counts each item as a call" (02, R-9)

-- the sew of an item, with the tag of its list
unfoldable pub item_step : ℕ → Item → Step
item_step tag x = record { call = Call.op tag (Op.sew x.i x.d x.e); marks = [] }

-- the calls of these items, up to the first that is refused and with it
unfoldable pub item_steps : ℕ → State → ℕ → List Item → List Step
item_steps n s tag [] = []
item_steps n s tag (x ∷ xs) =
    let r = stepped n s (item_step tag x) in
    item_step tag x ∷ (elim r.outcome.number [ zero ↦ item_steps n r tag xs | suc z ↦ [] ])

-- the calls that a list counts as: none where it is refused before any item
unfoldable pub list_steps : ℕ → State → ℕ → List ℕ → List Step
list_steps n s tag l =
    elim (in_order (list_checks n s.outcome.table s.outcome.journal l)) [
      | pass ↦ item_steps n s tag (items l)
      | refuse k p q ↦ []
    ]

-- a single call, or sew_list with its tag and list
pub data Turn : Type 0 where
  single : Step → Turn
  listed : ℕ → List ℕ → Turn

-- after a list the table and the journal are those that it leaves, the history is that of its calls
unfoldable pub turned : ℕ → State → Turn → State
turned n s (single c) = stepped n s c
turned n s (listed tag l) = record {
  outcome = sew_list_call n s.outcome.table s.outcome.journal tag l;
  history = (run n s (list_steps n s tag l)).history;
}

unfoldable pub run_turns : ℕ → State → List Turn → State
run_turns n s [] = s
run_turns n s (c ∷ cs) = run_turns n (turned n s c) cs

-- the calls that a turn counts as, and those of a run
unfoldable pub turn_steps : ℕ → State → Turn → List Step
turn_steps n s (single c) = c ∷ []
turn_steps n s (listed tag l) = list_steps n s tag l

unfoldable pub single_steps : ℕ → State → List Turn → List Step
single_steps n s [] = []
single_steps n s (c ∷ cs) = turn_steps n s c ++ single_steps n (turned n s c) cs
