-- Worked sessions: the whole case of 01, lines that do not fit, and each op, as one table, of which one statement is proved
-- (proofs/WorkedSession.antt).
use Rattle.std.specs.Prelude.{ℕ, true, false, List, [], ◌∷◌}
use Prim.Native.String.{String}
use Rattle.model.specs.Lists.{equal}
use Rattle.model.specs.Text.{bytes, begins, is_digit, digits, number, up_to, last_digits, decimal, said}
use Rattle.model.specs.Session.{Due, dim_due, slots_due, op_due, i_due, d_due, e_due}
use Rattle.model.specs.Session.{names, calls, call_of, place_from, behind, reads, left, taken, answered, printed, to_line, dart_lines}
use Rattle.model.specs.Session.{darts_from, ending, bad, closing, session}

-- an input, and what is printed for it
pub record Talk : Type 0 where
  pub input : String
  pub output : String

-- the inputs for which something else is printed
unfoldable pub failing : List Talk → List String
failing [] = []
failing (t ∷ ts) =
    elim (equal (session (bytes t.input)) (bytes t.output)) [ true ↦ failing ts | false ↦ t.input ∷ failing ts ]

unfoldable pub row : String → String → Talk
row input output = record { input = input; output = output }

unfoldable pub talks : List Talk
talks =
    -- the whole case
    row "dim=2\nslots=8\nop=add\ni=0\nd=0\ne=0\nop=sheet\ni=0\nd=0\ne=0\n" "no=0\nat=0\nn=8\nno=0\nat=0\nn=4\nlive=8\ndart=0\nto=1,4,0,0\ndart=1\nto=0,5,1,1\ndart=2\nto=3,6,2,2\ndart=3\nto=2,7,3,3\ndart=4\nto=6,0,4,4\ndart=5\nto=7,1,5,5\ndart=6\nto=4,2,6,6\ndart=7\nto=5,3,7,7\n"
    -- no line, no request, a line without LF, a line missing
    ∷ row "" "bad=1\n"
    ∷ row "dim=2\nslots=8\n" "live=0\n"
    ∷ row "dim=2\nslots=8" "bad=2\n"
    ∷ row "dim=2\nslots=8\nop=check\ni=0\nd=0\ne=0\nop=check\n" "no=0\nat=0\nn=2\nbad=8\n"
    ∷ row "dim=2\n" "bad=2\n"
    ∷ row "dim=2\nop=add\n" "bad=2\n"
    ∷ row "dim=2\nslots=0\nop=check" "bad=3\n"
    ∷ row "dim=2\nslots=0\nop=check\ni=0\n" "bad=5\n"
    ∷ row "dim=2\nslots=0\nop=check\ni=0\nd=0\n" "bad=6\n"
    ∷ row "dim=2\nslots=0\nop=check\ni=0\nd=0\ne=0" "bad=6\n"
    -- keys
    ∷ row "\n" "bad=1\n"
    ∷ row "Dim=2\n" "bad=1\n"
    ∷ row "slots=8\ndim=2\n" "bad=1\n"
    ∷ row "dim 2\n" "bad=1\n"
    -- numbers
    ∷ row "dim=\n" "bad=1\n"
    ∷ row "dim=02\n" "bad=1\n"
    ∷ row "dim=002\n" "bad=1\n"
    ∷ row "dim=00\n" "bad=1\n"
    ∷ row "dim=+2\n" "bad=1\n"
    ∷ row "dim=2 \n" "bad=1\n"
    ∷ row "dim=2\r\n" "bad=1\n"
    ∷ row "dim=/\n" "bad=1\n"
    ∷ row "dim=:\n" "bad=1\n"
    ∷ row "dim=1000000000\n" "bad=2\n"
    ∷ row "dim=4294967300\n" "bad=1\n"
    ∷ row "dim=4294967296\n" "bad=1\n"
    ∷ row "dim=4294967295\nslots=0\nop=check\ni=0\nd=0\ne=0\n" "no=1\nat=0\nn=0\nlive=0\n"
    ∷ row "dim=2\nslots=960\n\n" "bad=3\n"
    ∷ row "dim=2\nslots=961\n" "bad=2\n"
    ∷ row "dim=2\nslots=0\nop=add\ni=256\n" "bad=4\n"
    ∷ row "dim=2\nslots=0\nop=add\ni=0\nd=4294967296\n" "bad=5\n"
    ∷ row "dim=2\nslots=0\nop=add\ni=0\nd=0\ne=4294967296\n" "bad=6\n"
    ∷ row "dim=2\nslots=0\nop=add\ni=255\nd=4294967295\ne=4294967295\n" "no=14\nat=0\nn=0\nlive=0\n"
    -- ops
    ∷ row "dim=2\nslots=0\nop=Add\n" "bad=3\n"
    ∷ row "dim=2\nslots=0\nop=adds\n" "bad=3\n"
    ∷ row "dim=2\nslots=0\nop=\n" "bad=3\n"
    -- undo and redo: before an add, behind it, and behind one another; undo gives the slots back
    ∷ row "dim=2\nslots=8\nop=undo\ni=0\nd=0\ne=0\nop=add\ni=0\nd=0\ne=0\nop=undo\ni=0\nd=0\ne=0\nop=redo\ni=0\nd=0\ne=0\nop=redo\ni=0\nd=0\ne=0\nop=undo\ni=0\nd=0\ne=0\n" "no=16\nat=0\nn=0\nno=0\nat=0\nn=8\nno=0\nat=0\nn=32\nno=0\nat=0\nn=32\nno=16\nat=0\nn=0\nno=0\nat=0\nn=32\nlive=0\n"
    -- i is the mask or the index, d and e are darts; where they are not used they may be any number
    ∷ row "dim=2\nslots=8\nop=add\ni=255\nd=9\ne=9\nop=orbit\ni=3\nd=4\ne=9\nop=orbit\ni=6\nd=1\ne=9\nop=sheet\ni=9\nd=5\ne=9\nop=undo\ni=9\nd=9\ne=9\n" "no=0\nat=0\nn=8\nno=0\nat=3\nn=8\nno=0\nat=1\nn=2\nno=0\nat=0\nn=4\nno=0\nat=0\nn=32\nlive=0\n"
    -- an edge of a quad sewn to another: link 2 leads elsewhere
    ∷ row "dim=2\nslots=8\nop=add\ni=0\nd=0\ne=0\nop=sew\ni=2\nd=5\ne=3\nop=unsew\ni=2\nd=7\ne=9\nop=sew\ni=2\nd=5\ne=3\n" "no=0\nat=0\nn=8\nno=0\nat=0\nn=4\nno=0\nat=0\nn=4\nno=0\nat=0\nn=4\nlive=8\ndart=0\nto=1,4,0,0\ndart=1\nto=0,5,1,1\ndart=2\nto=3,6,7,2\ndart=3\nto=2,7,5,3\ndart=4\nto=6,0,4,4\ndart=5\nto=7,1,3,5\ndart=6\nto=4,2,6,6\ndart=7\nto=5,3,2,7\n"
    -- a quad split, and one half removed: live slots behind unused ones
    ∷ row "dim=2\nslots=16\nop=add\ni=0\nd=0\ne=0\nop=split\ni=9\nd=1\ne=9\nop=remove\ni=9\nd=0\ne=9\n" "no=0\nat=0\nn=8\nno=0\nat=8\nn=8\nno=0\nat=0\nn=8\nlive=8\ndart=1\nto=10,5,1,1\ndart=3\nto=14,7,3,3\ndart=5\nto=7,1,5,5\ndart=7\nto=5,3,7,7\ndart=10\nto=1,11,10,10\ndart=11\nto=15,10,11,11\ndart=14\nto=3,15,14,14\ndart=15\nto=11,14,15,15\n"
    -- a hexahedron, and back
    ∷ row "dim=3\nslots=48\nop=add\ni=0\nd=0\ne=0\nop=undo\ni=0\nd=0\ne=0\n" "no=0\nat=0\nn=48\nno=0\nat=0\nn=192\nlive=0\n"
    ∷ []

unfoldable pub open_text : Unit {0}
unfolding begins is_digit digits number up_to last_digits decimal said
open_text = tt

unfoldable pub open_lines : Unit {0}
unfolding names calls call_of place_from behind reads left taken answered printed to_line dart_lines darts_from ending bad closing
open_lines = tt

-- ---- what would take too long a session, or a table that none has

-- the journal where a request is due
unfoldable pub journal_at : Due → List ℕ
journal_at dim_due = []
journal_at (slots_due n) = []
journal_at (op_due n o) = o.journal
journal_at (i_due n o p) = []
journal_at (d_due n o p i) = []
journal_at (e_due n o p i d) = []
