-- The small maps that document 01 has worked, 1 to 14, and some of 02's requests: each fact of them, as one table, of
-- which one statement is proved (proofs/Worked.antt). 3 to 5 have the figures of R-11. Where nothing is said of tags they are 0. 1204 is our own, a side of two darts unsewn,
-- and so are those from 20101 on.
-- The lengths of case 14, too long to compute with, follow from the check; they stand beside that statement.
use Rattle.std.specs.Prelude.{ℕ, ◌+◌, ◌*◌, Bool, true, false, ◌&&◌, List, [], ◌∷◌, ◌++◌, set, replicate}
use Rattle.model.specs.Lists.{tabulate, equal}
use Rattle.model.specs.Table.{unused, slots, link}
use Rattle.model.specs.Add.{add_table}
use Rattle.model.specs.Sew.{sew_table}
use Rattle.model.specs.Remove.{remove_table}
use Rattle.model.specs.Split.{split_table}
use Rattle.model.specs.Insert.{insert_table}
use Rattle.model.specs.Checks.{pass, refuse, in_order, wall_checks}
use Rattle.model.specs.Runs.{Op, Call, effect, begin}
use Rattle.model.specs.Meaning.Ends.{lent}
use Rattle.model.specs.Meaning.Lists.{member}
use Rattle.model.specs.Meaning.Worked.{Case, Seen, gives, goes, marks_are, marked_are, cursor_is, end_is, words_are, frees}
use Rattle.model.specs.Meaning.Worked.{changes, live_are, restores, as_calls, begin_on}
use Rattle.model.specs.Meaning.Worked.{ListCase, PickCase}

-- operations that all have one tag
unfoldable pub tagged : ℕ → List Op → List Call
tagged tag [] = []
tagged tag (p ∷ ps) = Call.op tag p ∷ tagged tag ps

-- Q: one add
unfoldable pub quad : List Op
quad = Op.add ∷ []

-- T: three quads from 0, 8, 16, sewn by link 2: (5,12), (13,20)
unfoldable pub three : List Op
three = Op.add ∷ Op.add ∷ Op.add ∷ Op.sew 2 5 12 ∷ Op.sew 2 13 20 ∷ []

-- Q split in two, as in 3
unfoldable pub halves : List Op
halves = Op.add ∷ Op.split 0 ∷ []

-- Q's edge of 5 sewn to its edge of 2
unfoldable pub bent : List Op
bent = Op.add ∷ Op.sew 2 5 2 ∷ []

-- Q with link 0 between 0 and 1 undone
unfoldable pub unlinked : List Op
unlinked = Op.add ∷ Op.unsew 0 0 ∷ []

-- R-3: a quad, and a hexahedron, that fill their table
unfoldable pub quad_table : List ℕ
quad_table = add_table 2 (replicate 32 unused)

unfoldable pub hexahedron_table : List ℕ
hexahedron_table = add_table 3 (replicate 192 unused)

-- R-3: d.i leads to e
unfoldable pub damaged : ℕ → ℕ → ℕ → List ℕ → List ℕ
damaged d i e t = set t (4 * d + i) e

-- R-4: a quad whose edge of 5 and 7 is sewn onto itself
unfoldable pub folded_edge : List ℕ
folded_edge =
    1 ∷ 4 ∷ 0 ∷ 0 ∷ 0 ∷ 5 ∷ 1 ∷ 1 ∷ 3 ∷ 6 ∷ 2 ∷ 2 ∷ 2 ∷ 7 ∷ 3 ∷ 3
    ∷ 6 ∷ 0 ∷ 4 ∷ 4 ∷ 7 ∷ 1 ∷ 7 ∷ 5 ∷ 4 ∷ 2 ∷ 6 ∷ 6 ∷ 5 ∷ 3 ∷ 5 ∷ 7 ∷ []

-- R-4: a hexahedron whose face of 0 is sewn onto itself, turned about its middle: link 1 is undone at two corners, the halves
-- of the face are sewn to each other, and link 1 is sewn again
unfoldable pub folded_face : List Op
folded_face = Op.add ∷ Op.unsew 1 0 ∷ Op.unsew 1 19 ∷ Op.sew 3 0 3 ∷ Op.sew 1 0 16 ∷ []

-- R-10: the marks of T's middle layer: 3 on 5, 7, 20 and 22
unfoldable pub middle : List ℕ
middle =
    0 ∷ 0 ∷ 0 ∷ 0 ∷ 0 ∷ 3 ∷ 0 ∷ 3 ∷ 1 ∷ 1 ∷ 1 ∷ 1 ∷ 2 ∷ 2 ∷ 2 ∷ 2 ∷ 0 ∷ 0 ∷ 0 ∷ 0 ∷ 3 ∷ 0 ∷ 3 ∷ 0 ∷ []

-- R-10: Q's edge of 5 sewn to the edge that it faces, so that the layer of 0 touches itself
unfoldable pub ring : List Op
ring = Op.add ∷ Op.sew 2 5 4 ∷ []

-- R-11: Q with the tag 7, split with the tag 4294967295
unfoldable pub named : List Call
named = Call.op 7 Op.add ∷ Call.op 4294967295 (Op.split 0) ∷ []

-- R-5: what operations make of a table, and of unused slots
unfoldable pub made_of : ℕ → List ℕ → List Op → List ℕ
made_of n t [] = t
made_of n t (p ∷ ps) = made_of n (effect n t p) ps

unfoldable pub made : ℕ → ℕ → List Op → List ℕ
made n slots ps = made_of n (replicate (4 * slots) unused) ps

-- R-5: the marks of a wall, and insert along it
unfoldable pub wall : ℕ → List ℕ → List ℕ
wall slots hs = tabulate slots (λ x. elim (member hs x) [ true ↦ 1 | false ↦ 0 ])

unfoldable pub insert_at : ℕ → List ℕ → Call
insert_at slots hs = Call.op 0 (Op.insert (wall slots hs))

-- R-5: the darts of T's wall between its first two quads, whose turns end free; and of both its walls
unfoldable pub between : List ℕ
between = 5 ∷ 7 ∷ 12 ∷ 14 ∷ []

unfoldable pub both : List ℕ
both = 13 ∷ 15 ∷ 20 ∷ 22 ∷ between

-- R-5: two rings, one round the other; round : the wall between them
unfoldable pub rings : List Op
rings = Op.add ∷ Op.sew 2 5 4 ∷ Op.add ∷ Op.sew 2 13 12 ∷ Op.sew 2 2 8 ∷ []

unfoldable pub round : List ℕ
round = 2 ∷ 3 ∷ 8 ∷ 9 ∷ []

-- R-5: a ring whose other two edges are sewn too, one turned: next leads over them
unfoldable pub torus : List Op
torus = Op.add ∷ Op.sew 2 5 4 ∷ Op.sew 2 0 2 ∷ []

-- R-5: two quads side by side, each with its other two edges sewn, so that they are a tube; the wall of these, one only by next
unfoldable pub tube : List Op
tube = Op.add ∷ Op.add ∷ Op.sew 2 5 12 ∷ Op.sew 2 0 2 ∷ Op.sew 2 8 10 ∷ []

unfoldable pub seams : List ℕ
seams = 0 ∷ 1 ∷ 2 ∷ 3 ∷ 8 ∷ 9 ∷ 10 ∷ 11 ∷ []

-- R-5: a bent quad as in 8, and a ring beside it; the walls of both
unfoldable pub bent_and_ring : List Op
bent_and_ring = bent ++ (Op.add ∷ Op.sew 2 13 12 ∷ [])

unfoldable pub apart : List ℕ
apart = 2 ∷ 3 ∷ 5 ∷ 7 ∷ 12 ∷ 13 ∷ 14 ∷ 15 ∷ []

-- R-5: three quads round a vertex at the border; of the two walls there, one side ends free and the other has a next
unfoldable pub fan : List Op
fan = Op.add ∷ Op.add ∷ Op.add ∷ Op.sew 2 5 12 ∷ Op.sew 2 8 20 ∷ []

unfoldable pub corner : List ℕ
corner = 8 ∷ 9 ∷ 20 ∷ 22 ∷ between

-- R-5, in 3D: a hexahedron whose two faces at an edge are sewn, with the edge turned round: next(h) is h.0.n there
unfoldable pub hinge : List Op
hinge = Op.add ∷ Op.sew 3 0 9 ∷ []

unfoldable pub hinge_faces : List ℕ
hinge_faces = 0 ∷ 1 ∷ 2 ∷ 3 ∷ 8 ∷ 9 ∷ 12 ∷ 13 ∷ 16 ∷ 17 ∷ 18 ∷ 19 ∷ 32 ∷ 33 ∷ 36 ∷ 37 ∷ []

-- our own: Q with link 0 between 2 and 3 undone
unfoldable pub cut : List ℕ
cut = damaged 2 0 2 (damaged 3 0 3 quad_table)

-- our own: the record of that, with the tag 7
unfoldable pub cut_record : List ℕ
cut_record = 2 ∷ 7 ∷ 8 ∷ 3 ∷ 2 ∷ 12 ∷ 2 ∷ 3 ∷ 2 ∷ []

-- our own: two darts that link i joins, and no other link
unfoldable pub joined : ℕ → List ℕ
joined i = damaged 0 i 1 (damaged 1 i 0 (replicate 4 0 ++ replicate 4 1))

-- label, dimension, slots, words of the journal, the operations before, the call, what is seen
unfoldable pub row : ℕ → ℕ → ℕ → ℕ → List Op → Call → List Seen → Case
row l n s w ps c ss = record { label = l; dim = n; start = begin s w; before = tagged 0 ps; call = c; seen = ss }

-- the same after calls of any kind
unfoldable pub row_after : ℕ → ℕ → ℕ → ℕ → List Call → Call → List Seen → Case
row_after l n s w before c ss = record { label = l; dim = n; start = begin s w; before = before; call = c; seen = ss }

-- the same of a table that is given, with no calls before
unfoldable pub row_on : ℕ → ℕ → List ℕ → ℕ → Call → List Seen → Case
row_on l n t w c ss = record { label = l; dim = n; start = begin_on t w; before = []; call = c; seen = ss }

-- the same in 2D, of a table and a journal that are given: its cursor, its end, and the words behind
unfoldable pub row_with : ℕ → List ℕ → ℕ → ℕ → List ℕ → Call → List Seen → Case
row_with l t c e ws call ss =
    record { label = l; dim = 2; start = lent t (replicate (slots t) 0) (c ∷ e ∷ ws); before = []; call = call; seen = ss }

unfoldable pub cases : List Case
cases =
    row 101 2 8 200 quad (Call.sheet 0) (gives 0 0 4 ∷ marks_are (1 ∷ 1 ∷ 1 ∷ 1 ∷ 2 ∷ 2 ∷ 2 ∷ 2 ∷ []) ∷ [])
    ∷ row 201 2 7 200 [] (Call.op 0 Op.add) (gives 14 0 0 ∷ [])
    ∷ row 301 2 16 212 [] (Call.op 0 Op.add) (gives 0 0 8 ∷ cursor_is 101 ∷ end_is 101 ∷ [])
    ∷ row 302 2 16 212 quad (Call.op 0 (Op.split 0)) (gives 0 8 8 ∷ cursor_is 212 ∷ end_is 212 ∷ changes 36 ∷ [])
    ∷ row 303 2 16 212 quad (Call.op 0 (Op.split 0)) (goes 0 0 8 ∷ goes 9 0 13 ∷ goes 9 2 11 ∷ goes 8 2 8 ∷ [])
    ∷ row 401 2 16 211 quad (Call.op 0 (Op.split 0)) (gives 15 0 0 ∷ changes 0 ∷ cursor_is 101 ∷ end_is 101 ∷ [])
    ∷ row 402 2 16 211 quad (Call.op 0 (Op.split 0)) (marks_are (replicate 4 1 ++ replicate 4 2 ++ replicate 8 0) ∷ [])
    ∷ row 501 2 16 400 halves (Call.op 0 (Op.remove 0)) (gives 0 0 8 ∷ changes 34 ∷ goes 11 2 11 ∷ goes 15 2 15 ∷ live_are 8 ∷ [])
    ∷ row 502 2 16 400 halves (Call.op 0 (Op.remove 0))
    (frees 0 ∷ frees 2 ∷ frees 4 ∷ frees 6 ∷ frees 8 ∷ frees 9 ∷ frees 12 ∷ frees 13 ∷ [])
    ∷ row 503 2 16 400 halves (Call.op 0 (Op.remove 0)) (cursor_is 317 ∷ end_is 317 ∷ [])
    ∷ row 601 2 24 600 three (Call.op 0 (Op.remove 8)) (gives 0 0 8 ∷ goes 5 2 20 ∷ goes 7 2 22 ∷ changes 36 ∷ [])
    ∷ row 701 2 24 600 three (Call.sheet 12) (gives 0 0 12 ∷ marked_are 24 ∷ [])
    ∷ row 801 2 8 200 quad (Call.op 0 (Op.sew 2 5 2)) (gives 0 0 4 ∷ goes 7 2 3 ∷ [])
    ∷ row 802 2 8 200 bent (Call.sheet 0) (gives 0 0 8 ∷ [])
    ∷ row 803 2 8 200 bent (Call.op 0 (Op.split 0)) (gives 13 0 0 ∷ changes 0 ∷ marks_are (replicate 8 1) ∷ [])
    ∷ row 804 2 8 300 bent (Call.op 0 (Op.remove 0)) (gives 0 0 8 ∷ live_are 0 ∷ [])
    ∷ row 901 2 8 200 quad (Call.op 0 (Op.sew 2 5 7)) (gives 9 0 0 ∷ [])
    ∷ row 1001 2 24 600 three (Call.op 0 (Op.sew 2 5 0)) (gives 10 0 0 ∷ [])
    ∷ row 1101 2 8 200 quad (Call.op 0 (Op.unsew 2 0)) (gives 11 0 0 ∷ [])
    ∷ row 1201 2 8 200 quad (Call.op 0 (Op.unsew 0 0)) (gives 0 0 2 ∷ changes 2 ∷ [])
    ∷ row 1202 2 8 200 unlinked (Call.op 0 (Op.sew 2 0 5)) (gives 12 0 0 ∷ [])
    ∷ row 1203 2 8 200 unlinked (Call.sheet 0) (gives 8 0 0 ∷ [])
    ∷ row 1204 2 24 600 three (Call.op 0 (Op.unsew 2 5)) (gives 0 0 4 ∷ goes 7 2 7 ∷ goes 14 2 14 ∷ [])
    ∷ row 1401 2 8 2 [] Call.undo (gives 16 0 0 ∷ [])
    ∷ row 1402 2 24 600 three (Call.orbit 6 5) (gives 0 1 4 ∷ [])
    ∷ row 1403 2 0 2 [] Call.check (gives 0 0 2 ∷ [])
    ∷ row_on 10301 2 (damaged 7 3 8 quad_table) 200 Call.check (gives 5 7 3 ∷ [])
    ∷ row_on 10302 2 (damaged 5 0 5 quad_table) 200 Call.check (gives 24 7 0 ∷ [])
    ∷ row_on 10303 2 (damaged 1 2 unused quad_table) 200 Call.check (gives 25 0 0 ∷ [])
    ∷ row_on 10304 2 (damaged 4 3 6 (damaged 6 3 4 quad_table)) 200 Call.check (gives 26 4 3 ∷ [])
    ∷ row_on 10305 2 (damaged 4 3 6 (damaged 6 3 4 quad_table)) 200 (Call.op 0 (Op.unsew 1 0))
    (gives 26 4 3 ∷ changes 0 ∷ cursor_is 2 ∷ [])
    ∷ row 10401 2 8 200 bent Call.check (gives 0 0 2 ∷ [])
    ∷ row_on 10402 2 folded_edge 200 Call.check (gives 0 0 1 ∷ [])
    ∷ row_on 10403 2 folded_edge 200 (Call.sheet 5) (gives 8 0 0 ∷ marks_are (replicate 8 0) ∷ [])
    ∷ row 11001 2 24 600 three (Call.sheet 8) (gives 0 0 4 ∷ marks_are middle ∷ [])
    ∷ row 11002 2 24 600 three (Call.op 0 (Op.remove 8)) (gives 0 0 8 ∷ marks_are middle ∷ changes 36 ∷ [])
    ∷ row 11003 2 24 600 three (Call.op 0 (Op.split 8)) (gives 14 0 0 ∷ marks_are middle ∷ changes 0 ∷ [])
    ∷ row 11004 2 8 200 ring (Call.sheet 0) (gives 0 0 4 ∷ marks_are (replicate 4 1 ++ replicate 4 2) ∷ [])
    ∷ row 11101 2 16 212 [] (Call.op 7 Op.add) (words_are 2 (32 ∷ 7 ∷ 0 ∷ []) ∷ words_are 100 (32 ∷ []) ∷ [])
    ∷ row_after 11102 2 16 212 named Call.undo (gives 0 4294967295 36 ∷ cursor_is 101 ∷ end_is 212 ∷ live_are 8 ∷ [])
    ∷ row_after 11103 2 16 212 (named ++ (Call.undo ∷ [])) Call.undo (gives 0 7 32 ∷ cursor_is 2 ∷ end_is 212 ∷ live_are 0 ∷ [])
    ∷ row_after 11104 2 16 212 (named ++ (Call.undo ∷ Call.undo ∷ [])) Call.redo (gives 0 7 32 ∷ cursor_is 101 ∷ live_are 8 ∷ [])
    ∷ row_after 11105 2 16 212 (named ++ (Call.undo ∷ [])) Call.redo (gives 0 4294967295 36 ∷ cursor_is 212 ∷ live_are 16 ∷ [])
    ∷ row_after 11106 2 16 212 named Call.redo (gives 16 0 0 ∷ cursor_is 212 ∷ [])
    ∷ row 20101 2 8 200 quad (Call.op 9 (Op.sew 2 5 2))
    (gives 0 0 4 ∷ words_are 101 (4 ∷ 9 ∷ 10 ∷ 2 ∷ 5 ∷ 14 ∷ 3 ∷ 7 ∷ 22 ∷ 5 ∷ 2 ∷ 30 ∷ 7 ∷ 3 ∷ 4 ∷ 0 ∷ []) ∷ cursor_is 116 ∷ end_is 116 ∷ [])
    ∷ row_after 20102 2 16 212 (named ++ (Call.undo ∷ Call.undo ∷ [])) (Call.op 9 Op.add)
    (words_are 0 (101 ∷ 101 ∷ 32 ∷ 9 ∷ 0 ∷ []) ∷ words_are 97 (31 ∷ unused ∷ 7 ∷ 32 ∷ 36 ∷ 4294967295 ∷ []) ∷ [])
    -- a record put forth and back; then its counts differ, 3 and 4; k is 0, 5 and 6; it passes 2, 7, or the end, 8; an entry falls,
    -- 9, stays, 10, or lies past the table, 11; old = new, 12; the value is not held, 13 and 14; the result is no map, 15
    ∷ row_with 20201 quad_table 2 11 cut_record Call.redo (gives 0 7 2 ∷ goes 2 0 2 ∷ goes 3 0 3 ∷ changes 2 ∷ cursor_is 11 ∷ [])
    ∷ row_with 20202 cut 11 11 cut_record Call.undo (gives 0 7 2 ∷ goes 2 0 3 ∷ goes 3 0 2 ∷ changes 2 ∷ cursor_is 2 ∷ end_is 11 ∷ [])
    ∷ row_with 20203 quad_table 2 11 (set cut_record 8 3) Call.redo (gives 17 0 0 ∷ changes 0 ∷ cursor_is 2 ∷ [])
    ∷ row_with 20204 cut 11 11 (set cut_record 0 3) Call.undo (gives 17 0 0 ∷ changes 0 ∷ cursor_is 11 ∷ [])
    ∷ row_with 20205 quad_table 2 5 (0 ∷ 7 ∷ 0 ∷ []) Call.redo (gives 17 0 0 ∷ [])
    ∷ row_with 20206 cut 5 5 (0 ∷ 7 ∷ 0 ∷ []) Call.undo (gives 17 0 0 ∷ [])
    ∷ row_with 20207 cut 7 9 (8 ∷ 3 ∷ 2 ∷ 12 ∷ 2 ∷ 3 ∷ 7 ∷ []) Call.undo (gives 17 0 0 ∷ [])
    ∷ row_with 20208 quad_table 2 10 cut_record Call.redo (gives 17 0 0 ∷ [])
    ∷ row_with 20209 quad_table 2 11 (2 ∷ 7 ∷ 12 ∷ 2 ∷ 3 ∷ 8 ∷ 3 ∷ 2 ∷ 2 ∷ []) Call.redo (gives 17 0 0 ∷ [])
    ∷ row_with 20210 quad_table 2 14 (3 ∷ 7 ∷ 8 ∷ 3 ∷ 2 ∷ 12 ∷ 2 ∷ 3 ∷ 12 ∷ 2 ∷ 3 ∷ 3 ∷ []) Call.redo (gives 17 0 0 ∷ [])
    ∷ row_with 20211 quad_table 2 14 (3 ∷ 7 ∷ 8 ∷ 3 ∷ 2 ∷ 12 ∷ 2 ∷ 3 ∷ 32 ∷ 0 ∷ 5 ∷ 3 ∷ []) Call.redo (gives 17 0 0 ∷ [])
    ∷ row_with 20212 quad_table 2 14 (3 ∷ 7 ∷ 8 ∷ 3 ∷ 2 ∷ 12 ∷ 2 ∷ 3 ∷ 16 ∷ 6 ∷ 6 ∷ 3 ∷ []) Call.redo (gives 17 0 0 ∷ [])
    ∷ row_with 20213 cut 2 11 cut_record Call.redo (gives 17 0 0 ∷ [])
    ∷ row_with 20214 quad_table 11 11 cut_record Call.undo (gives 17 0 0 ∷ [])
    ∷ row_with 20215 quad_table 2 8 (1 ∷ 7 ∷ 8 ∷ 3 ∷ 2 ∷ 1 ∷ []) Call.redo (gives 17 0 0 ∷ [])
    ∷ row_on 20301 2 (joined 0) 2 (Call.orbit 6 0) (gives 0 1 1 ∷ [])
    ∷ row_on 20302 2 (joined 1) 2 (Call.orbit 5 0) (gives 0 2 1 ∷ [])
    ∷ row_on 20303 2 (joined 2) 2 (Call.orbit 3 0) (gives 0 3 1 ∷ [])
    ∷ row_on 20304 2 (joined 2) 2 (Call.orbit 7 0) (gives 0 0 2 ∷ [])
    ∷ row_on 20305 2 (joined 1) 2 (Call.orbit 2 0) (gives 0 0 2 ∷ [])
    ∷ row_on 20306 2 (joined 2) 2 (Call.orbit 8 0) (gives 6 0 0 ∷ [])
    ∷ row_on 20307 3 (joined 0) 2 (Call.orbit 14 0) (gives 0 1 1 ∷ [])
    ∷ row_on 20308 3 (joined 1) 2 (Call.orbit 13 0) (gives 0 2 1 ∷ [])
    ∷ row_on 20309 3 (joined 2) 2 (Call.orbit 11 0) (gives 0 3 1 ∷ [])
    ∷ row_on 20310 3 (joined 3) 2 (Call.orbit 7 0) (gives 0 4 1 ∷ [])
    ∷ row_on 20311 3 (joined 3) 2 (Call.orbit 15 0) (gives 0 0 2 ∷ [])
    ∷ row_on 20312 3 (joined 3) 2 (Call.orbit 8 0) (gives 0 0 2 ∷ [])
    ∷ row_on 20401 1 (joined 0) 2 Call.check (gives 1 0 0 ∷ [])
    ∷ row_on 20402 4 (joined 0) 2 Call.check (gives 1 0 0 ∷ [])
    ∷ row_on 20403 2 (0 ∷ 0 ∷ 0 ∷ []) 2 Call.check (gives 2 0 0 ∷ [])
    ∷ row_with 20404 (joined 0) 1 2 [] Call.undo (gives 4 0 0 ∷ [])
    ∷ row_with 20405 (joined 0) 3 2 (0 ∷ []) Call.undo (gives 4 0 0 ∷ [])
    ∷ row_with 20406 (joined 0) 2 3 [] Call.undo (gives 4 0 0 ∷ [])
    ∷ row_with 20407 (joined 0) 2 2 [] (Call.op 0 (Op.unsew 3 0)) (gives 6 0 0 ∷ [])
    ∷ row_with 20408 (joined 0) 2 2 [] (Call.op 0 (Op.sew 1 2 0)) (gives 7 0 0 ∷ [])
    ∷ row_with 20409 (joined 0) 2 2 [] (Call.op 0 (Op.sew 1 0 2)) (gives 7 0 0 ∷ [])
    ∷ row_with 20410 (joined 0) 2 2 [] (Call.op 0 (Op.sew 0 0 1)) (gives 10 0 0 ∷ [])
    ∷ row_with 20411 cut 2 2 [] (Call.op 0 (Op.sew 0 2 0)) (gives 10 0 0 ∷ [])
    ∷ row_with 20412 (joined 0) 2 2 [] (Call.op 0 (Op.sew 0 0 0)) (gives 9 0 0 ∷ [])
    ∷ row_with 20413 (joined 0) 2 2 [] (Call.op 0 (Op.unsew 3 2)) (gives 6 0 0 ∷ [])
    ∷ row_with 20414 (joined 0) 2 2 [] (Call.sheet 2) (gives 7 0 0 ∷ [])
    ∷ row_with 20415 (joined 0) 2 2 [] (Call.op 0 (Op.remove 2)) (gives 7 0 0 ∷ [])
    ∷ record {
      label = 20416;
      dim = 2;
      start = lent (joined 0) (replicate 3 0) (2 ∷ 2 ∷ []);
      before = [];
      call = Call.sheet 2;
      seen = gives 3 0 0 ∷ [];
    }
    ∷ row 10501 2 32 440 three (insert_at 32 between)
    (gives 0 24 8 ∷ changes 36 ∷ live_are 32 ∷ cursor_is 440 ∷ goes 5 2 24 ∷ goes 24 2 5 ∷ goes 24 0 26 ∷ goes 24 1 25 ∷ [])
    ∷ row_on 10502 2 (made 2 32 three) 250 (insert_at 32 between) (goes 25 0 29 ∷ goes 25 1 24 ∷ goes 25 2 25 ∷ goes 25 3 25 ∷ restores 25 ∷ [])
    ∷ row 10503 2 32 440 (three ++ (Op.insert (wall 32 between) ∷ [])) Call.check (gives 0 0 2 ∷ [])
    ∷ row 10504 2 32 439 three (insert_at 32 between) (gives 15 0 0 ∷ changes 0 ∷ cursor_is 329 ∷ [])
    ∷ row_on 10505 2 (made 2 31 three) 2 (insert_at 31 between) (gives 14 0 0 ∷ changes 0 ∷ [])
    ∷ row_on 10506 2 (made 2 32 three) 2 (insert_at 31 between) (gives 3 0 0 ∷ [])
    ∷ row 10507 2 32 329 three (insert_at 32 (30 ∷ between)) (gives 28 0 0 ∷ changes 0 ∷ cursor_is 329 ∷ [])
    ∷ row_on 10508 2 (made 2 32 three) 2 (Call.op 0 (Op.insert (set (wall 32 between) 0 2))) (gives 28 0 0 ∷ [])
    ∷ row_on 10509 2 (made 2 32 three) 2 (Call.op 0 (Op.insert (set (wall 32 between) 0 3))) (gives 28 0 0 ∷ [])
    ∷ row_on 10510 2 (made 2 32 three) 2 (insert_at 32 []) (gives 29 0 0 ∷ [])
    ∷ row_on 10511 2 (made 2 32 three) 2 (insert_at 32 (5 ∷ 7 ∷ 12 ∷ [])) (gives 29 0 0 ∷ [])
    ∷ row_on 10512 2 (made 2 32 three) 2 (insert_at 32 (5 ∷ 7 ∷ [])) (gives 29 0 0 ∷ [])
    ∷ row_on 10513 2 (made 2 32 three) 2 (insert_at 32 (0 ∷ 1 ∷ between)) (gives 30 0 0 ∷ [])
    ∷ row_on 10514 2 (made 2 16 bent) 2 (insert_at 16 (2 ∷ 3 ∷ 5 ∷ 7 ∷ [])) (gives 31 0 0 ∷ [])
    ∷ row_on 10515 2 (made 2 24 three) 2 (insert_at 24 both) (gives 32 0 0 ∷ changes 0 ∷ [])
    ∷ row_on 10516 2 (made 2 16 ring) 250 (insert_at 16 (4 ∷ 5 ∷ 6 ∷ 7 ∷ [])) (gives 0 8 8 ∷ changes 36 ∷ restores 9 ∷ [])
    ∷ row_on 10517 2 (made 2 24 rings) 250 (insert_at 24 round) (gives 0 16 8 ∷ goes 17 2 19 ∷ goes 21 2 23 ∷ goes 17 0 21 ∷ restores 23 ∷ [])
    ∷ row_on 10518 2 (made 2 16 torus) 250 (insert_at 16 (4 ∷ 5 ∷ 6 ∷ 7 ∷ []))
    (gives 0 8 8 ∷ goes 9 2 13 ∷ goes 11 2 15 ∷ goes 9 0 11 ∷ goes 8 0 12 ∷ restores 13 ∷ [])
    ∷ row_on 10519 2 (made 2 32 tube) 500 (insert_at 32 seams)
    (gives 0 16 16 ∷ changes 72 ∷ goes 17 2 17 ∷ goes 19 2 25 ∷ goes 29 2 23 ∷ restores 31 ∷ [])
    -- a wall that branches; closed under link n alone; free and not closed; 31 and not connected; 28 and not a block map; one side that ends
    -- free
    ∷ row_on 10520 2 (made 2 8 torus) 2 (insert_at 8 (0 ∷ 1 ∷ 2 ∷ 3 ∷ 4 ∷ 5 ∷ 6 ∷ 7 ∷ [])) (gives 31 0 0 ∷ [])
    ∷ row_on 10521 2 (made 2 24 three) 2 (insert_at 24 (5 ∷ 12 ∷ [])) (gives 29 0 0 ∷ [])
    ∷ row_on 10522 2 (made 2 24 three) 2 (insert_at 24 (0 ∷ [])) (gives 29 0 0 ∷ [])
    ∷ row_on 10523 2 (made 2 16 bent_and_ring) 2 (insert_at 16 apart) (gives 31 0 0 ∷ [])
    ∷ row_on 10524 2 (made 2 8 unlinked) 2 (Call.op 0 (Op.insert (replicate 8 2))) (gives 8 0 0 ∷ [])
    ∷ row_on 10525 2 (made 2 24 fan) 2 (insert_at 24 corner) (gives 31 0 0 ∷ [])
    -- those of hexahedra stand last, and R-5's before them: they take the longest to compute
    ∷ row 1301 3 96 2000 quad (Call.sheet 0) (gives 0 0 16 ∷ marks_are (replicate 16 1 ++ replicate 32 2 ++ replicate 48 0) ∷ [])
    ∷ row 1302 3 96 2000 quad (Call.op 0 (Op.split 0)) (gives 0 48 48 ∷ changes 208 ∷ [])
    ∷ row_on 10306 3 (damaged 31 1 48 hexahedron_table) 200 Call.check (gives 5 31 1 ∷ [])
    ∷ row_on 10307 3 (damaged 31 1 31 hexahedron_table) 200 Call.check (gives 24 47 1 ∷ [])
    ∷ row_on 10308 3 (damaged 47 3 0 hexahedron_table) 200 Call.check (gives 25 31 1 ∷ [])
    ∷ row 10404 3 48 2000 folded_face Call.check (gives 0 0 1 ∷ goes 0 3 3 ∷ [])
    ∷ row 10405 3 48 2000 folded_face (Call.sheet 47) (gives 8 0 0 ∷ [])
    ∷ row_on 10526 3 (made 3 48 hinge) 2 (insert_at 48 hinge_faces) (gives 31 0 0 ∷ [])
    ∷ []

-- ---- R-9: lists of sews, with the tag 7

-- the quads of T, not sewn; and Q with link 0 between 0 and 1 undone, with a quad beside it
unfoldable pub parts : List ℕ
parts = made 2 24 (Op.add ∷ Op.add ∷ Op.add ∷ [])

unfoldable pub unlinked_parts : List ℕ
unlinked_parts = made 2 16 (unlinked ++ quad)

-- label, table, words of the journal, list, what is seen
unfoldable pub list_row : ℕ → List ℕ → ℕ → List ℕ → List Seen → ListCase
list_row l t w list ss = record { label = l; dim = 2; start = begin_on t w; tag = 7; list = list; seen = ss }

-- both sews of T, with just room, and a word less; none; an item refused, the first, one between others, the last; 38, before an item
-- that is wrong, and behind a rule of a map
unfoldable pub list_cases : List ListCase
list_cases =
    list_row 10901 parts 32 (2 ∷ 5 ∷ 12 ∷ 2 ∷ 13 ∷ 20 ∷ [])
    (gives 0 0 8 ∷ goes 5 2 12 ∷ goes 15 2 22 ∷ changes 8 ∷ words_are 0 (32 ∷ 32 ∷ 4 ∷ 7 ∷ 22 ∷ 5 ∷ 12 ∷ []) ∷ words_are 16 (4 ∷ 4 ∷ 7 ∷ [])
    ∷ as_calls (tagged 7 (Op.sew 2 5 12 ∷ Op.sew 2 13 20 ∷ [])) ∷ [])
    ∷ list_row 10902 parts 31 (2 ∷ 5 ∷ 12 ∷ 2 ∷ 13 ∷ 20 ∷ [])
    (gives 15 2 4 ∷ changes 4 ∷ cursor_is 17 ∷ as_calls (tagged 7 (Op.sew 2 5 12 ∷ [])) ∷ [])
    ∷ list_row 10903 parts 2 [] (gives 0 0 0 ∷ changes 0 ∷ cursor_is 2 ∷ end_is 2 ∷ [])
    ∷ list_row 10904 parts 32 (3 ∷ 5 ∷ 12 ∷ 2 ∷ 13 ∷ 20 ∷ []) (gives 6 1 0 ∷ changes 0 ∷ cursor_is 2 ∷ [])
    ∷ list_row 10905 parts 32 (2 ∷ 5 ∷ 12 ∷ 2 ∷ 24 ∷ 0 ∷ 2 ∷ 13 ∷ 20 ∷ []) (gives 7 2 4 ∷ changes 4 ∷ cursor_is 17 ∷ goes 13 2 13 ∷ [])
    ∷ list_row 10906 parts 32 (2 ∷ 5 ∷ 12 ∷ 2 ∷ 0 ∷ 1 ∷ []) (gives 9 2 4 ∷ changes 4 ∷ [])
    ∷ list_row 10907 parts 47 (2 ∷ 5 ∷ 12 ∷ 2 ∷ 13 ∷ 20 ∷ 2 ∷ 14 ∷ 0 ∷ []) (gives 10 3 8 ∷ changes 8 ∷ cursor_is 32 ∷ [])
    ∷ list_row 10908 unlinked_parts 32 (2 ∷ 2 ∷ 12 ∷ 2 ∷ 0 ∷ 8 ∷ []) (gives 12 2 4 ∷ changes 4 ∷ cursor_is 17 ∷ [])
    ∷ list_row 10909 parts 32 (3 ∷ 5 ∷ 12 ∷ 2 ∷ []) (gives 38 0 0 ∷ changes 0 ∷ cursor_is 2 ∷ [])
    ∷ list_row 10910 parts 32 (2 ∷ 5 ∷ []) (gives 38 0 0 ∷ changes 0 ∷ [])
    ∷ list_row 10911 (damaged 1 2 unused quad_table) 32 (2 ∷ 5 ∷ []) (gives 25 0 0 ∷ changes 0 ∷ [])
    ∷ []

-- ---- R-13: pick, with marks of 9 and a queue of junk

-- label, dimension, table, words of the queue, dart, what is seen: number, place, count and taken, the marks
unfoldable pub pick_row : ℕ → ℕ → List ℕ → ℕ → ℕ → List ℕ → List ℕ → PickCase
pick_row l n t w d a ms = record {
  label = l;
  dim = n;
  table = t;
  marks = replicate (slots t) 9;
  queue = replicate w unused;
  dart = d;
  answer = a;
  leaves = ms;
}

-- T's middle layer; a sheet that is everything; one that touches itself; a hexahedron's. A queue that is shorter, longer, none; 37 before a rule
-- of a map, and 3 before 37; then no map, no live dart, no block map
unfoldable pub pick_cases : List PickCase
pick_cases =
    pick_row 11301 2 (made 2 24 three) 24 8 (0 ∷ 0 ∷ 4 ∷ 4 ∷ []) middle
    ∷ pick_row 11302 2 (made 2 8 bent) 8 0 (0 ∷ 0 ∷ 8 ∷ 8 ∷ []) (replicate 8 1)
    ∷ pick_row 11303 2 (made 2 8 ring) 8 0 (0 ∷ 0 ∷ 4 ∷ 4 ∷ []) (replicate 4 1 ++ replicate 4 2)
    ∷ pick_row 11304 3 hexahedron_table 48 0 (0 ∷ 0 ∷ 16 ∷ 16 ∷ []) (replicate 16 1 ++ replicate 32 2)
    ∷ pick_row 11305 2 quad_table 7 0 (37 ∷ 0 ∷ 0 ∷ 0 ∷ []) (replicate 8 9)
    ∷ pick_row 11306 2 quad_table 9 0 (37 ∷ 0 ∷ 0 ∷ 0 ∷ []) (replicate 8 9)
    ∷ pick_row 11307 2 quad_table 0 0 (37 ∷ 0 ∷ 0 ∷ 0 ∷ []) (replicate 8 9)
    ∷ pick_row 11308 2 (damaged 7 3 8 quad_table) 7 0 (37 ∷ 0 ∷ 0 ∷ 0 ∷ []) (replicate 8 9)
    ∷ record {
      label = 11309;
      dim = 2;
      table = quad_table;
      marks = replicate 7 9;
      queue = [];
      dart = 0;
      answer = 3 ∷ 0 ∷ 0 ∷ 0 ∷ [];
      leaves = replicate 7 9;
    }
    ∷ pick_row 11310 2 (damaged 7 3 8 quad_table) 8 0 (5 ∷ 7 ∷ 3 ∷ 0 ∷ []) (replicate 8 9)
    ∷ pick_row 11311 2 quad_table 8 8 (7 ∷ 0 ∷ 0 ∷ 0 ∷ []) (replicate 8 9)
    ∷ pick_row 11312 2 (made 2 8 unlinked) 8 5 (8 ∷ 0 ∷ 0 ∷ 0 ∷ []) (replicate 8 9)
    ∷ []

-- our own, in 3D: the two hexahedra that split makes of one
unfoldable pub two_hexahedra : List ℕ
two_hexahedra = split_table 3 (add_table 3 (replicate 384 unused)) 0

-- R-5, in 3D: a hexahedron with two pairs of opposite faces sewn; the wall is one of them. From 0 next leads over the other, from 16 the
-- turn ends free
unfoldable pub solid_torus : List ℕ
solid_torus = sew_table 3 (sew_table 3 (add_table 3 (replicate 384 unused)) 3 0 4) 3 8 10

unfoldable pub seam : List ℕ
seam = wall 96 (0 ∷ 1 ∷ 2 ∷ 3 ∷ 4 ∷ 5 ∷ 6 ∷ 7 ∷ 16 ∷ 17 ∷ 18 ∷ 19 ∷ 20 ∷ 21 ∷ 22 ∷ 23 ∷ [])

unfoldable pub four_links : List ℕ → ℕ → List ℕ
four_links t d = link t 0 d ∷ link t 1 d ∷ link t 2 d ∷ link t 3 d ∷ []

-- of the table t and the wall's marks w: 28 to 32 pass; after insert the links of 0, of its p, q and r, 48 to 50, and of q and r of 16, 73 and 74,
-- are these, and remove at 50 gives t back
unfoldable pub thickens : List ℕ → List ℕ → List ℕ → Bool
thickens t w ls =
    let u = insert_table 3 t w in
    let v = remove_table 3 u 50 in
    elim (in_order (wall_checks 3 t w)) [
      | pass ↦
          equal (four_links u 0 ++ four_links u 48 ++ four_links u 49 ++ four_links u 50 ++ four_links u 73 ++ four_links u 74) ls
          && equal v t
      | refuse k p q ↦ false
    ]
