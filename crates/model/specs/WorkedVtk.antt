-- Worked texts (02, R-1): one cell, cells that share a face, how a text may be laid out, and each of the numbers 1, 14, 15 and 18 to 23, as
-- tables, of which one statement each is proved (proofs/WorkedVtk.antt). The labels are those of Worked.antt: 10101 is the first of R-1.
use Rattle.std.specs.Prelude.{ℕ, zero, suc, List, [], ◌∷◌, ◌++◌}
use Prim.Native.String.{String}
use Rattle.model.specs.Text.{bytes, decimal}
use Rattle.model.specs.Runs.{Op, Call, begin}
use Rattle.model.specs.Meaning.Worked.{Case, Seen, gives, goes, cursor_is, end_is, words_are, changes, live_are, as_calls}

-- k points, all at one place
unfoldable pub zeros : ℕ → List ℕ
zeros zero = []
zeros (suc k) = bytes "0 0 0\n" ++ zeros k

-- a text with k points, and these words behind them
unfoldable pub file : ℕ → String → List ℕ
file k s =
    bytes "# vtk DataFile Version 3.0\n\nASCII\nDATASET UNSTRUCTURED_GRID\nPOINTS " ++ decimal k ++ bytes " float\n" ++ zeros k
    ++ bytes s

-- one cell
unfoldable pub one : List ℕ
one = file 8 "CELLS 1 9\n8 0 1 2 3 4 5 6 7\nCELL_TYPES 1\n12\n"

-- label, dimension, slots, words of the journal, the calls before, the tag, the text, what is seen
unfoldable pub row : ℕ → ℕ → ℕ → ℕ → List Call → ℕ → List ℕ → List Seen → Case
row l n s w before tag text ss =
    record { label = l; dim = n; start = begin s w; before = before; call = Call.op tag (Op.vtk text); seen = ss }

-- a text that is refused by the number k
unfoldable pub refuses : ℕ → ℕ → List ℕ → Case
refuses l k text = row l 3 96 2000 [] 0 text (gives k 0 0 ∷ changes 0 ∷ cursor_is 2 ∷ [])

unfoldable pub texts : List Case
texts =
    -- one cell is as by add; its record
    row 10101 3 50 600 [] 0 one (gives 0 0 48 ∷ changes 192 ∷ live_are 48 ∷ as_calls (Call.op 0 Op.add ∷ []) ∷ [])
    ∷ row 10102 3 48 581 [] 7 one (gives 0 0 48 ∷ cursor_is 581 ∷ end_is 581 ∷ words_are 2 (192 ∷ 7 ∷ 0 ∷ 4294967295 ∷ 1 ∷ []) ∷ [])
    -- a slot less, a word less; n = 2; a table that is not empty, which is told before the text
    ∷ row 10103 3 47 600 [] 0 one (gives 14 0 0 ∷ changes 0 ∷ [])
    ∷ row 10104 3 48 580 [] 0 one (gives 15 0 0 ∷ changes 0 ∷ [])
    ∷ row 10105 2 48 600 [] 0 one (gives 1 0 0 ∷ [])
    ∷ row 10106 3 96 2000 (Call.op 0 Op.add ∷ []) 0 one (gives 18 0 0 ∷ changes 0 ∷ cursor_is 581 ∷ [])
    ∷ row 10107 3 96 2000 (Call.op 0 Op.add ∷ []) 0 [] (gives 18 0 0 ∷ [])
    -- two cells, the second on the first: its face read in the same sense, then in the other
    ∷ row 10108 3 96 2000 [] 0 (file 12 "CELLS 2 18 8 0 1 2 3 4 5 6 7 8 4 5 6 7 8 9 10 11 CELL_TYPES 2 12 12")
    (gives 0 0 96 ∷ changes 384 ∷ live_are 96 ∷ goes 4 3 48 ∷ goes 48 3 4 ∷ goes 5 3 49 ∷ goes 0 3 0 ∷ goes 52 3 52 ∷ [])
    ∷ row 10109 3 96 2000 [] 0 (file 12 "CELLS 2 18 8 0 1 2 3 4 5 6 7 8 4 7 6 5 8 11 10 9 CELL_TYPES 2 12 12")
    (gives 0 0 96 ∷ goes 4 3 64 ∷ goes 64 3 4 ∷ goes 20 3 48 ∷ goes 0 3 0 ∷ [])
    -- the same cell twice: all six faces are sewn
    ∷ row 10110 3 96 2000 [] 0 (file 8 "CELLS 2 18 8 0 1 2 3 4 5 6 7 8 0 1 2 3 4 5 6 7 CELL_TYPES 2 12 12")
    (gives 0 0 96 ∷ goes 0 3 48 ∷ goes 4 3 52 ∷ goes 8 3 56 ∷ goes 10 3 58 ∷ goes 24 3 72 ∷ goes 73 3 25 ∷ [])
    -- version 2.0, a title of words, tabs, several blanks, no LF behind the last word
    ∷ row 10111 3 48 600 [] 0
    (bytes "# vtk DataFile Version 2.0\nASCII a\nASCII\t DATASET\tUNSTRUCTURED_GRID\n\nPOINTS 8 x 0 0 0 0 0 0 0 0 0 0 0 0 0 0 0 0 0 0 0 0 0 y 0 z\tCELLS 1 9 8\n0 1 2 3 4 5 6 7 CELL_TYPES\t1 12")
    (gives 0 0 48 ∷ [])
    -- a read is one step of the history
    ∷ record {
      label = 10112;
      dim = 3;
      start = begin 48 600;
      before = Call.op 7 (Op.vtk one) ∷ [];
      call = Call.undo;
      seen = gives 0 7 192 ∷ live_are 0 ∷ cursor_is 2 ∷ end_is 581 ∷ [];
    }
    ∷ []

unfoldable pub refusals : List Case
refusals =
    refuses 10120 20 (file 8 "CELLS 2 14 8 0 1 2 3 4 5 6 7 4 0 1 2 3 CELL_TYPES 2 12 10")
    ∷ refuses 10121 21 (file 8 "CELLS 1 9 8 0 1 2 3 4 5 6 6 CELL_TYPES 1 12")
    ∷ refuses 10122 22 (file 8 "CELLS 3 27 8 0 1 2 3 4 5 6 7 8 0 1 2 3 4 5 6 7 8 0 1 2 3 4 5 6 7 CELL_TYPES 3 12 12 12")
    ∷ refuses 10123 23 (file 12 "CELLS 2 18 8 0 1 2 3 4 5 6 7 8 4 6 5 7 8 9 10 11 CELL_TYPES 2 12 12")
    -- the least number wins, whichever cell it is in: 20 before 21, 21 before 22, 22 before 23
    ∷ refuses 10124 20 (file 8 "CELLS 2 14 8 0 1 2 3 4 5 6 6 4 0 1 2 3 CELL_TYPES 2 12 10")
    ∷ refuses 10125 21 (file 8 "CELLS 4 36 8 0 1 2 3 4 5 6 7 8 0 1 2 3 4 5 6 7 8 0 1 2 3 4 5 6 7 8 0 1 2 3 4 5 0 7 CELL_TYPES 4 12 12 12 12")
    ∷ refuses 10126 22 (file 12 "CELLS 3 27 8 0 1 2 3 4 5 6 7 8 0 1 2 3 4 5 6 7 8 4 6 5 7 8 9 10 11 CELL_TYPES 3 12 12 12")
    -- a type of thirty digits is another type
    ∷ refuses 10127 20 (file 8 "CELLS 1 9 8 0 1 2 3 4 5 6 7 CELL_TYPES 1 999999999999999999999999999912")
    -- 19: a number that names no point, also in a cell of another type; a size that does not fit; a word behind
    ∷ refuses 10130 19 (file 7 "CELLS 1 9 8 0 1 2 3 4 5 6 7 CELL_TYPES 1 12")
    ∷ refuses 10131 19 (file 8 "CELLS 2 14 8 0 1 2 3 4 5 6 7 4 0 1 2 8 CELL_TYPES 2 12 10")
    ∷ refuses 10132 19 (file 8 "CELLS 1 10 8 0 1 2 3 4 5 6 7 CELL_TYPES 1 12")
    ∷ refuses 10133 19 (file 8 "CELLS 1 9 8 0 1 2 3 4 5 6 7 CELL_TYPES 1 12 12")
    -- a leading zero, a type that is no number, a count too large, no cell, another number of types
    ∷ refuses 10134 19 (file 8 "CELLS 1 9 8 00 1 2 3 4 5 6 7 CELL_TYPES 1 12")
    ∷ refuses 10135 19 (file 8 "CELLS 1 9 8 0 1 2 3 4 5 6 7 CELL_TYPES 1 x12")
    ∷ refuses 10136 19 (file 8 "CELLS 1 999999999999999999999999999999 8 0 1 2 3 4 5 6 7 CELL_TYPES 1 12")
    ∷ refuses 10137 19 (file 8 "CELLS 0 0 CELL_TYPES 0")
    ∷ refuses 10138 19 (file 8 "CELLS 1 9 8 0 1 2 3 4 5 6 7 CELL_TYPES 2 12")
    -- a row of type 12 with 7 numbers, a CR, a keyword in lower case, another version, no text
    ∷ refuses 10139 19 (file 8 "CELLS 2 13 7 0 1 2 3 4 5 6 4 0 1 2 3 CELL_TYPES 2 12 10")
    ∷ refuses 10140 19 (file 8 "CELLS 1 9\r\n8 0 1 2 3 4 5 6 7 CELL_TYPES 1 12")
    ∷ refuses 10141 19 (file 8 "cells 1 9 8 0 1 2 3 4 5 6 7 CELL_TYPES 1 12")
    ∷ refuses 10142 19 (bytes "# vtk DataFile Version 4.2\n\nASCII DATASET UNSTRUCTURED_GRID POINTS 0 float CELLS 1 1 0 CELL_TYPES 1 1")
    ∷ refuses 10143 19 []
    ∷ []
