-- The session program: "It reads standard input as key=value lines, LF after each, in fixed order", and prints the answers.
-- `session` gives for the bytes of the input the bytes of the output.
use Rattle.std.specs.Prelude.{ℕ, zero, suc, true, false, List, [], ◌∷◌, ◌++◌, length, get_or, drop, eqb}
use Rattle.std.proofs.Math.Option.{Option, none, some}
use Rattle.model.specs.Lists.{equal}
use Rattle.model.specs.Table.{slots, link, live, live_count}
use Rattle.model.specs.Calls.{Outcome}
use Rattle.model.specs.Runs.{Op, Call, do_call, begin}
use Rattle.model.specs.Text.{bytes, newline, begins, number, up_to, decimal, said}

-- ---- requests

-- "Ops are the calls' names"
unfoldable pub names : List (List ℕ)
names =
    bytes "check" ∷ bytes "orbit" ∷ bytes "sheet" ∷ bytes "add" ∷ bytes "sew" ∷ bytes "unsew" ∷ bytes "remove"
    ∷ bytes "split" ∷ bytes "undo" ∷ bytes "redo" ∷ []

-- the calls, in the order of their names: "i holds the index or mask; unused values may be any number"
unfoldable pub calls : ℕ → ℕ → ℕ → ℕ → List Call
calls tag i d e =
    Call.check ∷ Call.orbit i d ∷ Call.sheet d ∷ Call.op tag Op.add ∷ Call.op tag (Op.sew i d e) ∷ Call.op tag (Op.unsew i d)
    ∷ Call.op tag (Op.remove d) ∷ Call.op tag (Op.split d) ∷ Call.undo ∷ Call.redo ∷ []

-- the call of a request, whose op is given by its place among the names
unfoldable pub call_of : ℕ → ℕ → ℕ → ℕ → ℕ → Call
call_of p tag i d e = get_or (calls tag i d e) p Call.check

-- the tag of its operations, in a session: 02, R-11, "0 in the session"
abbrev pub session_tag : ℕ
session_tag = 0

-- the place of a name, counted from p
unfoldable pub place_from : ℕ → List (List ℕ) → List ℕ → Option ℕ
place_from p [] xs = none
place_from p (w ∷ ws) xs = elim (equal w xs) [ true ↦ some p | false ↦ place_from (suc p) ws xs ]

-- ---- lines

-- the line that is due: "`dim=`, `slots=` (0 to 960), then per request `op=`, `i=`, `d=`, `e=`"; with what the lines before
-- it gave: the dimension, the table, marks and journal as the last request left them, and the request so far
pub data Due : Type 0 where
  dim_due : Due
  slots_due : ℕ → Due
  op_due : ℕ → Outcome → Due
  i_due : ℕ → Outcome → ℕ → Due
  d_due : ℕ → Outcome → ℕ → ℕ → Due
  e_due : ℕ → Outcome → ℕ → ℕ → ℕ → Due

-- the value of a line that begins with this key
unfoldable pub behind : List ℕ → (List ℕ → Option ℕ) → List ℕ → Option ℕ
behind key value xs = elim (begins key xs) [ true ↦ value (drop (length key) xs) | false ↦ none ]

-- what a line gives if it fits: "slots= (0 to 960)", numbers "up to 4294967295 (i to 255)"
unfoldable pub reads : Due → List ℕ → Option ℕ
reads dim_due xs = behind (bytes "dim=") (λ v. up_to 4294967295 (number v)) xs
reads (slots_due n) xs = behind (bytes "slots=") (λ v. up_to 960 (number v)) xs
reads (op_due n o) xs = behind (bytes "op=") (place_from 0 names) xs
reads (i_due n o p) xs = behind (bytes "i=") (λ v. up_to 255 (number v)) xs
reads (d_due n o p i) xs = behind (bytes "d=") (λ v. up_to 4294967295 (number v)) xs
reads (e_due n o p i d) xs = behind (bytes "e=") (λ v. up_to 4294967295 (number v)) xs

-- what the next request finds: the table, marks and journal that this one left
unfoldable pub left : Outcome → Outcome
left o = record { number = 0; place = 0; count = 0; table = o.table; marks = o.marks; journal = o.journal }

-- the line due after one that gave v. "The journal has 16,384 words."
unfoldable pub taken : Due → ℕ → Due
taken dim_due v = slots_due v
taken (slots_due n) v = op_due n (begin v 16384)
taken (op_due n o) v = i_due n o v
taken (i_due n o p) v = d_due n o p v
taken (d_due n o p i) v = e_due n o p i v
taken (e_due n o p i d) v = op_due n (left (do_call n o (call_of p session_tag i d v)))

-- ---- what is printed

-- "Per request it prints `no=`, `at=` (place), `n=` (count)"
unfoldable pub answered : Outcome → List ℕ
answered o = said (bytes "no=") o.number ++ said (bytes "at=") o.place ++ said (bytes "n=") o.count

-- a request has been read with its fourth line
unfoldable pub printed : Due → ℕ → List ℕ
printed dim_due v = []
printed (slots_due n) v = []
printed (op_due n o) v = []
printed (i_due n o p) v = []
printed (d_due n o p i) v = []
printed (e_due n o p i d) v = answered (do_call n o (call_of p session_tag i d v))

-- "`to=` with its four links, parted by commas"
unfoldable pub to_line : List ℕ → ℕ → List ℕ
to_line t d =
    bytes "to=" ++ decimal (link t 0 d) ++ bytes "," ++ decimal (link t 1 d) ++ bytes "," ++ decimal (link t 2 d)
    ++ bytes "," ++ said [] (link t 3 d)

-- "`dart=` and `to=`"
unfoldable pub dart_lines : List ℕ → ℕ → List ℕ
dart_lines t d = said (bytes "dart=") d ++ to_line t d

-- the live slots among a, a + 1, .. (k of them): "by rising dart"
unfoldable pub darts_from : ℕ → ℕ → List ℕ → List ℕ
darts_from zero a t = []
darts_from (suc k) a t = elim (live t a) [ true ↦ dart_lines t a ++ darts_from k (suc a) t | false ↦ darts_from k (suc a) t ]

-- "after the last request `live=` (number of live slots) and, by rising dart, .."
unfoldable pub ending : List ℕ → List ℕ
ending t = said (bytes "live=") (live_count t) ++ darts_from (slots t) 0 t

-- "it prints `bad=` with that line's number, from 1, and stops"
unfoldable pub bad : ℕ → List ℕ
bad line = said (bytes "bad=") line

-- ---- the whole

-- the end of the input, behind these bytes of a line: "At the first line that doesn't fit, or a missing line at the end"
unfoldable pub closing : ℕ → Due → List ℕ → List ℕ
closing line dim_due xs = bad line
closing line (slots_due n) xs = bad line
closing line (op_due n o) [] = ending o.table
closing line (op_due n o) (x ∷ xs) = bad line
closing line (i_due n o p) xs = bad line
closing line (d_due n o p i) xs = bad line
closing line (e_due n o p i d) xs = bad line

-- what is printed for the bytes to come: `line` is the number of the line, xs its bytes so far
unfoldable pub talk : ℕ → Due → List ℕ → List ℕ → List ℕ
talk line s xs [] = closing line s xs
talk line s xs (b ∷ bs) =
    elim (eqb b newline) [
      | true ↦ elim (reads s xs) [ none ↦ bad line | some v ↦ printed s v ++ talk (suc line) (taken s v) [] bs ]
      | false ↦ talk line s (xs ++ (b ∷ [])) bs
    ]

unfoldable pub session : List ℕ → List ℕ
session bs = talk 1 dim_due [] bs
