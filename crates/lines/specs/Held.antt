-- The machine that a `Session` and the lent buffers hold, and what these must have room for.
use Rattle.std.specs.Prelude.{ℕ, ◌+◌, ◌*◌, ◌≤◌, ◌≡◌, Bool, true, false, List, length, take}
use Rattle.model.specs.Calls.{Outcome}
use Rattle.model.specs.Session.{Due, dim_due, slots_due, op_due, i_due, d_due, e_due, taken, printed}
use Rattle.lines.specs.declared.Key.{Key}
use Rattle.lines.specs.declared.Key.TheVariants.{Dim, Slots, Op, I, D, E}
use Rattle.lines.specs.declared.Session.{Session}
use Rattle.lines.specs.declared.Step.{Step}
use Rattle.texts.specs.Texts.{Appended}
use Rattle.requests.specs.Asked.{lent_to}
use Rattle.lines.specs.Machine.{Machine, reading, stopped}

-- so many slots of the lent table and marks, and the journal
abbrev pub lent : ℕ → List ℕ → List ℕ → List ℕ → Outcome
lent k t m j = lent_to (take (4 * k) t) (take k m) j

unfoldable pub due_at : Key → ℕ → ℕ → ℕ → ℕ → Outcome → Due
due_at Dim n p i d o = dim_due
due_at Slots n p i d o = slots_due n
due_at Op n p i d o = op_due n o
due_at I n p i d o = i_due n o p
due_at D n p i d o = d_due n o p i
due_at E n p i d o = e_due n o p i d

abbrev pub due_of : Session → List ℕ → List ℕ → List ℕ → Due
due_of s t m j = due_at s.key s.n s.op s.i s.d (lent s.slots t m j)

unfoldable pub unless : Bool → Machine → Machine
unless true m = stopped
unless false m = m

-- xs holds the line
abbrev pub machine_of : Session → List ℕ → List ℕ → List ℕ → List ℕ → Machine
machine_of s xs t m j = unless s.done (reading s.line (due_of s t m j) (take s.held xs))

-- `op=` is due
unfoldable pub at_op : Key → Bool
at_op Dim = false
at_op Slots = false
at_op Op = true
at_op I = false
at_op D = false
at_op E = false

-- ---- what the functions ask and give

-- the table and marks have room for 960 slots, "the journal has 16,384 words", and the line's buffer has room for 15 bytes
pub record Room (xs t m j : List ℕ) : Type 0 where
  pub line : 15 ≤ length xs
  pub table : 3840 ≤ length t
  pub marks : 960 ≤ length m
  pub journal : length j ≡ 16384

-- what a session keeps to
pub record Kept (s : Session) : Type 0 where
  pub few : s.slots ≤ 960
  pub short : s.held ≤ 15

-- the session with the line of this key due
abbrev pub due : Session → Key → Session
due s k = record {
  done = s.done;
  line = s.line + 1;
  held = 0;
  key = k;
  n = s.n;
  slots = s.slots;
  op = s.op;
  i = s.i;
  d = s.d;
}

-- the value v of a line is noted, where a line with the key k was due
unfoldable pub noted_at : Key → Session → ℕ → Session
noted_at Dim s v = let r = due s Slots in record {
  done = r.done;
  line = r.line;
  held = 0;
  key = Slots;
  n = v;
  slots = r.slots;
  op = r.op;
  i = r.i;
  d = r.d;
}
noted_at Slots s v = let r = due s Op in record {
  done = r.done;
  line = r.line;
  held = 0;
  key = Op;
  n = r.n;
  slots = v;
  op = r.op;
  i = r.i;
  d = r.d;
}
noted_at Op s v = let r = due s I in record {
  done = r.done;
  line = r.line;
  held = 0;
  key = I;
  n = r.n;
  slots = r.slots;
  op = v;
  i = r.i;
  d = r.d;
}
noted_at I s v = let r = due s D in record {
  done = r.done;
  line = r.line;
  held = 0;
  key = D;
  n = r.n;
  slots = r.slots;
  op = r.op;
  i = v;
  d = r.d;
}
noted_at D s v = let r = due s E in record {
  done = r.done;
  line = r.line;
  held = 0;
  key = E;
  n = r.n;
  slots = r.slots;
  op = r.op;
  i = r.i;
  d = v;
}
noted_at E s v = due s Op

-- `slots=` is at most 960
unfoldable pub Fits : Key → ℕ → Type 0
Fits Dim v = Unit {0}
Fits Slots v = v ≤ 960
Fits Op v = Unit {0}
Fits I v = Unit {0}
Fits D v = Unit {0}
Fits E v = Unit {0}

-- what the value v of a line has done: t, m and j are the table, marks and journal before, t', m' and j' those that are left
pub record Noted (s : Session) (v : ℕ) (t m j t' m' j' before : List ℕ) (at : ℕ) (after : List ℕ) (r : ℕ) : Type 0 where
  pub due : due_of (noted_at s.key s v) t' m' j' ≡ taken (due_of s t m j) v
  pub printed : Appended before at (printed (due_of s t m j) v) after r
  pub few : r ≤ at + 75

-- k bytes have been fed to the session s: the machine is m now, `text` was printed behind `at`; xs, t, mk and j are the
-- buffers as they are left
pub record Told (s : Session) (k : ℕ) (m : Machine) (text : List ℕ) (r : Step) (xs t mk j before : List ℕ) (at : ℕ)
    (after : List ℕ) : Type 0 where
  pub kept : Kept r.session
  pub line : r.session.line ≤ s.line + k
  pub machine : machine_of r.session xs t mk j ≡ m
  pub printed : Appended before at text after r.at
  pub few : r.at ≤ at + 80 * k
