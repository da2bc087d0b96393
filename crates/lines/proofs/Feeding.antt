-- A piece of the input is fed byte by byte: `Feeding` holds on the way, with what is still to be fed.
use Prim.Native.Nat.{ℕ, ◌+◌, ◌*◌, ◌≤◌, ◌<◌}
use mathlib.Core.Path.{◌≡◌, refl, sym, ap, ◌∙◌}
use mathlib.Core.List.{List, ◌++◌, append_assoc, append-nil}
use native.Mathlib.Omega.{arith}
use native.Mathlib.Numerals.{add-one}
use lib.ListN.{length, get_or, take, drop, length-append, drop_of_length-le}
use lib.Seq.{drop-cons}
use Rattle.lines.specs.declared.Session.{Session}
use Rattle.lines.specs.declared.Step.{Step}
use Rattle.lines.specs.Machine.{Machine, fed, says, fed_all, says_all}
use Rattle.lines.specs.Held.{machine_of, Room, Kept, Told}

-- s, m and `before` are the session, the machine and the output before the piece; k bytes of it have been fed
pub record Feeding (s : Session) (m : Machine) (piece before : List ℕ) (at : ℕ) (xs t mk j out : List ℕ) (r : Step)
    (k : ℕ) : Type 0 where
  pub low : k ≤ length piece
  pub room : Room xs t mk j
  pub long : length out ≡ length before
  pub kept : Kept r.session
  pub line : r.session.line ≤ s.line + k
  pub machine : fed_all (machine_of r.session xs t mk j) (drop k piece) ≡ fed_all m piece
  pub ends : r.at + length (says_all (machine_of r.session xs t mk j) (drop k piece)) ≡ at + length (says_all m piece)
  pub holds : take r.at out ++ says_all (machine_of r.session xs t mk j) (drop k piece)
      ≡ take at before ++ says_all m piece
  pub few : r.at ≤ at + 80 * k

pub room_kept : {xs t mk j xs' t' mk' j' : List ℕ} → Room xs t mk j → length xs' ≡ length xs → length t' ≡ length t
    → length mk' ≡ length mk → length j' ≡ length j → Room xs' t' mk' j'
room_kept room a b c d = record {
  line = omega (arith, room.line);
  table = omega (arith, room.table);
  marks = omega (arith, room.marks);
  journal = d ∙ room.journal;
}

pub feeding_start : (s : Session) (piece before : List ℕ) (at : ℕ) (xs t mk j : List ℕ) → Room xs t mk j → Kept s
    → Feeding s (machine_of s xs t mk j) piece before at xs t mk j before (record { session = s; at = at }) 0
feeding_start s piece before at xs t mk j room kept = record {
  low = omega arith;
  room = room;
  long = refl;
  kept = kept;
  line = omega arith;
  machine = refl;
  ends = refl;
  holds = refl;
  few = omega arith;
}

fed_cons : (m : Machine) (piece : List ℕ) (k : ℕ) → k < length piece
    → fed_all m (drop k piece) ≡ fed_all (fed m (get_or piece k 0)) (drop (k + 1) piece)
unfolding fed_all
fed_cons m piece k h = rw (add-one k, drop-cons piece k 0)

says_cons : (m : Machine) (piece : List ℕ) (k : ℕ) → k < length piece
    → says_all m (drop k piece) ≡ says m (get_or piece k 0) ++ says_all (fed m (get_or piece k 0)) (drop (k + 1) piece)
unfolding says_all
says_cons m piece k h = rw (add-one k, drop-cons piece k 0)

pub feeding_on : {s : Session} {m : Machine} {piece before : List ℕ} {at : ℕ} {xs t mk j out : List ℕ} {r : Step} {k : ℕ}
    {xs' t' mk' j' out' : List ℕ} {r' : Step} → Feeding s m piece before at xs t mk j out r k → k < length piece
    → Told r.session 1 (fed (machine_of r.session xs t mk j) (get_or piece k 0))
    (says (machine_of r.session xs t mk j) (get_or piece k 0)) r' xs' t' mk' j' out r.at out'
    → Room xs' t' mk' j' → length out' ≡ length out → Feeding s m piece before at xs' t' mk' j' out' r' (k + 1)
feeding_on {piece = piece} {xs = xs} {t} {mk} {j} {r = r} {k} g h told room same =
    let now = machine_of r.session xs t mk j in
    let text = says_cons now piece k h in
    let parts = ap length text ∙ length-append (says now (get_or piece k 0)) _ in
    record {
      low = omega arith;
      room = room;
      long = same ∙ g.long;
      kept = told.kept;
      line = omega (arith, told.line, g.line);
      machine = rw (told.machine, ← fed_cons now piece k h) g.machine;
      ends = rw told.machine (omega (arith, told.printed.ends, g.ends, parts));
      holds = rw (told.machine, told.printed.holds, append_assoc, ← text) g.holds;
      few = omega (arith, told.few, g.few);
    }

pub fed_whole : {s : Session} {m : Machine} {piece before : List ℕ} {at : ℕ} {xs t mk j out : List ℕ} {r : Step} {k : ℕ}
    → Feeding s m piece before at xs t mk j out r k → length piece ≤ k
    → Told s (length piece) (fed_all m piece) (says_all m piece) r xs t mk j before at out
unfolding fed_all says_all
fed_whole {piece = piece} {k = k} g h =
    let all : k ≡ length piece = omega (arith, g.low) in
    let nothing = drop_of_length-le piece {i = k} h in
    let long = rw nothing at g.ends in
    record {
      kept = g.kept;
      line = omega (arith, g.line);
      machine = rw nothing at g.machine;
      printed = record { ends = omega arith; holds = sym (append-nil _) ∙ (rw nothing at g.holds) };
      few = omega (arith, g.few);
    }
