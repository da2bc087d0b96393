-- One step of the machine, from what the functions give.
use Prim.Native.Nat.{ℕ, ◌+◌, ◌*◌, ◌≤◌, ◌<◌}
use mathlib.Core.Path.{◌≡◌, refl, ◌∙◌}
use mathlib.Core.Logic.{◌≢◌}
use mathlib.Core.Bool.{true, false}
use mathlib.Core.List.{List, [], ◌∷◌}
use mathlib.Core.Option.{Option, none, some}
use native.Mathlib.Omega.{arith}
use native.Mathlib.Numerals.{add-one}
use lib.ListN.{length, take, set}
use lib.Seq.{take-suc-set, length-take-le}
use lib.Dec.{leb}
use denote.Enum.Bare.{sameb}
use borrow.Author.Tests.{lt-ltb, le-ltb, leb-true, ne_eqb}
use Rattle.model.specs.Calls.{Outcome}
use Rattle.model.specs.Runs.{do_call, begin}
use Rattle.model.specs.Text.{bytes, newline, begins, number, up_to, said}
use Rattle.model.specs.Session.{call_of, session_tag, behind, reads, left, taken, answered, printed, ending, bad, closing}
use Rattle.theorems.proofs.Lists.Scan.{test, clash}
use Rattle.answers.specs.Answers.{Answer, outcome}
use Rattle.texts.specs.Texts.{Appended}
use Rattle.texts.proofs.Writing.{appended_none}
use Rattle.lines.specs.declared.Key.{Key}
use Rattle.lines.specs.declared.Key.TheVariants.{Dim, Slots, Op, I, D, E}
use Rattle.lines.specs.contracts.Key.{the_type}
use Rattle.lines.specs.declared.Session.{Session}
use Rattle.lines.specs.Machine.{reading, hold, next, prints, fed, says, ends}
use Rattle.lines.specs.Held.{lent, due_at, due_of, at_op, unless, machine_of, Kept, noted_at, Fits, Noted, Told}

-- the library's comparison with `Op`
pub at_op_same : (k : Key) → at_op k ≡ sameb the_type k Op
unfolding at_op
at_op_same Dim = refl
at_op_same Slots = refl
at_op_same Op = refl
at_op_same I = refl
at_op_same D = refl
at_op_same E = refl

-- ---- a byte is held

pub hold_more : (xs : List ℕ) (k b : ℕ) → k < 15 → 15 ≤ length xs → take (k + 1) (set xs k b) ≡ hold (take k xs) b
unfolding hold
hold_more xs k b h long =
    rw (hold, length-take-le k xs (omega arith), lt-ltb k 15 h, add-one k, take-suc-set xs k b (omega arith))

pub hold_full : (xs : List ℕ) (k b : ℕ) → 15 ≤ k → k ≤ length xs → take k xs ≡ hold (take k xs) b
unfolding hold
hold_full xs k b h long = rw (hold, length-take-le k xs long, le-ltb k 15 h)

-- ---- what a line gives

same_value : {v w : ℕ} → some v ≡ some w → v ≡ w
same_value e = cc

up_to_bound : (top : ℕ) (o : Option ℕ) (v : ℕ) → some v ≡ up_to top o → v ≤ top
unfolding up_to
up_to_bound top none v e = absurd (let z : ◌≡◌ {A = ℕ} 0 1 = cc in omega arith)
up_to_bound top (some w) v e =
    test (leb w top)
    (λ low. let same = same_value (rw (low, up_to) at e) in omega (arith, leb-true w top low))
    (λ high. let differ : some v ≡ none = rw (high, up_to) at e in absurd (let z : ◌≡◌ {A = ℕ} 0 1 = cc in omega arith))

behind_bound : (key : List ℕ) (top : ℕ) (xs : List ℕ) (v : ℕ) → some v ≡ behind key (λ y. up_to top (number y)) xs → v ≤ top
unfolding behind
behind_bound key top xs v e =
    test (begins key xs)
    (λ h. up_to_bound top _ v (rw (h, behind) at e))
    (λ h. let differ : some v ≡ none = rw (h, behind) at e in absurd (let z : ◌≡◌ {A = ℕ} 0 1 = cc in omega arith))

pub fits_read : (k : Key) (n p i d : ℕ) (o : Outcome) (xs : List ℕ) (v : ℕ) → some v ≡ reads (due_at k n p i d o) xs
    → Fits k v
unfolding Fits reads due_at
fits_read Dim n p i d o xs v e = tt
fits_read Slots n p i d o xs v e = behind_bound _ 960 xs v e
fits_read Op n p i d o xs v e = tt
fits_read I n p i d o xs v e = tt
fits_read D n p i d o xs v e = tt
fits_read E n p i d o xs v e = tt

-- ---- the session after a line

pub kept_noted : (k : Key) (s : Session) (v : ℕ) → Kept s → Fits k v → Kept (noted_at k s v)
unfolding noted_at Fits
kept_noted Dim s v h f = record { few = h.few; short = omega arith }
kept_noted Slots s v h f = record { few = f; short = omega arith }
kept_noted Op s v h f = record { few = h.few; short = omega arith }
kept_noted I s v h f = record { few = h.few; short = omega arith }
kept_noted D s v h f = record { few = h.few; short = omega arith }
kept_noted E s v h f = record { few = h.few; short = omega arith }

noted_line : (k : Key) (s : Session) (v : ℕ) → (noted_at k s v).line ≡ s.line + 1
unfolding noted_at
noted_line Dim s v = refl
noted_line Slots s v = refl
noted_line Op s v = refl
noted_line I s v = refl
noted_line D s v = refl
noted_line E s v = refl

noted_held : (k : Key) (s : Session) (v : ℕ) → (noted_at k s v).held ≡ 0
unfolding noted_at
noted_held Dim s v = refl
noted_held Slots s v = refl
noted_held Op s v = refl
noted_held I s v = refl
noted_held D s v = refl
noted_held E s v = refl

noted_done : (k : Key) (s : Session) (v : ℕ) → (noted_at k s v).done ≡ s.done
unfolding noted_at
noted_done Dim s v = refl
noted_done Slots s v = refl
noted_done Op s v = refl
noted_done I s v = refl
noted_done D s v = refl
noted_done E s v = refl

-- ---- what a value does

-- nothing but to be noted
unfoldable pub Quiet : Key → Type 0
Quiet Dim = Unit {0}
Quiet Slots = ⊥
Quiet Op = Unit {0}
Quiet I = Unit {0}
Quiet D = Unit {0}
Quiet E = ⊥

module _ (s : Session) (v : ℕ) (t m j : List ℕ) where
  quiet_due : (k : Key) → Quiet k → s.key ≡ k → due_of (noted_at s.key s v) t m j ≡ taken (due_of s t m j) v
  unfolding Quiet noted_at due_at taken
  quiet_due Dim q e = rw e
  quiet_due Slots q e = absurd q
  quiet_due Op q e = rw e
  quiet_due I q e = rw e
  quiet_due D q e = rw e
  quiet_due E q e = absurd q

  quiet_printed : (k : Key) → Quiet k → s.key ≡ k → [] ≡ printed (due_of s t m j) v
  unfolding Quiet due_at printed
  quiet_printed Dim q e = rw e
  quiet_printed Slots q e = absurd q
  quiet_printed Op q e = rw e
  quiet_printed I q e = rw e
  quiet_printed D q e = rw e
  quiet_printed E q e = absurd q

  pub noted_quiet : (k : Key) → Quiet k → s.key ≡ k → (out : List ℕ) (at : ℕ) → Noted s v t m j t m j out at out at
  noted_quiet k q e out at = record {
    due = quiet_due k q e;
    printed = rw (← quiet_printed k q e) (appended_none out at);
    few = omega arith;
  }

  slots_printed : s.key ≡ Slots → [] ≡ printed (due_of s t m j) v
  unfolding due_at printed
  slots_printed e = rw e

  pub noted_slots : (t' m' j' : List ℕ) → s.key ≡ Slots → lent v t' m' j' ≡ begin v 16384 → (out : List ℕ) (at : ℕ)
      → Noted s v t m j t' m' j' out at out at
  unfolding noted_at due_at taken
  noted_slots t' m' j' e fresh out at = record {
    due = rw (e, fresh);
    printed = rw (← slots_printed e) (appended_none out at);
    few = omega arith;
  }

  pub noted_request : (t' m' j' : List ℕ) (r : Answer) → s.key ≡ E
      → outcome r (take (4 * s.slots) t') (take s.slots m') j'
      ≡ do_call s.n (lent s.slots t m j) (call_of s.op session_tag s.i s.d v)
      → (before : List ℕ) (at : ℕ) (after : List ℕ) (end : ℕ) → Appended before at (answered (outcome r [] [] [])) after end
      → end ≤ at + 75 → Noted s v t m j t' m' j' before at after end
  unfolding noted_at due_at taken printed left answered
  noted_request t' m' j' r e asked before at after end text few =
      record { due = rw (e, ← asked); printed = rw (e, ← asked) text; few = few }

-- ---- steps

running : (s : Session) (xs t m j : List ℕ) → s.done ≡ false
    → machine_of s xs t m j ≡ reading s.line (due_of s t m j) (take s.held xs)
unfolding unless
running s xs t m j e = rw (e, unless)

pub taken_told : (s : Session) (v : ℕ) (xs t m j t' m' j' before : List ℕ) (at : ℕ) (after : List ℕ) (end : ℕ)
    → s.done ≡ false → Kept s → some v ≡ reads (due_of s t m j) (take s.held xs)
    → Noted s v t m j t' m' j' before at after end
    → Told s 1 (fed (machine_of s xs t m j) newline) (says (machine_of s xs t m j) newline)
    (record { session = noted_at s.key s v; at = end }) xs t' m' j' before at after
unfolding fed says next prints
taken_told s v xs t m j t' m' j' before at after end going kept gives noted = record {
  kept = kept_noted s.key s v kept (fits_read s.key s.n s.op s.i s.d _ (take s.held xs) v gives);
  line = omega (arith, noted_line s.key s v);
  machine =
      running (noted_at s.key s v) xs t' m' j' (noted_done s.key s v ∙ going)
      ∙ rw (
        noted_line s.key s v,
        noted_held s.key s v,
        noted.due,
        add-one s.line,
        running s xs t m j going,
        ← gives,
      );
  printed = rw (running s xs t m j going, ← gives) noted.printed;
  few = omega (arith, noted.few);
}

-- the session, stopped
abbrev pub stop : Session → Session
stop s = record {
  done = true;
  line = s.line;
  held = s.held;
  key = s.key;
  n = s.n;
  slots = s.slots;
  op = s.op;
  i = s.i;
  d = s.d;
}

pub bad_told : (s : Session) (xs t m j before : List ℕ) (at : ℕ) (after : List ℕ) (end : ℕ) → s.done ≡ false → Kept s
    → none ≡ reads (due_of s t m j) (take s.held xs) → Appended before at (said (bytes "bad=") s.line) after end
    → end ≤ at + 25
    → Told s 1 (fed (machine_of s xs t m j) newline) (says (machine_of s xs t m j) newline)
    (record { session = stop s; at = end })
    xs t m j before at after
unfolding fed says next prints unless bad
bad_told s xs t m j before at after end going kept gives text few = record {
  kept = record { few = kept.few; short = kept.short };
  line = omega arith;
  machine = rw (running s xs t m j going, ← gives);
  printed = rw (running s xs t m j going, ← gives) text;
  few = omega arith;
}

-- a session that has stopped stays so
pub done_told : (s : Session) (b : ℕ) (xs t m j out : List ℕ) (at : ℕ) → s.done ≡ true → Kept s
    → Told s 1 (fed (machine_of s xs t m j) b) (says (machine_of s xs t m j) b) (record { session = s; at = at })
    xs t m j out at out
unfolding fed says unless
done_told s b xs t m j out at stop kept = record {
  kept = kept;
  line = omega arith;
  machine = rw (stop, unless);
  printed = rw (stop, unless) (appended_none out at);
  few = omega arith;
}

-- the session with so many bytes of the line held
abbrev pub holding : Session → ℕ → Session
holding s k = record {
  done = s.done;
  line = s.line;
  held = k;
  key = s.key;
  n = s.n;
  slots = s.slots;
  op = s.op;
  i = s.i;
  d = s.d;
}

pub held_told : (s : Session) (b : ℕ) (xs xs' t m j out : List ℕ) (at k : ℕ) → s.done ≡ false → b ≢ newline → Kept s
    → take k xs' ≡ hold (take s.held xs) b → k ≤ 15
    → Told s 1 (fed (machine_of s xs t m j) b) (says (machine_of s xs t m j) b) (record { session = holding s k; at = at })
    xs' t m j out at out
unfolding fed says
held_told s b xs xs' t m j out at k going other kept holds short = record {
  kept = record { few = kept.few; short = short };
  line = omega arith;
  machine = running (holding s k) xs' t m j going ∙ rw (running s xs t m j going, fed, ne_eqb b newline other, holds);
  printed = rw (running s xs t m j going, says, ne_eqb b newline other) (appended_none out at);
  few = omega arith;
}

-- ---- the end of the input

module _ (s : Session) (xs t m j : List ℕ) where
  pub ends_done : s.done ≡ true → [] ≡ ends (machine_of s xs t m j)
  unfolding unless ends
  ends_done stop = rw (stop, unless)

  held_bad : (k : Key) (line n p i d : ℕ) (o : Outcome) (ys : List ℕ) → 0 < length ys
      → bad line ≡ closing line (due_at k n p i d o) ys
  unfolding closing due_at
  held_bad Dim line n p i d o ys h = refl
  held_bad Slots line n p i d o ys h = refl
  held_bad Op line n p i d o [] h = absurd (omega arith)
  held_bad Op line n p i d o (y ∷ ys) h = refl
  held_bad I line n p i d o ys h = refl
  held_bad D line n p i d o ys h = refl
  held_bad E line n p i d o ys h = refl

  pub ends_held : s.done ≡ false → s.held ≢ 0 → s.held ≤ length xs → bad s.line ≡ ends (machine_of s xs t m j)
  unfolding ends
  ends_held going some_held long =
      rw (running s xs t m j going)
      (held_bad s.key s.line s.n s.op s.i s.d (lent s.slots t m j) (take s.held xs)
      (rw (length-take-le s.held xs long) (omega arith)))

  other_bad : (k : Key) (line n p i d : ℕ) (o : Outcome) (ys : List ℕ) → at_op k ≡ false
      → bad line ≡ closing line (due_at k n p i d o) ys
  unfolding closing due_at at_op
  other_bad Dim line n p i d o ys h = refl
  other_bad Slots line n p i d o ys h = refl
  other_bad Op line n p i d o ys h = absurd (clash refl h)
  other_bad I line n p i d o ys h = refl
  other_bad D line n p i d o ys h = refl
  other_bad E line n p i d o ys h = refl

  pub ends_other : s.done ≡ false → at_op s.key ≡ false → bad s.line ≡ ends (machine_of s xs t m j)
  unfolding ends
  ends_other going other =
      rw (running s xs t m j going) (other_bad s.key s.line s.n s.op s.i s.d _ (take s.held xs) other)

  op_ending : (k : Key) (line n p i d : ℕ) (o : Outcome) (ys : List ℕ) → at_op k ≡ true → length ys ≡ 0
      → ending o.table ≡ closing line (due_at k n p i d o) ys
  unfolding closing due_at at_op
  op_ending Dim line n p i d o ys h e = absurd (clash h refl)
  op_ending Slots line n p i d o ys h e = absurd (clash h refl)
  op_ending Op line n p i d o [] h e = refl
  op_ending Op line n p i d o (y ∷ ys) h e = absurd (omega arith)
  op_ending I line n p i d o ys h e = absurd (clash h refl)
  op_ending D line n p i d o ys h e = absurd (clash h refl)
  op_ending E line n p i d o ys h e = absurd (clash h refl)

  pub ends_op : s.done ≡ false → s.held ≡ 0 → at_op s.key ≡ true
      → ending (take (4 * s.slots) t) ≡ ends (machine_of s xs t m j)
  unfolding ends
  ends_op going none_held due =
      rw (running s xs t m j going)
      (op_ending s.key s.line s.n s.op s.i s.d (lent s.slots t m j) (take s.held xs) due
      (rw none_held))
