-- The machine prints the session: `whole` for all bytes at once; `fed_pieces`, `says_pieces` for an input in pieces.
use Prim.Native.Nat.{ℕ, suc}
use mathlib.Core.Path.{◌≡◌, refl, sym, ap, ◌∙◌}
use mathlib.Core.List.{List, [], ◌∷◌, ◌++◌, append_assoc, append-nil}
use mathlib.Core.Option.{Option, none, some}
use native.Mathlib.Omega.{arith}
use lib.ListN.{length, take, length-append}
use lib.Seq.{take_all, take-append-le, length-take-le}
use lib.Dec.{eqb}
use borrow.Author.Tests.{lt-ltb}
use Rattle.model.specs.Text.{newline}
use Rattle.model.specs.Session.{Due, dim_due, slots_due, op_due, i_due, d_due, e_due}
use Rattle.model.specs.Session.{reads, taken, printed, bad, closing, talk, session}
use Rattle.theorems.proofs.Lists.Scan.{test, if_lt}
use Rattle.texts.specs.Texts.{Appended}
use Rattle.lines.specs.Machine.{Machine, reading, stopped, start, hold, next, prints, fed, says, fed_all, says_all, ends}
use Rattle.lines.proofs.Short.{reads_short}

-- ---- pieces

pub fed_pieces : (m : Machine) (xs ys : List ℕ) → fed_all m (xs ++ ys) ≡ fed_all (fed_all m xs) ys
unfolding fed_all
fed_pieces m [] ys = refl
fed_pieces m (x ∷ xs) ys = fed_pieces (fed m x) xs ys

pub says_pieces : (m : Machine) (xs ys : List ℕ) → says_all m (xs ++ ys) ≡ says_all m xs ++ says_all (fed_all m xs) ys
unfolding fed_all says_all
says_pieces m [] ys = refl
says_pieces m (x ∷ xs) ys = rw (says_pieces (fed m x) xs ys, append_assoc)

-- ---- the whole

says_stopped : (bs : List ℕ) → says_all stopped bs ≡ []
unfolding says_all says fed
says_stopped [] = refl
says_stopped (b ∷ bs) = says_stopped bs

fed_stopped : (bs : List ℕ) → fed_all stopped bs ≡ stopped
unfolding fed_all fed
fed_stopped [] = refl
fed_stopped (b ∷ bs) = fed_stopped bs

-- holding a byte of a line is holding the first 15 bytes of the line
hold_first : (xs : List ℕ) (b : ℕ) → hold (take 15 xs) b ≡ take 15 (xs ++ (b ∷ []))
unfolding hold
hold_first xs b =
    if_lt (length xs) 15
    (λ h.
    ap (λ ys. hold ys b) (take_all 15 xs (omega arith))
    ∙ rw (hold, lt-ltb (length xs) 15 h) (sym (take_all 15 (xs ++ (b ∷ [])) (simp length-append (omega arith)))))
    (λ h. rw (hold, length-take-le 15 xs h, take-append-le 15 xs (b ∷ []) h))

closing_first : (line : ℕ) (s : Due) (xs : List ℕ) → closing line s (take 15 xs) ≡ closing line s xs
unfolding closing
closing_first line dim_due xs = refl
closing_first line (slots_due n) xs = refl
closing_first line (op_due n o) [] = refl
closing_first line (op_due n o) (x ∷ xs) = refl
closing_first line (i_due n o p) xs = refl
closing_first line (d_due n o p i) xs = refl
closing_first line (e_due n o p i d) xs = refl

-- what is printed for the bytes bs
prints_all : Machine → List ℕ → List ℕ
prints_all m bs = says_all m bs ++ ends (fed_all m bs)

after_line : (line : ℕ) (s : Due) (o : Option ℕ) (bs : List ℕ)
    → ((v : ℕ) → talk (suc line) (taken s v) [] bs ≡ prints_all (reading (suc line) (taken s v) []) bs)
    → elim o [ none ↦ bad line | some v ↦ printed s v ++ talk (suc line) (taken s v) [] bs ]
    ≡ prints line s o ++ prints_all (next line s o) bs
unfolding prints next prints_all ends
after_line line s none bs ih = rw (says_stopped bs, fed_stopped bs, append-nil)
after_line line s (some v) bs ih = ap (λ xs. printed s v ++ xs) (ih v)

talk_printed : (line : ℕ) (s : Due) (xs bs : List ℕ) → talk line s xs bs ≡ prints_all (reading line s (take 15 xs)) bs
unfolding talk prints_all says_all fed_all says fed ends
talk_printed line s xs [] = sym (closing_first line s xs)
talk_printed line s xs (b ∷ bs) =
    test (eqb b newline)
    (λ e. rw (e, talk, says, fed, reads_short s xs) (
    after_line line s (reads s xs) bs (λ v. talk_printed (suc line) (taken s v) [] bs)
    ∙ sym (append_assoc (prints line s (reads s xs)) _ _)))
    (λ e. rw (e, talk, says, fed, hold_first xs b) (talk_printed line s (xs ++ (b ∷ [])) bs))

pub whole : (bs : List ℕ) → session bs ≡ says_all start bs ++ ends (fed_all start bs)
unfolding session prints_all
whole bs = talk_printed 1 dim_due [] bs

-- the whole input is one piece, written from the start of `out` on
pub printed_whole : (bs : List ℕ) {m : Machine} {before mid after : List ℕ} {p r : ℕ} → m ≡ start
    → Appended before 0 (says_all m bs) mid p → Appended mid p (ends (fed_all m bs)) after r → take r after ≡ session bs
printed_whole bs begin fed_text end_text = end_text.holds ∙ rw (fed_text.holds, begin) (sym (whole bs))
