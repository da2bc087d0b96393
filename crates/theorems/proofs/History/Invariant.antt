-- The invariant of a run: table and journal by the operations that stand and those that were undone. Each call keeps it
-- (`call_keeps`); by it undo and redo are known (`undo_moves`, `redo_moves`, `undo_number`, `redo_number`).
use Prim.Native.Nat.{ℕ, zero, suc, ◌-◌, ◌≤◌}
use mathlib.Core.Path.{◌≡◌, refl, sym, ap, ap₂, ◌∙◌}
use mathlib.Core.Logic.{◌≢◌}
use mathlib.Core.Bool.{true, false}
use mathlib.Core.List.{List, [], ◌∷◌, ◌++◌}
use lib.ListN.{length, drop}
use Rattle.model.specs.Map.{is_map}
use Rattle.model.specs.Journal.{changes_from, record_of, written, cursor, put}
use Rattle.model.specs.Checks.{pass, table_ok, journal_ok}
use Rattle.model.specs.Calls.{Outcome, undo_call, redo_call, refused}
use Rattle.model.specs.Runs.{Op, Call, do_call, keeping, effect, Tagged, replay, History, after_undo, after_redo, after_op}
use Rattle.model.specs.Runs.{accepted, answered}
use Rattle.model.specs.Meaning.Ends.{Reading, reads_check, reads_orbit, reads_sheet, reads_pick}
use Rattle.theorems.proofs.Lists.Scan.{if_eq}
use Rattle.theorems.proofs.Calls.Ends.{op_accepted}
use Rattle.theorems.proofs.Calls.Untouched.{call_untouched, reading_untouched}
use Rattle.theorems.proofs.History.Record.{put_new_changes, put_old_changes, changes_some}
use Rattle.theorems.proofs.History.Sound.{sound_undo, sound_redo}
use Rattle.theorems.proofs.History.Log.{journal_of, journal_ok_lem, journal_written, written_length, journal_same, InRule}
use Rattle.theorems.proofs.History.Log.{StepMakes, steps_to, undo_steps, redo_steps, undo_none, redo_none}
use Rattle.theorems.proofs.History.Ops.{effect_length, op_changes, op_map}

-- ---- the records of the operations

-- an operation led from a map to another map of the same length
pub record Edit (n : ℕ) (t u : List ℕ) : Type 0 where
  pub long : length t ≡ length u
  pub differ : t ≢ u
  pub from : is_map n t ≡ true
  pub to : is_map n u ≡ true

-- the words of the record of an edit, with its tag
abbrev pub edit_words : ℕ → List ℕ → List ℕ → List ℕ
edit_words tag t u = record_of tag (changes_from 0 t u)

-- the words of the operations that stand, and of those that were undone, the next to redo first
unfoldable pub standing_words : ℕ → List ℕ → List Tagged → List ℕ
standing_words n t [] = []
standing_words n t (p ∷ ps) = standing_words n t ps ++ edit_words p.tag (replay n t ps) (effect n (replay n t ps) p.op)

unfoldable pub undone_words : ℕ → List ℕ → List Tagged → List ℕ
undone_words n t [] = []
undone_words n t (p ∷ ps) = edit_words p.tag t (effect n t p.op) ++ undone_words n (effect n t p.op) ps

-- each of them was an edit
abbrev pub StandingEdits : ℕ → List ℕ → List Tagged → Type 0
StandingEdits n t [] = Unit {0}
StandingEdits n t (p ∷ ps) = Edit n (replay n t ps) (effect n (replay n t ps) p.op) × StandingEdits n t ps

abbrev pub UndoneEdits : ℕ → List ℕ → List Tagged → Type 0
UndoneEdits n t [] = Unit {0}
UndoneEdits n t (p ∷ ps) = Edit n t (effect n t p.op) × UndoneEdits n (effect n t p.op) ps

-- the journal of a history, before the words `rest`
unfoldable pub history_words : ℕ → List ℕ → History → List ℕ → List ℕ
history_words n t h rest = journal_of (standing_words n t h.standing) (undone_words n (replay n t h.standing) h.undone) rest

-- ---- the invariant of a run that began with the table `first`

pub record Invariant (n : ℕ) (first : List ℕ) (h : History) (t j : List ℕ) : Type 0 where
  -- the words of the journal behind the records
  pub rest : List ℕ
  -- the table is what the operations that stand make of the first one
  pub table : t ≡ replay n first h.standing
  -- the journal holds the records of what stands, then of what was undone, then the rest
  pub journal : j ≡ history_words n first h rest
  -- the table passes the checks 1, 2, 5 and 24 to 26
  pub rule : InRule n (replay n first h.standing)
  -- the journal is not too long
  pub few : length (history_words n first h rest) ≤ 1048576
  -- each operation in the history led from a map to another one
  pub standing : StandingEdits n first h.standing
  pub undone : UndoneEdits n (replay n first h.standing) h.undone

abbrev pub history_of : List Tagged → List Tagged → History
history_of standing undone = record { standing = standing; undone = undone }

-- ---- undo and redo move one operation between the two lists

rule_along : {n : ℕ} {t u : List ℕ} → length t ≡ length u → InRule n t → is_map n u ≡ true → InRule n u
unfolding table_ok
rule_along long rule map = record { dim = rule.dim; size = rw (← long) rule.size; map = map }

edit_back : {n : ℕ} {t u : List ℕ} → Edit n t u → InRule n u → StepMakes false n u t (changes_from 0 t u)
unfolding put
edit_back {n} {t} {u} edit rule = record {
  rule = rule;
  some = changes_some t u edit.long edit.differ;
  sound = sound_undo t u edit.long;
  puts = put_old_changes t u edit.long;
  map = edit.from;
}

edit_forward : {n : ℕ} {t u : List ℕ} → Edit n t u → InRule n t → StepMakes true n t u (changes_from 0 t u)
unfolding put
edit_forward {n} {t} {u} edit rule = record {
  rule = rule;
  some = changes_some t u edit.long edit.differ;
  sound = sound_redo t u edit.long;
  puts = put_new_changes t u edit.long;
  map = edit.to;
}

-- p is the operation that moves; ds stand before it, us were undone after it; the tables before and after it
module _ (n : ℕ) (first : List ℕ) (p : Tagged) (ds us : List Tagged) where
  abbrev before : List ℕ
  before = replay n first ds

  abbrev after : List ℕ
  after = effect n before p.op

  -- how many entries it changed
  abbrev changed : ℕ
  changed = length (changes_from 0 before after)

  same_length : (rest : List ℕ)
      → length (history_words n first (history_of ds (p ∷ us)) rest) ≡ length (history_words n first (history_of (p ∷ ds) us) rest)
  unfolding history_words standing_words undone_words replay
  same_length rest = journal_same (standing_words n first ds) (undone_words n after us) rest p.tag (changes_from 0 before after)

  module _ {t j : List ℕ} where
    pub undo_moves : (inv : Invariant n first (history_of (p ∷ ds) us) t j)
        → undo_call n t j ≡ steps_to p.tag changed before (history_words n first (history_of ds (p ∷ us)) inv.rest)
    unfolding history_words standing_words undone_words replay
    undo_moves inv =
        ap₂ (undo_call n) inv.table inv.journal
        ∙ undo_steps (standing_words n first ds) (undone_words n after us) inv.rest p.tag (changes_from 0 before after)
        (edit_back inv.standing.0 inv.rule) inv.few

    undo_invariant : (inv : Invariant n first (history_of (p ∷ ds) us) t j)
        → Invariant n first (history_of ds (p ∷ us)) before (history_words n first (history_of ds (p ∷ us)) inv.rest)
    unfolding replay
    undo_invariant inv =
        let edit = inv.standing.0 in
        record {
          rest = inv.rest;
          table = refl;
          journal = refl;
          rule = rule_along (sym edit.long) inv.rule edit.from;
          few = rw (same_length inv.rest) inv.few;
          standing = inv.standing.1;
          undone = (edit, inv.undone);
        }

    redo_moves : (inv : Invariant n first (history_of ds (p ∷ us)) t j)
        → redo_call n t j ≡ steps_to p.tag changed after (history_words n first (history_of (p ∷ ds) us) inv.rest)
    unfolding history_words standing_words undone_words replay
    redo_moves inv =
        ap₂ (redo_call n) inv.table inv.journal
        ∙ redo_steps (standing_words n first ds) (undone_words n after us) inv.rest p.tag (changes_from 0 before after)
        (edit_forward inv.undone.0 inv.rule) inv.few

    redo_invariant : (inv : Invariant n first (history_of ds (p ∷ us)) t j)
        → Invariant n first (history_of (p ∷ ds) us) after (history_words n first (history_of (p ∷ ds) us) inv.rest)
    unfolding replay
    redo_invariant inv =
        let edit = inv.undone.0 in
        record {
          rest = inv.rest;
          table = refl;
          journal = refl;
          rule = rule_along edit.long inv.rule edit.to;
          few = rw (same_length inv.rest) at inv.few;
          standing = (edit, inv.standing);
          undone = inv.undone.1;
        }

    -- a new operation is written over what was undone
    written_invariant : Invariant n first (history_of ds us) t j → Edit n t (effect n t p.op)
        → length (edit_words p.tag t (effect n t p.op)) ≤ length j - cursor j
        → Invariant n first (history_of (p ∷ ds) []) (effect n t p.op) (written j (edit_words p.tag t (effect n t p.op)))
    unfolding history_words standing_words undone_words replay
    written_invariant inv = rw (inv.table, inv.journal) (λ edit room.
        let stands = standing_words n first ds in
        let undone = undone_words n before us in
        let new = edit_words p.tag before after in
        let words = journal_written stands undone inv.rest new in
        let long = written_length stands undone inv.rest new room in
        record {
          rest = drop (length new) (undone ++ inv.rest);
          table = refl;
          journal = words;
          rule = rule_along edit.long inv.rule edit.to;
          few = rw (← words, long) inv.few;
          standing = (edit, inv.standing);
          undone = tt;
        })

  -- what was undone is redone with the same words behind
  pub redo_undone : {t j : List ℕ} (inv : Invariant n first (history_of (p ∷ ds) us) t j)
      → redo_call n before (history_words n first (history_of ds (p ∷ us)) inv.rest)
      ≡ steps_to p.tag changed after (history_words n first (history_of (p ∷ ds) us) inv.rest)
  unfolding undo_invariant
  redo_undone inv = redo_moves (undo_invariant inv)

-- ---- undo and redo keep the invariant, and give 16 or 0

-- the number that undo, or redo, gives by the list that it takes from
unfoldable pub step_number : List Tagged → ℕ
step_number [] = 16
step_number (p ∷ ps) = 0

-- .. and the place: the tag of the operation that moves
unfoldable pub step_place : List Tagged → ℕ
step_place [] = 0
step_place (p ∷ ps) = p.tag

-- the invariant after a call on the history h with the outcome r
abbrev pub After : ℕ → List ℕ → History → Call → Outcome → Type 0
After n first h c r = Invariant n first (answered r.number c h) r.table r.journal

module _ (n : ℕ) (first : List ℕ) {t j : List ℕ} where
  undo_nothing : (us : List Tagged) → Invariant n first (history_of [] us) t j → undo_call n t j ≡ refused 16 0 0 t [] j
  unfolding history_words standing_words
  undo_nothing us inv = rw (inv.table, inv.journal) (undo_none inv.rule _ inv.rest inv.few)

  redo_nothing : (ds : List Tagged) → Invariant n first (history_of ds []) t j → redo_call n t j ≡ refused 16 0 0 t [] j
  unfolding history_words undone_words
  redo_nothing ds inv = rw (inv.table, inv.journal) (redo_none inv.rule _ inv.rest inv.few)

  pub undo_number : (ds us : List Tagged) → Invariant n first (history_of ds us) t j → (undo_call n t j).number ≡ step_number ds
  unfolding step_number refused steps_to
  undo_number [] us inv = ap (λ (r : Outcome). r.number) (undo_nothing us inv)
  undo_number (p ∷ ds) us inv = ap (λ (r : Outcome). r.number) (undo_moves n first p ds us inv)

  pub redo_number : (ds us : List Tagged) → Invariant n first (history_of ds us) t j → (redo_call n t j).number ≡ step_number us
  unfolding step_number refused steps_to
  redo_number ds [] inv = ap (λ (r : Outcome). r.number) (redo_nothing ds inv)
  redo_number ds (p ∷ us) inv = ap (λ (r : Outcome). r.number) (redo_moves n first p ds us inv)

  pub undo_place : (ds us : List Tagged) → Invariant n first (history_of ds us) t j → (undo_call n t j).place ≡ step_place ds
  unfolding step_place refused steps_to
  undo_place [] us inv = ap (λ (r : Outcome). r.place) (undo_nothing us inv)
  undo_place (p ∷ ds) us inv = ap (λ (r : Outcome). r.place) (undo_moves n first p ds us inv)

  pub redo_place : (ds us : List Tagged) → Invariant n first (history_of ds us) t j → (redo_call n t j).place ≡ step_place us
  unfolding step_place refused steps_to
  redo_place ds [] inv = ap (λ (r : Outcome). r.place) (redo_nothing ds inv)
  redo_place ds (p ∷ us) inv = ap (λ (r : Outcome). r.place) (redo_moves n first p ds us inv)

  undo_keeps : (ds us : List Tagged) → Invariant n first (history_of ds us) t j
      → After n first (history_of ds us) Call.undo (undo_call n t j)
  unfolding refused steps_to answered accepted after_undo
  undo_keeps [] us inv = rw (undo_nothing us inv) inv
  undo_keeps (p ∷ ds) us inv = rw (undo_moves n first p ds us inv) (undo_invariant n first p ds us inv)

  redo_keeps : (ds us : List Tagged) → Invariant n first (history_of ds us) t j
      → After n first (history_of ds us) Call.redo (redo_call n t j)
  unfolding refused steps_to answered accepted after_redo
  redo_keeps ds [] inv = rw (redo_nothing ds inv) inv
  redo_keeps ds (p ∷ us) inv = rw (redo_moves n first p ds us inv) (redo_invariant n first p ds us inv)

-- ---- the other calls

pub refused_history : (k : ℕ) (c : Call) (h : History) → k ≢ 0 → answered k c h ≡ h
unfolding answered
refused_history zero c h e = absurd (e refl)
refused_history (suc k) c h e = refl

reading_history : (k : ℕ) {c : Call} (h : History) → Reading c → answered k c h ≡ h
unfolding answered accepted
reading_history (suc k) h reads = refl
reading_history zero h reads_check = refl
reading_history zero h reads_orbit = refl
reading_history zero h reads_sheet = refl
reading_history zero h reads_pick = refl

module _ {n : ℕ} {first : List ℕ} {h : History} (o : Outcome) (inv : Invariant n first h o.table o.journal) where
  pub rule_now : InRule n o.table
  rule_now = rw inv.table inv.rule

  pub journal_now : journal_ok o.journal ≡ pass
  unfolding history_words
  journal_now = rw inv.journal (journal_ok_lem _ _ _ inv.few)

  unchanged_keeps : (c : Call) → answered (do_call n o c).number c h ≡ h
      → (do_call n o c).table ≡ o.table → (do_call n o c).journal ≡ o.journal → After n first h c (do_call n o c)
  unchanged_keeps c e p q = rw (e, p, q) inv

  reading_keeps : {c : Call} → Reading c → After n first h c (do_call n o c)
  reading_keeps {c} reads = let r = reading_untouched n o reads in unchanged_keeps c (reading_history _ h reads) r.0 r.1

  op_edit : (tag : ℕ) (p : Op) → (do_call n o (Call.op tag p)).number ≡ 0 → Edit n o.table (effect n o.table p)
  op_edit tag p e =
      let done = op_accepted n o tag p e in
      record {
        long = sym (effect_length n o.table p);
        differ = op_changes n o.table o.marks o.journal p done.passed;
        from = rule_now.map;
        to = rw done.table at (op_map n o tag p e);
      }

  op_keeps : (tag : ℕ) (p : Op) → After n first h (Call.op tag p) (do_call n o (Call.op tag p))
  unfolding answered accepted after_op
  op_keeps tag p = if_eq (do_call n o (Call.op tag p)).number 0
      (λ e. let done = op_accepted n o tag p e in
      rw (e, done.table, done.journal)
      (written_invariant n first (record { tag = tag; op = p }) h.standing h.undone inv (op_edit tag p e) done.room))
      (λ e. let same = call_untouched n o (Call.op tag p) e in
      unchanged_keeps (Call.op tag p) (refused_history _ (Call.op tag p) h e) same.table same.journal)

  pub call_keeps : (c : Call) → After n first h c (do_call n o c)
  unfolding do_call keeping
  call_keeps Call.check = reading_keeps reads_check
  call_keeps (Call.orbit mask d) = reading_keeps reads_orbit
  call_keeps (Call.sheet d) = reading_keeps reads_sheet
  call_keeps (Call.pick w d) = reading_keeps reads_pick
  call_keeps (Call.op tag p) = op_keeps tag p
  call_keeps Call.undo = undo_keeps n first h.standing h.undone inv
  call_keeps Call.redo = redo_keeps n first h.standing h.undone inv
