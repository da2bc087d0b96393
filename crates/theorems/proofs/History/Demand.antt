-- Demand 3. `demand_3`: after any run of calls from a map and a fresh journal, the table is what the operations that stand
-- make of the first one, and undo and redo answer accordingly, with the tags of these operations.
-- `history_called`: these are the tags that they were called with. `op_tag`: undo and redo give the tag of the last call back.
-- `undo_newest`, `undo_everything`, `undo_run`: undoing the newest operations, or all, takes them back.
-- `redo_after_undo`: table, journal and history come back. `refused_alike`: a refused call changes none of them.
use Prim.Native.Nat.{ℕ, zero, suc, ◌+◌, ◌%◌, ◌≤◌}
use mathlib.Core.Path.{◌≡◌, refl, sym, ap, ap₂, ◌∙◌}
use mathlib.Core.Logic.{◌⊎◌, inl, inr, ⊎_elim, ◌≢◌, ◌↔◌}
use mathlib.Core.Bool.{◌||◌}
use mathlib.Core.List.Memᴰ.{head as here}
use mathlib.Core.List.Memᴰ.{not-nil}
use mathlib.Core.List.Memᴰ.{tail as there}
use mathlib.Core.List.{List, [], ◌∷◌}
use native.Mathlib.Omega.{arith}
use lib.ListN.{length, drop, replicate, drop_of_length-le}
use lib.Seq.{drop-drop}
use lib.Dec.{eqb}
use borrow.Author.Tests.{le-leb}
use Rattle.model.specs.Journal.{cursor, end}
use Rattle.model.specs.Checks.{pass, must, dim_ok, table_ok}
use Rattle.model.specs.Calls.{Outcome}
use Rattle.model.specs.Runs.{Op, Call, do_call, keeping, Tagged, replay, History, after_undo, after_redo, after_op, accepted}
use Rattle.model.specs.Runs.{answered, Step, State, answer, stepped, run, start}
use Rattle.model.specs.Meaning.Demand.{FreshStart, reached, calling, number_of, place_of, InHistory, Called, Stands, GivesBack, Alike}
use Rattle.model.specs.Meaning.Maps.{Dim, NoRule}
use Rattle.theorems.proofs.Maps.Dim.{two_cases}
use Rattle.theorems.proofs.Lists.Scan.{clash}
use Rattle.theorems.proofs.Calls.Checks.{Says, rule_not_0}
use Rattle.theorems.proofs.Calls.Ends.{call_says, call_refused}
use Rattle.theorems.proofs.Calls.Untouched.{call_untouched}
use Rattle.theorems.proofs.History.Log.{journal_of, steps_to}
use Rattle.theorems.proofs.History.Invariant.{history_of, standing_words, undone_words, history_words, Invariant, step_number}
use Rattle.theorems.proofs.History.Invariant.{step_place, undo_moves, redo_undone, undo_number, redo_number, undo_place, redo_place}
use Rattle.theorems.proofs.History.Invariant.{refused_history, rule_now, journal_now, call_keeps}

-- ---- the number of undo and redo

step_16 : (ps : List Tagged) → (step_number ps ≡ 16) ↔ (ps ≡ [])
unfolding step_number
step_16 [] = (λ _. refl, λ _. refl)
step_16 (p ∷ ps) = (λ e. absurd (omega arith), λ e. absurd (let z : ◌≡◌ {A = ℕ} 0 1 = cc in omega arith))

step_0 : (ps : List Tagged) → ps ≢ [] → step_number ps ≡ 0
unfolding step_number
step_0 [] h = absurd (h refl)
step_0 (p ∷ ps) h = refl

step_17 : (ps : List Tagged) → step_number ps ≢ 17
unfolding step_number
step_17 [] e = omega arith
step_17 (p ∷ ps) e = omega arith

-- ---- a state where the invariant holds

abbrev pub InvariantAt : ℕ → List ℕ → State → Type 0
InvariantAt n first s = Invariant n first s.history s.outcome.table s.outcome.journal

module _ {n : ℕ} {first : List ℕ} (s : State) (inv : InvariantAt n first s) where
  step_invariant : (c : Step) → InvariantAt n first (stepped n s c)
  unfolding stepped answer keeping
  step_invariant c = call_keeps (keeping s.outcome c.marks s.outcome.journal) inv c.call

  undo_gives : (m : List ℕ) → number_of n s Call.undo m ≡ step_number s.history.standing
  unfolding number_of answer do_call keeping
  undo_gives m = undo_number n first s.history.standing s.history.undone inv

  redo_gives : (m : List ℕ) → number_of n s Call.redo m ≡ step_number s.history.undone
  unfolding number_of answer do_call keeping
  redo_gives m = redo_number n first s.history.standing s.history.undone inv

  undo_gives_place : (m : List ℕ) → place_of n s Call.undo m ≡ step_place s.history.standing
  unfolding place_of answer do_call keeping
  undo_gives_place m = undo_place n first s.history.standing s.history.undone inv

  redo_gives_place : (m : List ℕ) → place_of n s Call.redo m ≡ step_place s.history.undone
  unfolding place_of answer do_call keeping
  redo_gives_place m = redo_place n first s.history.standing s.history.undone inv

  -- what a refusal says of the next call
  call_refusal : (c : Call) (m : List ℕ) → number_of n s c m ≢ 0
      → (p : ℕ) × (q : ℕ) × Says n s.outcome.table s.outcome.journal (number_of n s c m) p q
  unfolding number_of answer keeping
  call_refusal c m h =
      let o = keeping s.outcome m s.outcome.journal in
      let (p, q, e, _) = call_refused n o c h in
      (p, q, (call_says n o c _ p q e).1)

  no_4 : (c : Call) (m : List ℕ) → number_of n s c m ≢ 4
  no_4 c m e = (call_refusal c m (λ q. omega arith)).2.journal e (journal_now s.outcome inv)

  no_rule : (c : Call) (m : List ℕ) → NoRule (number_of n s c m)
  no_rule c m r e =
      clash (rule_now s.outcome inv).map ((call_refusal c m (λ q. rule_not_0 r (sym e ∙ q))).2.map r e)

  pub invariant_stands : Stands n first s
  invariant_stands = record {
    table = inv.table;
    map = (rule_now s.outcome inv).map;
    undo_16 = λ m. given_16 (undo_gives m);
    redo_16 = λ m. given_16 (redo_gives m);
    undo_0 = λ m h. undo_gives m ∙ step_0 _ h;
    redo_0 = λ m h. redo_gives m ∙ step_0 _ h;
    undo_tag = λ m p ps e. undo_gives_place m ∙ place_of_lem e;
    redo_tag = λ m p ps e. redo_gives_place m ∙ place_of_lem e;
    undo_17 = λ m e. step_17 _ (sym (undo_gives m) ∙ e);
    redo_17 = λ m e. step_17 _ (sym (redo_gives m) ∙ e);
    never_4 = no_4;
    never_broken = no_rule;
  }
    where
      place_of_lem : {p : Tagged} {ps qs : List Tagged} → qs ≡ p ∷ ps → step_place qs ≡ p.tag
      place_of_lem e = unfold step_place in rw e

      given_16 : {k : ℕ} {ps : List Tagged} → k ≡ step_number ps → (k ≡ 16) ↔ (ps ≡ [])
      given_16 {k} {ps} e = (λ q. (step_16 ps).0 (sym e ∙ q), λ q. e ∙ (step_16 ps).1 q)

pub run_invariant : {n : ℕ} {first : List ℕ} (cs : List Step) (s : State) → InvariantAt n first s → InvariantAt n first (run n s cs)
unfolding run
run_invariant [] s inv = inv
run_invariant (c ∷ cs) s inv = run_invariant cs (stepped _ s c) (step_invariant s inv c)

-- ---- the start

dim_ok_lem : (n : ℕ) → Dim n → dim_ok n ≡ pass
unfolding dim_ok must
dim_ok_lem n dim = two_cases n dim (λ n. must (eqb n 2 || eqb n 3) 1 ≡ pass) refl refl

table_ok_lem : (t : List ℕ) → length t % 4 ≡ 0 → length t ≤ 262144 → table_ok t ≡ pass
unfolding table_ok must
table_ok_lem t whole few = rw (whole, le-leb (length t) 262144 few)

pub start_invariant : (n : ℕ) (t j : List ℕ) → FreshStart n t j → InvariantAt n t (start t j)
unfolding start replay history_words journal_of standing_words undone_words cursor end
start_invariant n t [] fresh = absurd (let l = fresh.low in omega arith)
start_invariant n t (c ∷ []) fresh = absurd (let l = fresh.low in omega arith)
start_invariant n t (c ∷ e ∷ rest) fresh = record {
  rest = rest;
  table = refl;
  journal = ap₂ (λ (c e : ℕ). c ∷ e ∷ rest) fresh.at_cursor fresh.at_end;
  rule = record { dim = dim_ok_lem n fresh.dim; size = table_ok_lem t fresh.whole fresh.few; map = fresh.map };
  few = fresh.high;
  standing = tt;
  undone = tt;
}

-- ---- undo again and again, and redo after undo

abbrev state_of : Outcome → List Tagged → List Tagged → State
state_of o ds us = record { outcome = o; history = history_of ds us }

module _ {n : ℕ} {first : List ℕ} where
  undo_standing : (m : List ℕ) (s : State) → InvariantAt n first s
      → (stepped n s (calling Call.undo m)).history.standing ≡ drop 1 s.history.standing
  unfolding stepped step_number answered accepted after_undo number_of
  undo_standing m s inv = go s.history.standing s.history.undone (undo_gives s inv m)
    where
      go : {k : ℕ} (ds us : List Tagged) → k ≡ step_number ds → (answered k Call.undo (history_of ds us)).standing ≡ drop 1 ds
      go [] us e = rw e
      go (p ∷ ds) us e = rw e

  undos_standing : (m : List ℕ) (k : ℕ) (s : State) → InvariantAt n first s
      → (run n s (replicate k (calling Call.undo m))).history.standing ≡ drop k s.history.standing
  unfolding run
  undos_standing m zero s inv = refl
  undos_standing m (suc k) s inv =
      let one : 1 + k ≡ suc k = omega arith in
      undos_standing m k (stepped n s (calling Call.undo m)) (step_invariant s inv (calling Call.undo m))
      ∙ ap (drop k) (undo_standing m s inv) ∙ drop-drop k 1 s.history.standing
      ∙ ap (λ (i : ℕ). drop i s.history.standing) one

  undo_redo : (o : Outcome) (ds us : List Tagged) (m m' : List ℕ) → InvariantAt n first (state_of o ds us)
      → number_of n (state_of o ds us) Call.undo m ≡ 0
      → Alike (run n (state_of o ds us) (calling Call.undo m ∷ calling Call.redo m' ∷ [])) (state_of o ds us)
  unfolding step_number run stepped answer do_call keeping steps_to answered accepted after_undo after_redo replay
  undo_redo o [] us m m' inv e = absurd (let q = undo_gives (state_of o [] us) inv m in omega arith)
  undo_redo o (p ∷ ds) us m m' inv e =
      rw (undo_moves n first p ds us inv, redo_undone n first p ds us inv)
      (record { table = sym inv.table; journal = sym inv.journal; history = refl })

-- ---- the tag of an operation that was accepted just now

op_history : (n : ℕ) (s : State) (tag : ℕ) (p : Op) (m : List ℕ) → number_of n s (Call.op tag p) m ≡ 0
    → (stepped n s (calling (Call.op tag p) m)).history ≡ after_op (record { tag = tag; op = p }) s.history
unfolding number_of stepped answered accepted
op_history n s tag p m h = rw h

undo_history : (n : ℕ) (s : State) (p : Tagged) (ds us : List Tagged) (m : List ℕ) → s.history ≡ history_of (p ∷ ds) us
    → number_of n s Call.undo m ≡ 0 → (stepped n s (calling Call.undo m)).history ≡ history_of ds (p ∷ us)
unfolding number_of stepped answered accepted after_undo
undo_history n s p ds us m e h = rw (h, e)

gives_back : {n : ℕ} {first : List ℕ} (s : State) → InvariantAt n first s → (p : Tagged) (ds us : List Tagged)
    → s.history ≡ history_of (p ∷ ds) us → GivesBack n s p.tag
unfolding step_number step_place
gives_back {n} s inv p ds us e =
    let undo_0 : (m : List ℕ) → number_of n s Call.undo m ≡ 0
    = λ m. undo_gives s inv m ∙ ap (λ (h : History). step_number h.standing) e in
    let next : (m : List ℕ) → (stepped n s (calling Call.undo m)).history ≡ history_of ds (p ∷ us)
    = λ m. undo_history n s p ds us m e (undo_0 m) in
    record {
      undo_0 = undo_0;
      undo_tag = λ m. undo_gives_place s inv m ∙ ap (λ (h : History). step_place h.standing) e;
      redo_0 = λ m m'.
          redo_gives _ (step_invariant s inv (calling Call.undo m)) m' ∙ ap (λ (h : History). step_number h.undone) (next m);
      redo_tag = λ m m'.
          redo_gives_place _ (step_invariant s inv (calling Call.undo m)) m' ∙ ap (λ (h : History). step_place h.undone) (next m);
    }

-- a call adds at most one operation to those that stand
history_grows : (k : ℕ) (c : Call) (h : History) → length (answered k c h).standing ≤ suc (length h.standing)
unfolding answered accepted after_op
history_grows (suc k) c h = omega arith
history_grows zero Call.check h = omega arith
history_grows zero (Call.orbit mask d) h = omega arith
history_grows zero (Call.sheet d) h = omega arith
history_grows zero (Call.pick w d) h = omega arith
history_grows zero (Call.op tag p) h = omega arith
history_grows zero Call.undo h = go h.standing h.undone
  where
    go : (ds us : List Tagged) → length (after_undo ds us).standing ≤ suc (length ds)
    go [] us = unfold after_undo in omega arith
    go (p ∷ ds) us = unfold after_undo in omega arith
history_grows zero Call.redo h = go h.standing h.undone
  where
    go : (ds us : List Tagged) → length (after_redo ds us).standing ≤ suc (length ds)
    go ds [] = unfold after_redo in omega arith
    go ds (p ∷ us) = unfold after_redo in omega arith

run_grows : (n : ℕ) (cs : List Step) (s : State)
    → length (run n s cs).history.standing ≤ length cs + length s.history.standing
unfolding run stepped
run_grows n [] s = omega arith
run_grows n (c ∷ cs) s =
    let a = run_grows n cs (stepped n s c) in
    let b = history_grows (answer n s c).number c.call s.history in
    omega arith

-- ---- the operations of the history are those that were called

undo_from : (p : Tagged) (ds us : List Tagged) → InHistory p (after_undo ds us) → InHistory p (history_of ds us)
unfolding after_undo
undo_from p [] us r = r
undo_from p (q ∷ ds) us (inl i) = inl (there i)
undo_from p (q ∷ ds) us (inr (here e)) = inl (here e)
undo_from p (q ∷ ds) us (inr (there i)) = inr i

redo_from : (p : Tagged) (ds us : List Tagged) → InHistory p (after_redo ds us) → InHistory p (history_of ds us)
unfolding after_redo
redo_from p ds [] r = r
redo_from p ds (q ∷ us) (inl (here e)) = inr (here e)
redo_from p ds (q ∷ us) (inl (there i)) = inl i
redo_from p ds (q ∷ us) (inr i) = inr (there i)

-- a call leaves those that there were, and adds itself where it is an operation that is accepted
abbrev CalledNow : ℕ → Call → Tagged → Type 0
CalledNow k c p = (c ≡ Call.op p.tag p.op) × (k ≡ 0)

history_from : (k : ℕ) (c : Call) (h : History) (p : Tagged) → InHistory p (answered k c h) → CalledNow k c p ⊎ InHistory p h
unfolding answered accepted after_op
history_from (suc k) c h p r = inr r
history_from zero Call.check h p r = inr r
history_from zero (Call.orbit mask d) h p r = inr r
history_from zero (Call.sheet d) h p r = inr r
history_from zero (Call.pick w d) h p r = inr r
history_from zero (Call.op tag q) h p (inl (here e)) = inl (rw e, refl)
history_from zero (Call.op tag q) h p (inl (there i)) = inr (inl i)
history_from zero (Call.op tag q) h p (inr i) = absurd (not-nil i)
history_from zero Call.undo h p r = inr (undo_from p h.standing h.undone r)
history_from zero Call.redo h p r = inr (redo_from p h.standing h.undone r)

run_called : (n : ℕ) (cs : List Step) (s : State) (p : Tagged) → InHistory p (run n s cs).history
    → Called n s cs p ⊎ InHistory p s.history
unfolding run stepped
run_called n [] s p r = inr r
run_called n (c ∷ cs) s p r =
    ⊎_elim (λ later. inl (inr later))
    (λ i. ⊎_elim (λ now. inl (inl now)) (λ before. inr before) (history_from (answer n s c).number c.call s.history p i))
    (run_called n cs (stepped n s c) p r)

-- ---- demand 3

-- a call that is refused, after any run or none
pub refused_alike : (n : ℕ) (s : State) (c : Step) → (answer n s c).number ≢ 0 → Alike (stepped n s c) s
unfolding stepped answer keeping
refused_alike n s c h =
    let r = call_untouched n _ c.call h in
    record { table = r.table; journal = r.journal; history = refused_history _ c.call s.history h }

module _ (n : ℕ) (t j : List ℕ) (fresh : FreshStart n t j) (cs : List Step) where
  reached_invariant : InvariantAt n t (reached n t j cs)
  reached_invariant = run_invariant cs (start t j) (start_invariant n t j fresh)

  pub demand_3 : Stands n t (reached n t j cs)
  demand_3 = invariant_stands _ reached_invariant

  -- what stands or was undone was called in the run with the tag that it has
  pub history_called : (p : Tagged) → InHistory p (reached n t j cs).history → Called n (start t j) cs p
  unfolding start
  history_called p r =
      ⊎_elim (λ called. called) (λ none. absurd (⊎_elim not-nil not-nil none)) (run_called n cs (start t j) p r)

  -- an operation that is accepted has its tag given back, by undo and then by redo
  pub op_tag : (tag : ℕ) (p : Op) (m : List ℕ) → number_of n (reached n t j cs) (Call.op tag p) m ≡ 0
      → GivesBack n (stepped n (reached n t j cs) (calling (Call.op tag p) m)) tag
  unfolding after_op
  op_tag tag p m h =
      let s = reached n t j cs in
      let inv = step_invariant s reached_invariant (calling (Call.op tag p) m) in
      gives_back _ inv (record { tag = tag; op = p }) s.history.standing [] (op_history n s tag p m h)

  -- k undos take the k newest operations back ..
  pub undo_newest : (m : List ℕ) (k : ℕ)
      → (run n (reached n t j cs) (replicate k (calling Call.undo m))).outcome.table
      ≡ replay n t (drop k (reached n t j cs).history.standing)
  undo_newest m k =
      (run_invariant (replicate k (calling Call.undo m)) (reached n t j cs) reached_invariant).table
      ∙ ap (replay n t) (undos_standing m k (reached n t j cs) reached_invariant)

  -- .. as many as stand, or more, give the first table back ..
  pub undo_everything : (m : List ℕ) (k : ℕ) → length (reached n t j cs).history.standing ≤ k
      → (run n (reached n t j cs) (replicate k (calling Call.undo m))).outcome.table ≡ t
  unfolding replay
  undo_everything m k h = undo_newest m k ∙ ap (replay n t) (drop_of_length-le _ h)

  -- .. and so do as many as there were calls
  pub undo_run : (m : List ℕ) (k : ℕ) → length cs ≤ k
      → (run n (reached n t j cs) (replicate k (calling Call.undo m))).outcome.table ≡ t
  unfolding start
  undo_run m k h = undo_everything m k (let a = run_grows n cs (start t j) in omega arith)

  -- a redo after an undo that was accepted gives table, journal and history back
  pub redo_after_undo : (m m' : List ℕ) → number_of n (reached n t j cs) Call.undo m ≡ 0
      → Alike (run n (reached n t j cs) (calling Call.undo m ∷ calling Call.redo m' ∷ [])) (reached n t j cs)
  redo_after_undo m m' e =
      let s = reached n t j cs in
      undo_redo s.outcome s.history.standing s.history.undone m m' reached_invariant e
