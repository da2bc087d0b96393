-- Demand 3 of runs with lists of sews, each item counted as a call (02, R-9). `list_alike`: a list leaves table, journal and history as
-- the single calls of its items do, up to the first that is refused. `lists_alike`: so a run with lists leaves them as a run of
-- single calls. `demand_3_lists`: demand 3 holds after it. `list_in_rule`: a list that comes next gives none of 4, 5, 24, 25 and 26.
use Prim.Native.Nat.{ℕ, zero, suc, ◌+◌}
use mathlib.Core.Path.{◌≡◌, refl, sym, ap, ◌∙◌, subst}
use mathlib.Core.Logic.{⊎_elim, ◌≢◌}
use mathlib.Core.List.{List, [], ◌∷◌, ◌++◌}
use native.Mathlib.Omega.{arith}
use Rattle.model.specs.Checks.{Check, pass, refuse, in_order, rule_number, list_checks}
use Rattle.model.specs.Calls.{Outcome, refused, Item, items, sew_items, sew_list_call}
use Rattle.model.specs.Runs.{Op, Call, do_call, keeping, Step, State, answer, stepped, run, start}
use Rattle.model.specs.Runs.{item_step, item_steps, list_steps, Turn, single, listed, turned, run_turns, turn_steps, single_steps}
use Rattle.model.specs.Meaning.Ends.{lent}
use Rattle.model.specs.Meaning.Maps.{NoRule}
use Rattle.model.specs.Meaning.Demand.{FreshStart, number_of, Stands, Alike}
use Rattle.model.specs.Meaning.SewLists.{sews_of}
use Rattle.theorems.proofs.Lists.Scan.{clash}
use Rattle.theorems.proofs.Calls.Checks.{Says, rule_not_0, refusal_says, list_numbers_lem}
use Rattle.theorems.proofs.History.Items.{sews_to, items_next, items_stop, list_items, list_ends}
use Rattle.theorems.proofs.History.Invariant.{rule_now, journal_now}
use Rattle.theorems.proofs.History.Demand.{InvariantAt, invariant_stands, run_invariant, start_invariant, refused_alike}

-- ---- states that are alike

alike_self : (s : State) → Alike s s
alike_self s = record { table = refl; journal = refl; history = refl }

alike_on : {s r q : State} → Alike s r → Alike r q → Alike s q
alike_on a b = record {
  table = a.table ∙ b.table;
  journal = a.journal ∙ b.journal;
  history = a.history ∙ b.history;
}

-- a call finds table, marks and journal, and nothing else
call_alike : (n : ℕ) (o r : Outcome) (c : Call) → o.table ≡ r.table → o.marks ≡ r.marks → o.journal ≡ r.journal
    → do_call n o c ≡ do_call n r c
unfolding do_call
call_alike n o r Call.check a b d = rw (a, b, d)
call_alike n o r Call.undo a b d = rw (a, b, d)
call_alike n o r Call.redo a b d = rw (a, b, d)
call_alike n o r (Call.orbit mask x) a b d = rw (a, b, d)
call_alike n o r (Call.sheet x) a b d = rw (a, b, d)
call_alike n o r (Call.pick w x) a b d = rw (a, b, d)
call_alike n o r (Call.op tag Op.add) a b d = rw (a, b, d)
call_alike n o r (Call.op tag (Op.sew i x y)) a b d = rw (a, b, d)
call_alike n o r (Call.op tag (Op.unsew i x)) a b d = rw (a, b, d)
call_alike n o r (Call.op tag (Op.remove x)) a b d = rw (a, b, d)
call_alike n o r (Call.op tag (Op.split x)) a b d = rw (a, b, d)
call_alike n o r (Call.op tag (Op.insert w)) a b d = rw (a, b, d)
call_alike n o r (Call.op tag (Op.vtk text)) a b d = rw (a, b, d)

module _ (n : ℕ) where
  step_alike : {s r : State} (c : Step) → Alike s r → Alike (stepped n s c) (stepped n r c)
  unfolding stepped answer keeping
  step_alike {s} {r} c a =
      let same : answer n s c ≡ answer n r c = call_alike n _ _ c.call a.table refl a.journal in
      rw (same, a.history) (record { table = refl; journal = refl; history = refl })

  run_alike : {s r : State} (cs : List Step) → Alike s r → Alike (run n s cs) (run n r cs)
  unfolding run
  run_alike [] a = a
  run_alike {s = s} {r = r} (c ∷ cs) a = run_alike {s = stepped n s c} {r = stepped n r c} cs (step_alike c a)

  run_append : (s : State) (cs ds : List Step) → run n s (cs ++ ds) ≡ run n (run n s cs) ds
  unfolding run
  run_append s [] ds = refl
  run_append s (c ∷ cs) ds = run_append (stepped n s c) cs ds

  -- ---- a list

  -- of the outcome o of items from the state s: it has the table and the journal that their calls leave
  record ItemsLeave (s : State) (tag : ℕ) (xs : List Item) (o : Outcome) : Type 0 where
    pub table : o.table ≡ (run n s (item_steps n s tag xs)).outcome.table
    pub journal : o.journal ≡ (run n s (item_steps n s tag xs)).outcome.journal

  items_leave : (tag k q : ℕ) (s : State) (xs : List Item) → ItemsLeave s tag xs (sews_to n tag k q s xs)
  unfolding run item_steps stepped
  items_leave tag k q s [] = unfold sew_items in record { table = refl; journal = refl }
  items_leave tag k q s (x ∷ xs) = go (answer n s (item_step tag x)).number refl
      (items_leave tag (suc k) (q + (answer n s (item_step tag x)).count) (stepped n s (item_step tag x)) xs)
    where
      next : State
      next = stepped n s (item_step tag x)

      go : (z : ℕ) → (answer n s (item_step tag x)).number ≡ z
          → ItemsLeave next tag xs (sews_to n tag (suc k) (q + (answer n s (item_step tag x)).count) next xs)
          → ItemsLeave s tag (x ∷ xs) (sews_to n tag k q s (x ∷ xs))
      go zero e later = rw (items_next n tag k q s x xs e) (record {
        table = rw (e, item_steps) later.table;
        journal = rw (e, item_steps) later.journal;
      })
      go (suc z) e later =
          let none : (answer n s (item_step tag x)).number ≢ 0 = λ h. absurd (omega (arith, h, e)) in
          let same = refused_alike n s (item_step tag x) none in
          rw (items_stop n tag k q s x xs none) (record {
            table = rw (e, item_steps) (sym same.table);
            journal = rw (e, item_steps) (sym same.journal);
          })

  pub list_alike : (s : State) (tag : ℕ) (l : List ℕ) → Alike (turned n s (listed tag l)) (run n s (list_steps n s tag l))
  unfolding turned list_steps run
  list_alike s tag l = go (in_order (list_checks n s.outcome.table s.outcome.journal l)) refl
    where
      go : (c : Check) → in_order (list_checks n s.outcome.table s.outcome.journal l) ≡ c
          → Alike (turned n s (listed tag l)) (run n s (list_steps n s tag l))
      go pass e =
          let left = items_leave tag 0 0 s (items l) in
          let is = list_items n s.outcome.table s.outcome.journal tag l e in
          record {
            table = ap (λ (r : Outcome). r.table) is ∙ rw (e, list_steps) left.table;
            journal = ap (λ (r : Outcome). r.journal) is ∙ rw (e, list_steps) left.journal;
            history = refl;
          }
      go (refuse k p q) e = record {
        table = unfold sew_list_call refused in rw (e, sew_list_call, list_steps);
        journal = unfold sew_list_call refused in rw (e, sew_list_call, list_steps);
        history = refl;
      }

  turn_alike : (s : State) (c : Turn) → Alike (turned n s c) (run n s (turn_steps n s c))
  unfolding turned turn_steps run
  turn_alike s (single c) = alike_self _
  turn_alike s (listed tag l) = list_alike s tag l

  pub lists_alike : (s : State) (cs : List Turn) → Alike (run_turns n s cs) (run n s (single_steps n s cs))
  unfolding run_turns single_steps run
  lists_alike s [] = alike_self s
  lists_alike s (c ∷ cs) =
      let rest = single_steps n (turned n s c) cs in
      rw (run_append s (turn_steps n s c) rest)
      (alike_on (lists_alike (turned n s c) cs) (run_alike rest (turn_alike s c)))

-- ---- demand 3

invariant_alike : {n : ℕ} {first : List ℕ} {s r : State} → Alike s r → InvariantAt n first r → InvariantAt n first s
invariant_alike a inv = rw (a.table, a.journal, a.history) inv

lists_invariant : (n : ℕ) (t j : List ℕ) → FreshStart n t j → (cs : List Turn) → InvariantAt n t (run_turns n (start t j) cs)
lists_invariant n t j fresh cs =
    let s = start t j in
    invariant_alike (lists_alike n s cs) (run_invariant (single_steps n s cs) s (start_invariant n t j fresh))

pub demand_3_lists : (n : ℕ) (t j : List ℕ) → FreshStart n t j → (cs : List Turn) → Stands n t (run_turns n (start t j) cs)
demand_3_lists n t j fresh cs = invariant_stands _ (lists_invariant n t j fresh cs)

-- .. and the next call may be a list

module _ {n : ℕ} {first : List ℕ} (s : State) (inv : InvariantAt n first s) (tag : ℕ) (l : List ℕ) where
  abbrev t : List ℕ
  t = s.outcome.table

  abbrev j : List ℕ
  j = s.outcome.journal

  -- it gives no number that no single call gives in such a state, nor a check before its items
  list_never : (z : ℕ) → z ≢ 0 → ((r : State) → InvariantAt n first r → (c : Call) → number_of n r c [] ≢ z)
      → ((p q : ℕ) → Says n t j z p q → ⊥) → (sew_list_call n t j tag l).number ≢ z
  unfolding sew_list_call refused number_of item_step
  list_never z some calls checks e = go (in_order (list_checks n t j l)) refl
    where
      go : (c : Check) → in_order (list_checks n t j l) ≡ c → ⊥
      go pass h = ⊎_elim (λ A. some (sym e ∙ A.number))
          (λ A. calls (run n s (sews_of tag A.before)) (run_invariant (sews_of tag A.before) s inv) _ (sym A.number ∙ e))
          (list_ends n s tag l h)
      go (refuse k p q) h =
          let is : k ≡ z = sym (rw (h, sew_list_call)) ∙ e in
          checks p q (subst (λ (y : ℕ). Says n t j y p q) is
          (refusal_says (list_checks n t j l) (list_numbers_lem n (lent t [] j) l) k p q h).1)

-- it finds no journal out of rule, and no table that breaks a rule of a map
pub list_in_rule : (n : ℕ) (t j : List ℕ) → FreshStart n t j → (cs : List Turn) (tag : ℕ) (l : List ℕ) →
    let s = run_turns n (start t j) cs in
    let k = (sew_list_call n s.outcome.table s.outcome.journal tag l).number in
    (k ≢ 4) × NoRule k
list_in_rule n t j fresh cs tag l =
    let s = run_turns n (start t j) cs in
    let inv = lists_invariant n t j fresh cs in (
      list_never s inv tag l 4 (λ h. omega arith) (λ r i c. (invariant_stands r i).never_4 c [])
          (λ p q says. says.journal refl (journal_now s.outcome inv)),
      λ r. list_never s inv tag l (rule_number r) (rule_not_0 r) (λ q i c. (invariant_stands q i).never_broken c [] r)
          (λ p q says. clash (rule_now s.outcome inv).map (says.map r refl)),
    )
