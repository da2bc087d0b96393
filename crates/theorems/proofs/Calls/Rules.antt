-- 5, 24, 25 and 26: which rule a table breaks. `rule_exactly`: a call gives a rule's number, with a place and a count, exactly if
-- its checks before these pass and the rule is the first that is broken, at that slot by that link.
-- `not_map_exactly`: a table is no map exactly if there is such a rule.
use Prim.Native.Nat.{ℕ, ◌≤◌, ◌<◌}
use mathlib.Core.Path.{◌≡◌, refl, sym, ap, ap₂, ◌∙◌}
use mathlib.Core.Logic.{◌↔◌, ⊎_elim}
use mathlib.Core.Bool.{true, false}
use mathlib.Core.List.{List, ◌++◌}
use native.Mathlib.Omega.{arith}
use lib.ListN.{length, get_or, take}
use Rattle.model.specs.Lists.{index_of}
use Rattle.model.specs.Map.{MapRule, links_live, links_return, pairs_commute, stays_flat, keeps_rule}
use Rattle.model.specs.Map.{least_breaking, is_map}
use Rattle.model.specs.Checks.{Check, pass, refuse, must_at, and_then, in_order, dim_ok, rule_number, rule_ok, map_checks}
use Rattle.model.specs.Checks.{check_checks, orbit_checks, sheet_checks, pick_checks, add_checks, sides_checks, unsew_checks}
use Rattle.model.specs.Checks.{layer_checks, insert_checks, vtk_checks, step_checks}
use Rattle.model.specs.Calls.{Outcome, refused}
use Rattle.model.specs.Runs.{Op, Call, do_call}
use Rattle.model.specs.Meaning.Lists.{member}
use Rattle.model.specs.Meaning.Ends.{checks_of, checks, first_checks, numbers, Answers}
use Rattle.model.specs.Meaning.Maps.{Map, BreaksFirst}
use Rattle.theorems.proofs.Lists.Scan.{test, clash}
use Rattle.theorems.proofs.Maps.Rules.{map_of, of_map}
use Rattle.theorems.proofs.Maps.Broken.{number_one, some_broken, Tested, of_broken}
use Rattle.theorems.proofs.Calls.Checks.{passed_at, append_passed, append_refused, passed_or_refused}
use Rattle.theorems.proofs.Calls.Checks.{not_in, no_rules, rule_not_in, rule_not_0, numbers_before, refusal_says, call_numbers}
use Rattle.theorems.proofs.Calls.Pass.{passed_keeps, dim_pass, solid_pass}
use Rattle.theorems.proofs.Calls.Ends.{call_ends, call_says, call_refused}

-- ---- the checks of a map

module _ (n : ℕ) (t : List ℕ) (n3 : n ≤ 3) where
  pub not_map_exactly : (Map n t → ⊥) ↔ ((r : MapRule) × (d : ℕ) × (i : ℕ) × BreaksFirst n t r d i)
  not_map_exactly = (
    λ h. some_broken n t n3 (test (is_map n t) (λ e. absurd (h (map_of n t n3 e))) (λ e. e)),
    λ w map. clash (of_map n t map) (of_broken n t n3 w.3).not_map,
  )

  abbrev b : ℕ
  b = least_breaking n t

  kept_passes : (r : MapRule) → keeps_rule n t b r ≡ true → rule_ok n t r ≡ pass
  unfolding rule_ok must_at
  kept_passes r h = test (is_map n t) (λ e. rw e) (λ e. rw (e, h))

  -- behind the rules that pass, one that refuses
  first_refused : (r : MapRule) {k p q : ℕ} → ((s : MapRule) → rule_number s < rule_number r → rule_ok n t s ≡ pass)
      → rule_ok n t r ≡ refuse k p q → in_order (map_checks n t) ≡ refuse k p q
  unfolding map_checks in_order and_then rule_number
  first_refused links_live earlier own = rw own
  first_refused links_return earlier own = rw (earlier links_live (omega arith), own)
  first_refused pairs_commute earlier own = rw (earlier links_live (omega arith), earlier links_return (omega arith), own)
  first_refused stays_flat earlier own =
      rw (earlier links_live (omega arith), earlier links_return (omega arith), earlier pairs_commute (omega arith), own)

  pub broken_refused : {r : MapRule} {d i : ℕ} → BreaksFirst n t r d i → in_order (map_checks n t) ≡ refuse (rule_number r) d i
  unfolding rule_ok must_at
  broken_refused {r} {d} {i} f = first_refused r (λ q l. kept_passes q (tested.earlier q l)) own
    where
      tested : Tested n t n3 r d i
      tested = of_broken n t n3 f

      own : rule_ok n t r ≡ refuse (rule_number r) d i
      own = rw (tested.not_map, tested.broken) (ap₂ (refuse (rule_number r)) tested.place tested.link)

  -- where the other rules pass, and the table is no map, it is the last rule, by link 3
  pub last_refused : is_map n t ≡ false → rule_ok n t links_live ≡ pass → rule_ok n t links_return ≡ pass
      → rule_ok n t pairs_commute ≡ pass → in_order (map_checks n t) ≡ refuse 26 b 3
  unfolding rule_number
  last_refused e lives back pairs = go (some_broken n t n3 e)
    where
      kept : (r : MapRule) {d i : ℕ} → rule_ok n t r ≡ pass → BreaksFirst n t r d i → ⊥
      kept r h f = clash (passed_keeps n t e r h) (of_broken n t n3 f).broken

      go : (r : MapRule) × (d : ℕ) × (i : ℕ) × BreaksFirst n t r d i → in_order (map_checks n t) ≡ refuse 26 b 3
      go (links_live, d, i, f) = absurd (kept links_live lives f)
      go (links_return, d, i, f) = absurd (kept links_return back f)
      go (pairs_commute, d, i, f) = absurd (kept pairs_commute pairs f)
      go (stays_flat, d, i, f) = broken_refused f ∙ ap₂ (refuse 26) (sym (of_broken n t n3 f).place) f.breaks.1

-- ---- the calls

module _ (n : ℕ) (o : Outcome) where
  abbrev t : List ℕ
  t = o.table

  -- the checks of a call begin with those that `first_checks` lists, whose numbers are of no rule; then come those of a map
  record Begins (c : Call) : Type 0 where
    behind : List Check
    is : checks n o c ≡ first_checks n o c ++ (map_checks n t ++ behind)
    dim : get_or (first_checks n o c) 0 pass ≡ pass → n ≤ 3
    clear : no_rules (take (length (first_checks n o c)) (numbers c)) ≡ true

  -- the first of them says that n is 2 or 3, of a read that n is 3
  abbrev below : dim_ok n ≡ pass → n ≤ 3
  below h = (dim_pass n h).1

  begins : (c : Call) → Begins c
  unfolding checks_of map_checks check_checks orbit_checks sheet_checks pick_checks add_checks sides_checks unsew_checks layer_checks insert_checks vtk_checks step_checks member index_of
  begins Call.check = record { behind = _; is = refl; dim = below; clear = refl }
  begins (Call.orbit mask d) = record { behind = _; is = refl; dim = below; clear = refl }
  begins (Call.sheet d) = record { behind = _; is = refl; dim = below; clear = refl }
  begins (Call.pick w d) = record { behind = _; is = refl; dim = below; clear = refl }
  begins (Call.op tag Op.add) = record { behind = _; is = refl; dim = below; clear = refl }
  begins (Call.op tag (Op.sew i d e)) = record { behind = _; is = refl; dim = below; clear = refl }
  begins (Call.op tag (Op.unsew i d)) = record { behind = _; is = refl; dim = below; clear = refl }
  begins (Call.op tag (Op.remove d)) = record { behind = _; is = refl; dim = below; clear = refl }
  begins (Call.op tag (Op.split d)) = record { behind = _; is = refl; dim = below; clear = refl }
  begins (Call.op tag (Op.insert w)) = record { behind = _; is = refl; dim = below; clear = refl }
  begins (Call.op tag (Op.vtk text)) = record { behind = _; is = refl; dim = λ h. let e = solid_pass n h in omega arith; clear = refl }
  begins Call.undo = record { behind = _; is = refl; dim = below; clear = refl }
  begins Call.redo = record { behind = _; is = refl; dim = below; clear = refl }

  module _ (c : Call) where
    first_dim : in_order (first_checks n o c) ≡ pass → n ≤ 3
    first_dim h = (begins c).dim (passed_at (first_checks n o c) h 0)

    answers : {r : MapRule} {d i : ℕ} → in_order (first_checks n o c) ≡ pass → BreaksFirst n t r d i → Answers n o c r d i
    unfolding refused
    answers {r} {d} {i} first f =
        let w = begins c in
        let refuses = append_refused (map_checks n t) w.behind (broken_refused n t (first_dim first) f) in
        let all = ap in_order w.is ∙ append_passed (first_checks n o c) _ first ∙ refuses in
        let is = (call_ends n o c).refuses (rule_number r) d i all in
        (ap (λ (x : Outcome). x.number) is, ap (λ (x : Outcome). x.place) is, ap (λ (x : Outcome). x.count) is)

    -- a refusal by the number of a rule comes behind the first checks
    first_passed : (r : MapRule) → (do_call n o c).number ≡ rule_number r → in_order (first_checks n o c) ≡ pass
    unfolding refused
    first_passed r h = ⊎_elim (λ e. e) (λ q.
        let (k, p, x, e) = q in
        let w = begins c in
        let i = (refusal_says _ (numbers_before (first_checks n o c) _ (rw w.is at (call_numbers n o c))) k p x e).0 in
        let is = (call_ends n o c).refuses k p x (ap in_order w.is ∙ append_refused (first_checks n o c) _ e) in
        absurd (not_in _ (rule_number r) (rule_not_in _ w.clear r) k i (sym (ap (λ (x : Outcome). x.number) is) ∙ h)))
        (passed_or_refused (in_order (first_checks n o c)))

    pub rule_exactly : (r : MapRule) (d i : ℕ)
        → Answers n o c r d i ↔ ((in_order (first_checks n o c) ≡ pass) × BreaksFirst n o.table r d i)
    rule_exactly r d i = (λ a. (first_passed r a.0, found a), λ w. answers w.0 w.1)
      where
        found : Answers n o c r d i → BreaksFirst n t r d i
        found a =
            let (p, q, e, _) = call_refused n o c (λ z. rule_not_0 r (sym a.0 ∙ z)) in
            let first = first_passed r a.0 in
            let (s, x, k, f) = some_broken n t (first_dim first) ((call_says n o c _ p q e).1.map r a.0) in
            let own = answers first f in
            let rule : s ≡ r = number_one (sym own.0 ∙ a.0) in
            rw (← rule, ← sym own.1 ∙ a.1, ← sym own.2 ∙ a.2) f
