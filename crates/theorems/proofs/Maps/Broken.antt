-- Which rule a table that is no map breaks.
-- Main theorems: `broken_first` and `of_broken` (the first rule broken, by the tests); `some_broken` (a table that is no map has
-- one); `broken_once` (it has one only).
use Prim.Native.Nat.{ℕ, ◌≤◌, ◌<◌}
use mathlib.Core.Path.{◌≡◌, refl, sym, ap, ◌∙◌, subst}
use mathlib.Core.Bool.{true, false, not}
use mathlib.Core.List.{List}
use native.Mathlib.Omega.{arith}
use borrow.Author.Tests.{eqb-false, ne_eqb, not-true, not-false}
use Rattle.model.specs.Table.{slots}
use Rattle.model.specs.Map.{MapRule, links_live, links_return, pairs_commute, stays_flat, keeps_at, keeps_rule}
use Rattle.model.specs.Map.{breaking_link, keeps_rules, breaks_rule, least_breaking, is_map}
use Rattle.model.specs.Checks.{rule_number}
use Rattle.model.specs.Meaning.Maps.{Breaks, by_rule, BreaksFirst}
use Rattle.theorems.proofs.Lists.Scan.{test, clash, if_lt, First, least_is, searched}
use Rattle.theorems.proofs.Maps.Failing.{failing, fails_of}
use Rattle.theorems.proofs.Maps.Rules.{breaks_exactly, keeps_at_lem, keeps_rule_lem, kept_by, keep_all}
use Rattle.theorems.proofs.Maps.Exact.{least_breaking_lem}

-- ---- one rule at one slot

module _ (n : ℕ) (t : List ℕ) (d : ℕ) (r : MapRule) where
  -- the least link that breaks the rule
  abbrev i : ℕ
  i = breaking_link n t d r

  first : First (λ i. not (keeps_at n t d r i)) 0 4 i
  unfolding breaking_link
  first = least_is (λ i. not (keeps_at n t d r i)) 4

  pub link_lower : (k : ℕ) → k < i → Breaks n t d r k → ⊥
  link_lower k l b = clash (not-false _ (first.before k (omega arith) l)) ((breaks_exactly n t d r k).1 b)

  pub link_below : keeps_rule n t d r ≡ false → i < 4
  link_below h = if_lt i 4 (λ l. l) (λ u. absurd (clash (keeps_rule_lem n t d r (λ k l. link_lower k (omega arith))) h))

  pub link_breaks : i < 4 → Breaks n t d r i
  link_breaks l = (breaks_exactly n t d r i).0 (not-true _ (first.passes l))

  pub link_found : i < 4 → keeps_rule n t d r ≡ false
  link_found l = test (keeps_rule n t d r) (λ h. absurd (kept_by n t d r h i l (link_breaks l))) (λ h. h)

  pub link_is : (k : ℕ) → k < 4 → Breaks n t d r k → ((x : ℕ) → x < k → Breaks n t d r x → ⊥) → i ≡ k
  unfolding breaking_link
  link_is k l b lower = sym (searched (λ i. not (keeps_at n t d r i)) 4 k (omega arith)
      (λ x u. ap not (keeps_at_lem n t d r x (lower x u))) (λ _. ap not ((breaks_exactly n t d r k).1 b)))

-- ---- the rules and their order

pub each_rule : (P : MapRule → Type 0) → P links_live → P links_return → P pairs_commute → P stays_flat → (r : MapRule) → P r
each_rule P a b c d links_live = a
each_rule P a b c d links_return = b
each_rule P a b c d pairs_commute = c
each_rule P a b c d stays_flat = d

pub by_rule_lem : {A : Type 0} (f : MapRule → A) (z : A) (r : MapRule) → by_rule f z (rule_number r) ≡ f r
unfolding by_rule rule_number
by_rule_lem f z links_live = refl
by_rule_lem f z links_return = refl
by_rule_lem f z pairs_commute = refl
by_rule_lem f z stays_flat = refl

-- each has a number of its own
pub number_one : {r q : MapRule} → rule_number r ≡ rule_number q → r ≡ q
number_one {r} {q} e =
    let rule = by_rule_lem (λ r. r) links_live in
    sym (rule r) ∙ ap (by_rule (λ r. r) links_live) e ∙ rule q

number_most : (r : MapRule) → rule_number r ≤ 26
unfolding rule_number
number_most = each_rule (λ r. rule_number r ≤ 26) (omega arith) (omega arith) (omega arith) (omega arith)

-- what holds of every rule before r
pub each_earlier : (P : MapRule → Type 0) (r : MapRule) → (5 < rule_number r → P links_live) → (24 < rule_number r → P links_return)
    → (25 < rule_number r → P pairs_commute) → (q : MapRule) → rule_number q < rule_number r → P q
unfolding rule_number
each_earlier P r a b c links_live l = a l
each_earlier P r a b c links_return l = b l
each_earlier P r a b c pairs_commute l = c l
each_earlier P r a b c stays_flat l = let most = number_most r in absurd (omega arith)

-- ---- the first rule broken

module _ (n : ℕ) (t : List ℕ) (n3 : n ≤ 3) where
  -- the least slot that breaks a rule
  abbrev b : ℕ
  b = least_breaking n t

  -- it keeps the rule
  abbrev Kept : MapRule → Type 0
  Kept r = keeps_rule n t b r ≡ true

  breaking : First (failing t (keeps_rules n t)) 0 (slots t) b
  unfolding least_breaking breaks_rule failing
  breaking = least_is (failing t (keeps_rules n t)) (slots t)

  module _ (not_map : is_map n t ≡ false) where
    slot : b < slots t
    unfolding is_map
    slot = let h = breaking.high in let e = eqb-false b (slots t) not_map in omega arith

    pub broken_first : (r : MapRule) → keeps_rule n t b r ≡ false → ((q : MapRule) → rule_number q < rule_number r → Kept q)
        → BreaksFirst n t r b (breaking_link n t b r)
    broken_first r h earlier = record {
      slot = slot;
      least = (least_breaking_lem n t n3 b slot).0 refl;
      index = link_below n t b r h;
      breaks = link_breaks n t b r (link_below n t b r h);
      lower = link_lower n t b r;
      earlier = λ q l. kept_by n t b q (earlier q l);
    }

    pub some_broken : (r : MapRule) × (d : ℕ) × (i : ℕ) × BreaksFirst n t r d i
    unfolding rule_number
    some_broken =
        test (keeps_rule n t b links_live) (λ lives. test (keeps_rule n t b links_return) (λ back.
        test (keeps_rule n t b pairs_commute) (λ pairs. test (keeps_rule n t b stays_flat)
        (λ flat. absurd (all_kept lives back pairs flat))
        (λ h. found stays_flat h (λ _. lives) (λ _. back) (λ _. pairs)))
        (λ h. found pairs_commute h (λ _. lives) (λ _. back) (λ l. absurd (omega arith))))
        (λ h. found links_return h (λ _. lives) (λ l. absurd (omega arith)) (λ l. absurd (omega arith))))
        (λ h. found links_live h (λ l. absurd (omega arith)) (λ l. absurd (omega arith)) (λ l. absurd (omega arith)))
      where
        found : (r : MapRule) → keeps_rule n t b r ≡ false → (5 < rule_number r → Kept links_live)
            → (24 < rule_number r → Kept links_return) → (25 < rule_number r → Kept pairs_commute)
            → (r : MapRule) × (d : ℕ) × (i : ℕ) × BreaksFirst n t r d i
        found r h lives back pairs = (r, b, breaking_link n t b r, broken_first r h (each_earlier Kept r lives back pairs))

        all_kept : Kept links_live → Kept links_return → Kept pairs_commute → Kept stays_flat → ⊥
        all_kept lives back pairs flat =
            clash (keep_all n t b (each_rule Kept lives back pairs flat))
            (fails_of t (keeps_rules n t) b (breaking.passes slot)).1

  -- what the tests say of it
  pub record Tested (r : MapRule) (d i : ℕ) : Type 0 where
    pub place : b ≡ d
    pub not_map : is_map n t ≡ false
    pub broken : keeps_rule n t b r ≡ false
    pub link : breaking_link n t b r ≡ i
    pub earlier : (q : MapRule) → rule_number q < rule_number r → Kept q

  pub of_broken : {r : MapRule} {d i : ℕ} → BreaksFirst n t r d i → Tested r d i
  unfolding is_map
  of_broken {r} {d} {i} f =
      let place : b ≡ d = (least_breaking_lem n t n3 d f.slot).1 f.least in
      let here : BreaksFirst n t r b i = subst (λ (x : ℕ). BreaksFirst n t r x i) (sym place) f in
      record {
        place = place;
        not_map = let s = f.slot in ne_eqb b (slots t) (λ e. omega arith);
        broken = test _ (λ h. absurd (kept_by n t b r h i f.index here.breaks)) (λ h. h);
        link = link_is n t b r i f.index here.breaks here.lower;
        earlier = λ q l. keeps_rule_lem n t b q (here.earlier q l);
      }

  -- "The four conditions exclude one another": there is one rule, one slot and one link
  pub broken_once : {r q : MapRule} {d e i k : ℕ} → BreaksFirst n t r d i → BreaksFirst n t q e k → (r ≡ q) × (d ≡ e) × (i ≡ k)
  broken_once {r} {q} {d} {e} {i} {k} f g =
      let a = of_broken f in
      let c = of_broken g in
      let low : rule_number q ≤ rule_number r = if_lt _ _ (λ l. absurd (clash (c.earlier r l) a.broken)) (λ l. l) in
      let high : rule_number r ≤ rule_number q = if_lt _ _ (λ l. absurd (clash (a.earlier q l) c.broken)) (λ l. l) in
      let rule : r ≡ q = number_one (omega arith) in
      (rule, sym a.place ∙ c.place, sym a.link ∙ ap (breaking_link n t b) rule ∙ c.link)
