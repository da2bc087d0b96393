-- The rules of a map at a slot, by the tests that code makes: `keeps_rules_lem`, from the tests of `rules`. `turned_live`: a link that
-- turns back leads to a live slot, so that nothing else is to be tested.
use Prim.Native.Nat.{ℕ, zero, suc, ◌+◌, ◌≤◌, ◌<◌}
use mathlib.Core.Path.{◌≡◌, sym, ◌∙◌}
use mathlib.Core.Logic.{◌⊎◌, inl, inr, ◌≢◌}
use mathlib.Core.Bool.{Bool, true, false, ◌&&◌}
use mathlib.Core.List.{List}
use native.Mathlib.Omega.{arith}
use lib.Dec.{eqb}
use borrow.Author.Tests.{eqb-true, eq-eqb, ne_eqb}
use Rattle.model.specs.Table.{unused, link, live}
use Rattle.model.specs.Map.{crossed, keeps_rules}
use Rattle.model.specs.Meaning.Maps.{Dim, Rule}
use Rattle.theorems.proofs.Lists.Scan.{and_l, and_r, and_i, test, same_test, if_eq}
use Rattle.theorems.proofs.Maps.Dim.{dim_cases}
use Rattle.theorems.proofs.Maps.Rules.{rule_of_lem, of_rule, crossed_far, dead_link}
use Rattle.reading.specs.Near.{four, rules, turned}

module _ (p : ℕ → Bool) where
  pub four_at : four p ≡ true → (i : ℕ) → i < 4 → p i ≡ true
  four_at h = go
    where
      three : (p 0 && p 1 && p 2) ≡ true
      three = and_l _ (p 3) h

      two : (p 0 && p 1) ≡ true
      two = and_l _ (p 2) three

      go : (i : ℕ) → i < 4 → p i ≡ true
      go zero l = and_l (p 0) (p 1) two
      go (suc zero) l = and_r (p 0) (p 1) two
      go (suc (suc zero)) l = and_r (p 0 && p 1) (p 2) three
      go (suc (suc (suc zero))) l = and_r (p 0 && p 1 && p 2) (p 3) h
      go (suc (suc (suc (suc i)))) l = absurd (omega arith)

  pub four_of : ((i : ℕ) → i < 4 → p i ≡ true) → four p ≡ true
  four_of h = and_i (and_i (and_i (h 0 (omega arith)) (h 1 (omega arith))) (h 2 (omega arith))) (h 3 (omega arith))

-- the pairs i+2 <= j <= n
pairs : (P : ℕ → ℕ → Type 0) (n i j : ℕ) → n ≤ 3 → i + 2 ≤ j → j ≤ n → P 0 2 → (n ≡ 3 → P 0 3) → (n ≡ 3 → P 1 3) → P i j
pairs P n i j n3 ij jn a b c =
    if_eq {P = P i j} j 2 (λ q. let p : i ≡ 0 = omega arith in rw (p, q) a) (λ q.
    let r : j ≡ 3 = omega arith in
    if_eq {P = P i j} i 0 (λ p. rw (p, r) (b (omega arith))) (λ p.
    let o : i ≡ 1 = omega arith in
    rw (o, r) (c (omega arith))))

-- all tests of `rules`
pub record Tests (n : ℕ) (one : ℕ → Bool) (two : ℕ → ℕ → Bool) (flat : Bool) : Type 0 where
  pub each : (i : ℕ) → i < 4 → one i ≡ true
  pub pair : (i j : ℕ) → i + 2 ≤ j → j ≤ n → two i j ≡ true
  pub plane : n ≡ 2 → flat ≡ true

module _ (n : ℕ) (one : ℕ → Bool) (two : ℕ → ℕ → Bool) (flat : Bool) where
  pub rules_flat : n ≡ 2 → (four one && two 0 2 && flat) ≡ rules n one two flat
  unfolding rules
  rules_flat e = rw (eq-eqb n 2 e)

  pub rules_solid : n ≢ 2 → (four one && two 0 2 && (two 0 3 && two 1 3)) ≡ rules n one two flat
  unfolding rules
  rules_solid e = rw (ne_eqb n 2 e)

  module _ (dim : Dim n) where
    pub tests_of : rules n one two flat ≡ true → Tests n one two flat
    unfolding rules
    tests_of h = record {
      each = four_at one (and_l (four one) (two 0 2) front);
      pair = λ i j ij jn.
          pairs (λ i j. two i j ≡ true) n i j dim.1 ij jn (and_r (four one) (two 0 2) front)
          (λ e. and_l (two 0 3) (two 1 3) (solid e)) (λ e. and_r (two 0 3) (two 1 3) (solid e));
      plane = λ e. rw (eq-eqb n 2 e) at last;
    }
      where
        front : (four one && two 0 2) ≡ true
        front = and_l _ _ h

        last : (elim (eqb n 2) [ true ↦ flat | false ↦ two 0 3 && two 1 3 ]) ≡ true
        last = and_r (four one && two 0 2) _ h

        solid : n ≡ 3 → (two 0 3 && two 1 3) ≡ true
        solid e = rw (ne_eqb n 2 (λ q. omega arith)) at last

    pub of_tests : Tests n one two flat → rules n one two flat ≡ true
    unfolding rules
    of_tests t = and_i (and_i (four_of one t.each) (t.pair 0 2 (omega arith) dim.0)) (last (dim_cases n dim))
      where
        last : (n ≡ 2) ⊎ (n ≡ 3) → (elim (eqb n 2) [ true ↦ flat | false ↦ two 0 3 && two 1 3 ]) ≡ true
        last (inl e) = rw (eq-eqb n 2 e) (t.plane e)
        last (inr e) =
            rw (ne_eqb n 2 (λ q. omega arith))
            (and_i (t.pair 0 3 (omega arith) (omega arith)) (t.pair 1 3 (omega arith) (omega arith)))

-- a link that turns back leads to a live slot
pub turned_live : (t : List ℕ) (d i : ℕ) → i < 4 → d ≢ unused → link t i (link t i d) ≡ d → live t (link t i d) ≡ true
turned_live t d i l used h =
    test (live t (link t i d)) (λ e. e) (λ e. absurd (used (sym h ∙ dead_link t (link t i d) e i l)))

module _ (n : ℕ) (t : List ℕ) (d : ℕ) (dim : Dim n) (used : d ≢ unused) where
  rule_tests : Rule n t d → Tests n (turned t d) (crossed t d) (eqb (link t 3 d) d)
  unfolding turned
  rule_tests r = record {
    each = λ i l. eq-eqb _ _ (r.comes i l);
    pair = λ i j ij jn. crossed_far n t d i j ij ∙ eq-eqb _ _ (r.cross i j ij jn);
    plane = λ e. eq-eqb _ _ (r.plane e);
  }

  tests_rule : Tests n (turned t d) (crossed t d) (eqb (link t 3 d) d) → Rule n t d
  unfolding turned
  tests_rule s = record {
    goes = λ i l. turned_live t d i l used (eqb-true _ _ (s.each i l));
    comes = λ i l. eqb-true _ _ (s.each i l);
    cross = λ i j ij jn. eqb-true _ _ (sym (crossed_far n t d i j ij) ∙ s.pair i j ij jn);
    plane = λ e. eqb-true _ _ (s.plane e);
  }

  pub keeps_rules_lem : rules n (turned t d) (crossed t d) (eqb (link t 3 d) d) ≡ keeps_rules n t d
  keeps_rules_lem = same_test
      (λ h. of_rule n t d (tests_rule (tests_of n _ _ _ dim h)))
      (λ h. of_tests n _ _ _ dim (rule_tests (rule_of_lem n t d dim.1 h)))
