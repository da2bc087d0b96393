-- `sew_symmetric`: sew gives the same for (i, d, e) and (i, e, d), whatever it is given, refusals too.
use Prim.Native.Nat.{ℕ}
use mathlib.Core.Path.{◌≡◌, refl, sym, ap, ◌∙◌}
use mathlib.Core.Logic.{⊎_elim}
use mathlib.Core.Bool.{Bool, true, false, not, ◌&&◌}
use mathlib.Core.List.{List, [], ◌∷◌, ◌++◌}
use lib.ListN.{length}
use lib.Dec.{eqb}
use borrow.Author.Tests.{eq-eqb, eqb-true}
use Rattle.model.specs.Table.{link, live}
use Rattle.model.specs.Reach.{in_set}
use Rattle.model.specs.Sew.{side, sew_table}
use Rattle.model.specs.Checks.{Check, pass, refuse, and_then, must, in_order, dim_ok, table_ok, journal_ok, map_checks, index_ok, dart_ok}
use Rattle.model.specs.Checks.{apart_ok, free_ok, pairing_ok, sides_checks, sew_checks}
use Rattle.model.specs.Calls.{commit, refused, sew_call}
use Rattle.model.specs.Meaning.Pairings.{OnSide}
use Rattle.theorems.proofs.Lists.Scan.{test, clash}
use Rattle.theorems.proofs.Sewing.Side.{side_own, sides_parted}
use Rattle.theorems.proofs.Sewing.Turned.{paired_turned, sew_turned}
use Rattle.theorems.proofs.Calls.Checks.{passed_at, append_passed, append_refused, passed_or_refused}
use Rattle.theorems.proofs.Calls.Pass.{index_pass, rules_pass, table_of, sew_passed, sides_sewable}

-- checks behind the same checks
behind_same : (cs ds es : List Check) → (in_order cs ≡ pass → in_order ds ≡ in_order es) → in_order (cs ++ ds) ≡ in_order (cs ++ es)
behind_same cs ds es same = ⊎_elim (λ h. append_passed cs ds h ∙ same h ∙ sym (append_passed cs es h))
    (λ r. append_refused cs ds r.3 ∙ sym (append_refused cs es r.3)) (passed_or_refused (in_order cs))

and_turned : (a b : Bool) → (a && b) ≡ (b && a)
and_turned true true = refl
and_turned true false = refl
and_turned false true = refl
and_turned false false = refl

free_turned : (t : List ℕ) (i d e : ℕ) → free_ok t i d e ≡ free_ok t i e d
unfolding free_ok
free_turned t i d e = ap (λ (b : Bool). must b 10) (and_turned (eqb (link t i d) d) (eqb (link t i e) e))

pairing_turned : (n : ℕ) (t : List ℕ) (i d e : ℕ) → pairing_ok n t i d e ≡ pairing_ok n t i e d
unfolding pairing_ok
pairing_turned n t i d e = ap (λ (b : Bool). must b 12) (paired_turned n t i d e)

-- a dart in the other's side has the other in its own
side_turned : {n : ℕ} {t : List ℕ} {i d e : ℕ} → OnSide n t i d → OnSide n t i e → in_set (side n t i d) e ≡ false
    → in_set (side n t i e) d ≡ false
unfolding in_set
side_turned left right h = test _
    (λ q. absurd (sides_parted left right (λ m. clash (eq-eqb _ 1 m) h) _ (side_own left) (eqb-true _ 1 q))) (λ q. q)

apart_turned : {n : ℕ} {t : List ℕ} {i d e : ℕ} → OnSide n t i d → OnSide n t i e → apart_ok n t i d e ≡ apart_ok n t i e d
unfolding apart_ok
apart_turned {n} {t} {i} {d} {e} left right = ap (λ (b : Bool). must (not b) 9) (test (in_set (side n t i d) e)
    (λ h. h ∙ sym (test (in_set (side n t i e) d) (λ q. q) (λ q. absurd (clash h (side_turned right left q)))))
    (λ h. h ∙ sym (side_turned left right h)))

module _ (n : ℕ) (t j : List ℕ) (i : ℕ) where
  -- the checks before those of the darts, and those
  first : List Check
  first = dim_ok n ∷ table_ok t ∷ journal_ok j ∷ (map_checks n t ++ (index_ok n i ∷ []))

  of_darts : ℕ → ℕ → List Check
  of_darts d e = dart_ok t d ∷ dart_ok t e ∷ apart_ok n t i d e ∷ free_ok t i d e ∷ pairing_ok n t i d e ∷ []

  checks_are : (d e : ℕ) → sew_checks n t j i d e ≡ first ++ of_darts d e
  unfolding sew_checks sides_checks map_checks first of_darts
  checks_are d e = refl

  darts_turned : (d e : ℕ) → in_order first ≡ pass → in_order (of_darts d e) ≡ in_order (of_darts e d)
  unfolding first of_darts map_checks in_order and_then dart_ok must
  darts_turned d e h =
      let at = passed_at first h in
      let table = table_of n t (at 0) (at 1) (rules_pass n t (at 3) (at 4) (at 5) (at 6)) in
      let index = index_pass n i (at 7) in
      let on : (x : ℕ) → live t x ≡ true → OnSide n t i x = λ x l. record { table = table; index = index; lives = l } in
      test (live t d)
      (λ l. test (live t e)
      (λ m. rw (l, m, apart_turned (on d l) (on e m), free_turned t i d e, pairing_turned n t i d e))
      (λ m. rw (l, m)))
      (λ l. test (live t e) (λ m. rw (l, m)) (λ m. rw (l, m)))

  pub checks_turned : (d e : ℕ) → in_order (sew_checks n t j i d e) ≡ in_order (sew_checks n t j i e d)
  checks_turned d e =
      ap in_order (checks_are d e) ∙ behind_same first (of_darts d e) (of_darts e d) (darts_turned d e)
      ∙ sym (ap in_order (checks_are e d))

  sew_pass : (tag d e : ℕ) → in_order (sew_checks n t j i d e) ≡ pass
      → sew_call n t j tag i d e ≡ commit t (sew_table n t i d e) [] j tag 0 (λ cs. length cs)
  unfolding sew_call
  sew_pass tag d e h = rw (h, sew_call)

  sew_refuse : (tag d e : ℕ) {k p q : ℕ} → in_order (sew_checks n t j i d e) ≡ refuse k p q
      → sew_call n t j tag i d e ≡ refused k p q t [] j
  unfolding sew_call
  sew_refuse tag d e h = rw (h, sew_call)

  pub sew_symmetric : (tag d e : ℕ) → sew_call n t j tag i d e ≡ sew_call n t j tag i e d
  sew_symmetric tag d e = ⊎_elim
      (λ h.
      let (passed, paired) = sew_passed n t j i d e h in
      let table = sew_turned (sides_sewable passed paired) in
      sew_pass tag d e h ∙ ap (λ (u : List ℕ). commit t u [] j tag 0 (λ cs. length cs)) table
      ∙ sym (sew_pass tag e d (sym (checks_turned d e) ∙ h)))
      (λ r. sew_refuse tag d e r.3 ∙ sym (sew_refuse tag e d (sym (checks_turned d e) ∙ r.3)))
      (passed_or_refused (in_order (sew_checks n t j i d e)))
