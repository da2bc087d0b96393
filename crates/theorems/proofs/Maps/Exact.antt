-- The map test says what document 01 says of a map.
-- Main theorems: `map_exactly` (the test), `least_breaking_lem` and `none_breaking` (the place of refusal 5), `returns_meets` and
-- `rule_meets` (a walk that returns meets live slots only, so that to test where it ends is enough).
use Prim.Native.Nat.{ℕ, ◌+◌, ◌*◌, ◌≤◌, ◌<◌}
use mathlib.Core.Path.{◌≡◌, refl, sym, ap, ◌∙◌, subst}
use mathlib.Core.Logic.{◌↔◌, ⊎_elim}
use mathlib.Core.Bool.{true, false}
use mathlib.Core.List.Memᴰ.{cases_cons as in-cons}
use mathlib.Core.List.Memᴰ.{not-nil}
use mathlib.Core.List.{List, [], ◌∷◌}
use mathlib.Core.List.Memᴰ.{head as here}
use mathlib.Core.List.Memᴰ.{tail as there}
use native.Mathlib.Omega.{arith}
use lib.ListN.{length}
use borrow.Author.Tests.{eqb-true, eq-eqb}
use Rattle.model.specs.Table.{unused, slots, link, walk, live}
use Rattle.model.specs.Map.{keeps_rules, breaks_rule, least_breaking, is_map}
use Rattle.model.specs.Meaning.Maps.{Map, Rule, Meets, Low, LeastFailing}
use Rattle.theorems.proofs.Lists.Scan.{test, clash}
use Rattle.theorems.proofs.Maps.Failing.{failing, least_failing}
use Rattle.theorems.proofs.Maps.Rules.{rule_of_lem, of_rule, map_of, of_map, dead_link, dead_out}

module _ (n : ℕ) (t : List ℕ) (n3 : n ≤ 3) where
  pub map_exactly : (is_map n t ≡ true) ↔ Map n t
  map_exactly = (map_of n t n3, of_map n t)

  -- "least slot that breaks a rule"
  pub least_breaking_lem : (d : ℕ) → d < slots t → (least_breaking n t ≡ d) ↔ LeastFailing t (Rule n t) d
  unfolding least_breaking breaks_rule failing
  least_breaking_lem = least_failing t (keeps_rules n t) (Rule n t) (λ d _. (rule_of_lem n t d n3, of_rule n t d))

  pub none_breaking : (least_breaking n t ≡ slots t) ↔ Map n t
  unfolding is_map
  none_breaking = (λ e. map_exactly.0 (eq-eqb _ _ e), λ m. eqb-true _ _ (map_exactly.1 m))

-- ---- the slots met on a walk, in a table of a length that is allowed

low_none : Low []
low_none i k = absurd (not-nil k)

low_more : {i : ℕ} {w : List ℕ} → i < 4 → Low w → Low (i ∷ w)
low_more {i} h low j k = ⊎_elim (λ (e : j ≡ i). subst (λ (z : ℕ). z < 4) (sym e) h) (low j) (in-cons k)

module _ (t : List ℕ) (whole : length t ≡ 4 * slots t) (few : slots t ≤ 65536) where
  -- a walk that leaves the live slots does not come back
  dead_walk : (w : List ℕ) (x : ℕ) → Low w → live t x ≡ false → live t (walk t w x) ≡ false
  unfolding walk
  dead_walk [] x low e = e
  dead_walk (i ∷ w) x low e =
      let off = dead_out t unused whole (omega arith) in
      dead_walk w (link t i x) (λ j k. low j (there k)) (ap (live t) (dead_link t x e i (low i (here refl))) ∙ off)

  ends_meets : (w : List ℕ) (x : ℕ) → Low w → live t (walk t w x) ≡ true → Meets t w x
  unfolding walk
  ends_meets [] x low e = e
  ends_meets (i ∷ w) x low e =
      let rest = ends_meets w (link t i x) (λ j k. low j (there k)) e in
      (test (live t x) (λ l. l) (λ l. absurd (clash e (dead_walk (i ∷ w) x low l))), rest)

  pub returns_meets : (w : List ℕ) (d : ℕ) → Low w → live t d ≡ true → walk t w d ≡ d → Meets t w d
  returns_meets w d low l e = ends_meets w d low (ap (live t) e ∙ l)

  -- so a live slot that keeps the rules meets live slots only
  pub rule_meets : {n : ℕ} {d : ℕ} → n ≤ 3 → Rule n t d → live t d ≡ true
      → ((i : ℕ) → i < 4 → Meets t (i ∷ i ∷ []) d) × ((i j : ℕ) → i + 2 ≤ j → j ≤ n → Meets t (i ∷ j ∷ i ∷ j ∷ []) d)
  unfolding walk
  rule_meets {n} {d} n3 r l = (back, cross)
    where
      back : (i : ℕ) → i < 4 → Meets t (i ∷ i ∷ []) d
      back i h = returns_meets (i ∷ i ∷ []) d (low_more h (low_more h low_none)) l (r.comes i h)

      cross : (i j : ℕ) → i + 2 ≤ j → j ≤ n → Meets t (i ∷ j ∷ i ∷ j ∷ []) d
      cross i j far top =
          let hi : i < 4 = omega arith in
          let hj : j < 4 = omega arith in
          let low = low_more hi (low_more hj (low_more hi (low_more hj low_none))) in
          returns_meets (i ∷ j ∷ i ∷ j ∷ []) d low l (r.cross i j far top)
