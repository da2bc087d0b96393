-- The live slots that fail a test, and the least of them: what the map test and the block test look for.
-- Main theorems: `none_failing` (the scan finds none), `least_failing` (it finds d).
use Prim.Native.Nat.{ℕ, ◌<◌}
use mathlib.Core.Path.{◌≡◌, sym, ap, ◌∙◌, subst}
use mathlib.Core.Logic.{◌↔◌}
use mathlib.Core.Bool.{Bool, true, false, not}
use mathlib.Core.List.{List}
use native.Mathlib.Omega.{arith}
use borrow.Author.Tests.{not-true, not-false}
use Rattle.model.specs.Lists.{least}
use Rattle.model.specs.Table.{slots, live}
use Rattle.model.specs.Meaning.Maps.{LeastFailing}
use Rattle.theorems.proofs.Lists.Scan.{test, clash, First, least_is, least_by}

-- d is live, and fails the test
unfoldable pub failing : List ℕ → (ℕ → Bool) → ℕ → Bool
failing t keeps d = elim (live t d) [ true ↦ not (keeps d) | false ↦ false ]

module _ (t : List ℕ) (keeps : ℕ → Bool) where
  pub failing_live : (d : ℕ) → live t d ≡ true → failing t keeps d ≡ not (keeps d)
  unfolding failing
  failing_live d l = rw (l, failing)

  pub failing_dead : (d : ℕ) → live t d ≡ false → failing t keeps d ≡ false
  unfolding failing
  failing_dead d l = rw (l, failing)

  keeps_of : (d : ℕ) → failing t keeps d ≡ false → live t d ≡ true → keeps d ≡ true
  keeps_of d h l = not-false _ (sym (failing_live d l) ∙ h)

  of_keeps : (d : ℕ) → (live t d ≡ true → keeps d ≡ true) → failing t keeps d ≡ false
  of_keeps d h = test (live t d) (λ l. failing_live d l ∙ ap not (h l)) (failing_dead d)

  pub fails_of : (d : ℕ) → failing t keeps d ≡ true → (live t d ≡ true) × (keeps d ≡ false)
  fails_of d h = test (live t d) (λ l. (l, not-true _ (sym (failing_live d l) ∙ h))) (λ l. absurd (clash h (failing_dead d l)))

  of_fails : (d : ℕ) → live t d ≡ true → keeps d ≡ false → failing t keeps d ≡ true
  of_fails d l h = failing_live d l ∙ ap not h

  abbrev found : ℕ
  found = least (slots t) (failing t keeps)

  pub none_failing : (found ≡ slots t) ↔ ((d : ℕ) → d < slots t → live t d ≡ true → keeps d ≡ true)
  none_failing = (
    λ e d l. keeps_of d ((least_is (failing t keeps) (slots t)).before d (omega arith) (omega arith)),
    λ h.
        least_by (failing t keeps) (slots t) (slots t) (record {
          low = omega arith;
          high = omega arith;
          passes = λ l. absurd (omega arith);
          before = λ d _ l. of_keeps d (h d l);
        }),
  )

  -- the test says P
  module _ (P : ℕ → Type 0) (exact : (d : ℕ) → live t d ≡ true → (keeps d ≡ true) ↔ P d) where
    failing_of : (d : ℕ) → First (failing t keeps) 0 (slots t) d → d < slots t → LeastFailing t P d
    failing_of d r l =
        let f = fails_of d (r.passes l) in
        record {
          lives = f.0;
          fails = λ p. clash ((exact d f.0).1 p) f.1;
          before = λ x u lx. (exact x lx).0 (keeps_of x (r.before x (omega arith) u) lx);
        }

    of_failing : (d : ℕ) → LeastFailing t P d → d < slots t → First (failing t keeps) 0 (slots t) d
    of_failing d f l = record {
      low = omega arith;
      high = omega arith;
      passes = λ _. of_fails d f.lives (test (keeps d) (λ e. absurd (f.fails ((exact d f.lives).0 e))) (λ e. e));
      before = λ x _ u. of_keeps x (λ lx. (exact x lx).1 (f.before x u lx));
    }

    pub least_failing : (d : ℕ) → d < slots t → (found ≡ d) ↔ LeastFailing t P d
    least_failing d l = (
      λ e. failing_of d (subst (First (failing t keeps) 0 (slots t)) e (least_is (failing t keeps) (slots t))) l,
      λ f. least_by (failing t keeps) (slots t) d (of_failing d f l),
    )
