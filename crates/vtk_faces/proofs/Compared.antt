-- Some and each of four vertices, by tests of one after the other.
use Prim.Native.Nat.{ℕ}
use mathlib.Core.Path.{◌≡◌}
use mathlib.Core.Bool.{Bool, ◌&&◌, ◌||◌}
use mathlib.Core.List.{[], ◌∷◌}
use Rattle.model.specs.Lists.{all_of, any_of}
use Rattle.theorems.proofs.Lists.Scan.{test}

module _ (p : ℕ → Bool) (a b c d : ℕ) where
  pub any_four : (((p a || p b) || p c) || p d) ≡ any_of p (a ∷ b ∷ c ∷ d ∷ [])
  unfolding any_of
  any_four =
      test (p a) (λ e. rw (e, any_of)) (λ e. rw (e, any_of) (
      test (p b) (λ e. rw (e, any_of)) (λ e. rw (e, any_of) (
      test (p c) (λ e. rw (e, any_of)) (λ e. rw (e, any_of) (
      test (p d) (λ e. rw (e, any_of)) (λ e. rw (e, any_of))))))))

  pub all_four : (((p a && p b) && p c) && p d) ≡ all_of p (a ∷ b ∷ c ∷ d ∷ [])
  unfolding all_of
  all_four =
      test (p a) (λ e. rw (e, all_of) (
      test (p b) (λ e. rw (e, all_of) (
      test (p c) (λ e. rw (e, all_of) (
      test (p d) (λ e. rw (e, all_of)) (λ e. rw (e, all_of)))) (λ e. rw (e, all_of)))) (λ e. rw (e, all_of)))) (λ e. rw (e, all_of))
