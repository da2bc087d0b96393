-- Keywords one after the other.
use Prim.Native.Nat.{ℕ}
use mathlib.Core.Path.{◌≡◌, refl}
use mathlib.Core.List.{List, [], ◌∷◌}
use mathlib.Core.Option.{none, some}
use Rattle.model.specs.Lists.{equal}
use Rattle.model.specs.Vtk.{behind_words}
use Rattle.theorems.proofs.Lists.Scan.{test}
use Rattle.vtk_words.proofs.Counting.{none_some}

module _ (k : List ℕ) (ks : List (List ℕ)) where
  pub keys_more : (ws rest : List (List ℕ)) → behind_words (k ∷ []) ws ≡ some rest → behind_words (k ∷ ks) ws ≡ behind_words ks rest
  unfolding behind_words
  keys_more [] rest h = absurd (none_some refl h)
  keys_more (w ∷ ws) rest h = test (equal k w)
      (λ e. let q : some ws ≡ some rest = rw (behind_words, e) at h in let same : ws ≡ rest = cc in rw (behind_words, e, same))
      (λ e. absurd (none_some refl (let q : none ≡ some rest = rw (behind_words, e) at h in q)))

  pub keys_none : (ws : List (List ℕ)) → behind_words (k ∷ []) ws ≡ none → behind_words (k ∷ ks) ws ≡ none
  unfolding behind_words
  keys_none [] h = refl
  keys_none (w ∷ ws) h = test (equal k w)
      (λ e. absurd (none_some (let q : some ws ≡ none = rw (behind_words, e) at h in q) refl)) (λ e. rw (behind_words, e))
