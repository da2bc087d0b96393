-- Least sets that each begin with one dart, under steps that can be taken back, are classes: a dart is in the set of another exactly
-- if that is in its own (`class_back`), and then the two sets are one (`class_same`).
use Prim.Native.Nat.{ℕ, ◌<◌}
use mathlib.Core.Path.{◌≡◌, refl}
use mathlib.Core.List.{List}
use Rattle.model.specs.Meaning.Sets.{Marked, LeastSet}
use Rattle.theorems.proofs.Sets.Least.{least_set_unique}

-- P holds of numbers below k; a step from where it holds leads to where it holds, and a step leads back
pub record Reversible (k : ℕ) (P : ℕ → Type 0) (Step : ℕ → ℕ → Type 0) : Type 0 where
  pub below : (x : ℕ) → P x → x < k
  pub goes : (x y : ℕ) → P x → Step x y → P y
  pub back : (x y : ℕ) → P x → Step x y → Step y x

module _ {k : ℕ} {Step : ℕ → ℕ → Type 0} (set : ℕ → List ℕ) (is : (d : ℕ) → LeastSet k (λ x. x ≡ d) Step (set d)) where
  -- what is in the set of a dart of a set is in that set
  pub class_sub : (d e : ℕ) → Marked (set d) e → (x : ℕ) → Marked (set e) x → Marked (set d) x
  class_sub d e h = (is e).within (Marked (set d)) (λ x q _. rw q h) (λ x y _. (is d).closed x y)

  module _ {P : ℕ → Type 0} (R : Reversible k P Step) where
    pub class_own : (d : ℕ) → P d → Marked (set d) d
    class_own d p = (is d).holds d refl (R.below d p)

    pub class_back : (d x : ℕ) → P d → Marked (set d) x → Marked (set x) d
    class_back d x p h = ((is d).within Mutual (λ z e _. rw e (p, class_own d p)) (λ y z _ m s _. step y z m s) x h).1
      where
        Mutual : ℕ → Type 0
        Mutual z = P z × Marked (set z) d

        step : (y z : ℕ) → Mutual y → Step y z → Mutual z
        step y z (q, m) s =
            let next = R.goes y z q s in
            let back = (is z).closed z y (class_own z next) (R.back y z q s) (R.below y q) in
            (next, class_sub z y back d m)

    pub class_same : (d x : ℕ) → P d → Marked (set d) x → set x ≡ set d
    class_same d x p h =
        let s = is d in
        least_set_unique (is x) (record {
          long = s.long;
          bits = s.bits;
          holds = λ z e _. rw e h;
          closed = s.closed;
          within = λ Q seed kept z m. (is x).within Q seed kept z (class_sub x d (class_back d x p h) z m);
        })
