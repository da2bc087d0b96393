-- What is tested of each number and of each row, one after the other: it names a point, it is 12, it has 8 numbers.
use Prim.Native.Nat.{ℕ, ◌<◌}
use mathlib.Core.Path.{◌≡◌, sym, ap, ap₂, ◌∙◌}
use mathlib.Core.Bool.{Bool, true, ◌&&◌}
use mathlib.Core.List.{List, [], ◌∷◌, ◌++◌}
use lib.Dec.{ltb}
use borrow.Author.Tests.{lt-ltb, ltb-true}
use Rattle.model.specs.Lists.{all_of}
use Rattle.theorems.proofs.Lists.Scan.{and_r}
use Rattle.vtk_form.specs.Parts.{all_named}
use Rattle.vtk_form.proofs.Gone.{all_append, all_one, all_first}

-- one more passes
pub all_more : {A : Type 0} (p : A → Bool) (done : List A) (x : A) (e b : Bool) → e ≡ all_of p done → b ≡ p x
    → (e && b) ≡ all_of p (done ++ (x ∷ []))
all_more p done x e b h k = ap₂ (λ (e : Bool) (b : Bool). e && b) h (k ∙ sym (all_one p x)) ∙ sym (all_append p done (x ∷ []))

-- one of those that pass
pub all_next : {A : Type 0} (p : A → Bool) (all done : List A) (x : A) (others : List A) → all ≡ done ++ (x ∷ others)
    → all_of p all ≡ true → p x ≡ true
all_next p all done x others same h =
    let parts = sym (all_append p done (x ∷ others)) ∙ ap (all_of p) (sym same) ∙ h in
    all_first p x others (and_r (all_of p done) (all_of p (x ∷ others)) parts)

module _ (n : ℕ) where
  pub named_next : (row done : List ℕ) (x : ℕ) (vs : List ℕ) → row ≡ done ++ (x ∷ vs) → all_named n row ≡ true → x < n
  named_next row done x vs same h = ltb-true x n (all_next (λ x. ltb x n) row done x vs same h)

  pub named_more : (done : List ℕ) (x : ℕ) → all_named n done ≡ true → x < n → all_named n (done ++ (x ∷ [])) ≡ true
  named_more done x h low = sym (all_more (λ x. ltb x n) done x true true (sym h) (sym (lt-ltb x n low)))
