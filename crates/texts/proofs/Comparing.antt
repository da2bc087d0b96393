-- Two texts are compared as the library's `==` does it.
use Prim.Native.Nat.{ℕ}
use mathlib.Core.Path.{◌≡◌, refl}
use mathlib.Core.List.{List, [], ◌∷◌}
use lib.Dec.{eqb}
use Rattle.std.specs.Cmp.Lexicographic.{pointwise}
use Rattle.model.specs.Lists.{equal}
use Rattle.theorems.proofs.Lists.Scan.{test}

pub equal_pointwise : (xs ys : List ℕ) → pointwise eqb xs ys ≡ equal xs ys
unfolding equal
equal_pointwise [] [] = refl
equal_pointwise [] (y ∷ ys) = refl
equal_pointwise (x ∷ xs) [] = refl
equal_pointwise (x ∷ xs) (y ∷ ys) = test (eqb x y) (λ e. rw (e, equal_pointwise xs ys, equal)) (λ e. rw (e, equal))
