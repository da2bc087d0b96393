-- The value behind a key.
use Prim.Native.Nat.{ℕ}
use mathlib.Core.Path.{◌≡◌, refl, sym, ◌∙◌}
use mathlib.Core.Bool.{Bool, true, false}
use mathlib.Core.List.{List, [], ◌∷◌}
use mathlib.Core.Option.{Option, none}
use lib.ListN.{length, take, drop}
use lib.Dec.{eqb}
use Rattle.std.specs.Cmp.Lexicographic.{pointwise}
use Rattle.model.specs.Lists.{equal}
use Rattle.model.specs.Text.{begins}
use Rattle.model.specs.Session.{behind}
use Rattle.theorems.proofs.Lists.Scan.{test}
use Rattle.theorems.proofs.History.Record.{eqb_comm}
use Rattle.texts.proofs.Comparing.{equal_pointwise}

equal_back : (xs ys : List ℕ) → equal ys xs ≡ equal xs ys
unfolding equal
equal_back [] [] = refl
equal_back [] (y ∷ ys) = refl
equal_back (x ∷ xs) [] = refl
equal_back (x ∷ xs) (y ∷ ys) =
    test (eqb x y)
    (λ e. let f : eqb y x ≡ true = eqb_comm x y ∙ e in rw (equal, e, f) (equal_back xs ys))
    (λ e. let f : eqb y x ≡ false = eqb_comm x y ∙ e in rw (equal, e, f))

module _ (key : List ℕ) (value : List ℕ → Option ℕ) (xs : List ℕ) where
  starts : (b : Bool) → pointwise eqb (take (length key) xs) key ≡ b → begins key xs ≡ b
  unfolding begins
  starts b e = equal_back (take (length key) xs) key ∙ sym (equal_pointwise (take (length key) xs) key) ∙ e

  pub behind_other : pointwise eqb (take (length key) xs) key ≡ false → none ≡ behind key value xs
  unfolding behind
  behind_other e = rw (starts false e, behind)

  -- the part of the line from the key on
  pub behind_key : pointwise eqb (take (length key) xs) key ≡ true → value (drop (length key) xs) ≡ behind key value xs
  unfolding behind
  behind_key e = rw (starts true e, behind)
