-- The walk across removed cells, hop by hop: it is at y (`At`); inside, a hop brings it nearer to its end (`at_more`), and outside it has
-- ended (`at_end`). The opposite side, as the code reads it.
use Prim.Native.Nat.{ℕ, ◌<◌}
use mathlib.Core.Path.{◌≡◌, sym, ap, ◌∙◌}
use mathlib.Core.Bool.{true, false}
use mathlib.Core.Logic.{◌≢◌}
use mathlib.Core.List.{List, [], ◌∷◌}
use borrow.Author.Tests.{ne_eqb}
use Rattle.model.specs.Table.{slots, link, walk}
use Rattle.model.specs.Remove.{opposite, marked, outside}
use Rattle.model.specs.Meaning.Walks.{Layer, hop}
use Rattle.theorems.proofs.Lists.Scan.{test}
use Rattle.theorems.proofs.Sets.Escape.{leave, steps_out, leave_stops, step_nearer}
use Rattle.theorems.proofs.Operations.Frame.{outside_stops}
use Rattle.theorems.proofs.Layers.Walk.{walk_ends, outside_leaves}
use Rattle.theorems.proofs.Layers.Remove.{next_lives}

-- ---- the opposite side

module _ (n : ℕ) (t : List ℕ) (y : ℕ) where
  pub opposite_solid : n ≡ 3 → walk t (opposite n) y ≡ link t 2 (walk t (1 ∷ 0 ∷ 1 ∷ []) (link t 2 y))
  unfolding opposite walk
  opposite_solid e = rw e

  pub opposite_flat : n ≢ 3 → walk t (opposite n) y ≡ walk t (1 ∷ 0 ∷ 1 ∷ []) y
  unfolding opposite
  opposite_flat e = rw (ne_eqb n 3 e, opposite)

-- ---- the walk

-- how many hops from y lead outside
abbrev pub hops_left : ℕ → List ℕ → List ℕ → ℕ → ℕ
hops_left n t m y = steps_out (marked m) (hop n t) (slots t) y

-- the walk from link n of x is at y
pub record At (n : ℕ) (t m : List ℕ) (x y : ℕ) : Type 0 where
  pub ends : leave (marked m) (hop n t) (slots t) y ≡ outside n t m (slots t) (link t n x)

pub at_first : (n : ℕ) (t m : List ℕ) (x : ℕ) → At n t m x (link t n x)
at_first n t m x = record { ends = sym (outside_leaves n t m (slots t) (link t n x)) }

module _ {n : ℕ} {t m : List ℕ} {x y : ℕ} (A : At n t m x y) where
  pub at_end : marked m y ≡ false → y ≡ outside n t m (slots t) (link t n x)
  at_end e = sym (leave_stops (marked m) (hop n t) (slots t) y e) ∙ A.ends

  module _ (L : Layer n t m) (out : marked m x ≡ false) where
    -- from a slot that is not marked it ends; from an unused one at once
    walk_out : marked m (outside n t m (slots t) (link t n x)) ≡ false
    walk_out = test (marked m (link t n x)) (λ e. (walk_ends L x (next_lives L x e) out).outside)
        (λ e. ap (marked m) (outside_stops n t m (slots t) (link t n x) e) ∙ e)

    pub at_more : marked m y ≡ true → At n t m x (hop n t y) × (hops_left n t m (hop n t y) < hops_left n t m y)
    at_more inside =
        let near = step_nearer (marked m) (hop n t) (slots t) y (ap (marked m) A.ends ∙ walk_out) inside in
        (record { ends = near.same ∙ A.ends }, near.fewer)
