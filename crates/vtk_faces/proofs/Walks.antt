-- The way round the faces of a cell: it stays in the cell, and where the darts of a face have their places.
-- Main theorems: `walk_low`, `walk_dart_lem`.
use Prim.Native.Nat.{ℕ, zero, suc, ◌+◌, ◌*◌, ◌/◌, ◌%◌, ◌<◌}
use mathlib.Core.Path.{◌≡◌, refl}
use mathlib.Core.Bool.{true}
use native.Mathlib.Omega.{arith}
use lib.ListN.{get_or}
use lib.Dec.{ltb}
use borrow.Author.Tests.{ltb-true}
use Rattle.model.specs.Lists.{all_below}
use Rattle.model.specs.Everything.{everything}
use Rattle.model.specs.Faces.{face_darts}
use Rattle.theorems.proofs.Lists.Scan.{below_at}
use Rattle.theorems.proofs.Vtk.Sites.{link_low}
use Rattle.vtk_faces.specs.Walks.{face_walk, walk_at, walk_dart}

firsts_true : all_below 6 (λ f. ltb (get_or face_darts f 0) 48) ≡ true
unfolding everything face_darts
firsts_true = refl

-- the first dart of a face
pub first_low : (f : ℕ) → f < 6 → get_or face_darts f 0 < 48
first_low f low = ltb-true _ _ (below_at (λ f. ltb (get_or face_darts f 0) 48) 6 firsts_true f low)

pub walk_low : (i k : ℕ) → k < 48 → face_walk i k < 48
unfolding face_walk
walk_low zero k h = h
walk_low (suc i) k h = link_low (i % 2) (face_walk i k) (omega arith) (walk_low i k h)

pub place_low : (x : ℕ) → x < 48 → walk_at x < 48
unfolding walk_at
place_low x low = walk_low (x % 8) _ (first_low (x / 8) (omega arith))

module _ (x : ℕ) where
  pub dart_cell : walk_dart x / 48 ≡ x / 48
  unfolding walk_dart
  dart_cell = let low = place_low (x % 48) (omega arith) in omega arith

  pub dart_place : walk_dart x % 48 ≡ walk_at (x % 48)
  unfolding walk_dart
  dart_place = let low = place_low (x % 48) (omega arith) in omega arith

-- the place of the j-th dart of the face at the position p
pub walk_dart_lem : (p j : ℕ) → j < 8 → walk_dart (8 * p + j) ≡ 48 * (p / 6) + face_walk j (get_or face_darts (p % 6) 0)
unfolding walk_dart walk_at
walk_dart_lem p j low =
    let cell : (8 * p + j) / 48 ≡ p / 6 = omega arith in
    let face : (8 * p + j) % 48 / 8 ≡ p % 6 = omega arith in
    let step : (8 * p + j) % 48 % 8 ≡ j = omega arith in
    rw (cell, face, step)
