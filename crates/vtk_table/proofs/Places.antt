-- The numbering of a cell, as the code works it out: the walks round its faces, and the steps from each of their places.
use Prim.Native.Nat.{ℕ, suc, ◌+◌, ◌*◌, ◌-◌, ◌/◌, ◌%◌, ◌<◌}
use mathlib.Core.Path.{◌≡◌, refl, sym, ◌∙◌}
use mathlib.Core.Logic.{◌≢◌}
use mathlib.Core.Bool.{true}
use mathlib.Core.List.{List}
use native.Mathlib.Omega.{arith}
use lib.ListN.{length, get_or, set}
use lib.Seq.{get_or-set_same, get_or-set_other}
use lib.Dec.{eqb, ltb}
use borrow.Author.Tests.{eqb-true, ltb-true}
use Rattle.model.specs.Lists.{least, all_below, any_of}
use Rattle.model.specs.Everything.{everything}
use Rattle.model.specs.Numbering.{cell_link}
use Rattle.model.specs.Faces.{listed_at, onward, sites, face_darts, among, same_four}
use Rattle.theorems.proofs.Lists.Scan.{if_eq, below_at, least_is}
use Rattle.theorems.proofs.Vtk.Faces.{face_of}
use Rattle.vtk_faces.specs.Walks.{face_walk, walk_at, walk_dart}
use Rattle.vtk_faces.proofs.Walks.{walk_low, place_low, walk_dart_lem}
use Rattle.vtk_table.specs.Cells.{step_at, first_dart}

-- ---- round a face

pub first_dart_lem : (c f : ℕ) → f < 6 → first_dart (6 * c + f) ≡ 48 * c + get_or face_darts f 0
unfolding first_dart
first_dart_lem c f low =
    let cell : (6 * c + f) / 6 ≡ c = omega arith in
    let face : (6 * c + f) % 6 ≡ f = omega arith in
    rw (cell, face)

pub walk_first : (p : ℕ) → walk_dart (8 * p) ≡ first_dart p
unfolding first_dart face_walk
walk_first p = let none : 8 * p ≡ 8 * p + 0 = omega arith in rw none (walk_dart_lem p 0 (omega arith))

-- how many steps lead to the dart k from the first of its face
unfoldable pub steps_to : ℕ → ℕ
steps_to k = least 8 (λ i. eqb (face_walk i (get_or face_darts (face_of k) 0)) k)

steps_true : all_below 48 (λ k. ltb (steps_to k) 8) ≡ true
unfolding everything steps_to face_of same_four among any_of sites onward listed_at face_walk face_darts
steps_true = refl

module _ (k : ℕ) (low : k < 48) where
  pub steps_low : steps_to k < 8
  steps_low = ltb-true _ _ (below_at (λ k. ltb (steps_to k) 8) 48 steps_true k low)

  pub steps_lead : face_walk (steps_to k) (get_or face_darts (face_of k) 0) ≡ k
  unfolding steps_to
  steps_lead = eqb-true _ _ ((least_is (λ i. eqb (face_walk i (get_or face_darts (face_of k) 0)) k) 8).passes steps_low)

-- ---- the steps from each place

pub step_low : (y : ℕ) → y < 384 → step_at y < 48
unfolding step_at
step_low y low = walk_low (y % 8) (walk_at (y / 8)) (place_low (y / 8) (omega arith))

pub step_place_lem : (x i : ℕ) → i < 8 → step_at (8 * x + i) ≡ face_walk i (walk_at x)
unfolding step_at
step_place_lem x i low =
    let place : (8 * x + i) / 8 ≡ x = omega arith in
    let step : (8 * x + i) % 8 ≡ i = omega arith in
    rw (place, step)

pub step_face : (f i : ℕ) → i < 8 → step_at (64 * f + i) ≡ face_walk i (get_or face_darts f 0)
unfolding walk_at face_walk
step_face f i low =
    let place : 64 * f + i ≡ 8 * (8 * f) + i = omega arith in
    let face : 8 * f / 8 ≡ f = omega arith in
    let first : 8 * f % 8 ≡ 0 = omega arith in
    rw place (step_place_lem (8 * f) i low ∙ rw (walk_at, face, first))

module _ (y : ℕ) where
  -- the first place of a face
  pub step_first : y % 64 ≡ 0 → get_or face_darts (y / 64) 0 ≡ step_at y
  unfolding face_walk
  step_first none =
      let is : 64 * (y / 64) + 0 ≡ y = omega arith in
      sym (rw is at (step_face (y / 64) 0 (omega arith)))

  -- another place, from the first of its face
  pub step_along : y % 8 ≡ 0 → step_at (64 * (y / 64) + y / 8 % 8) ≡ step_at y
  unfolding walk_at face_walk
  step_along none =
      let is : 8 * (y / 8) + 0 ≡ y = omega arith in
      let face : y / 8 / 8 ≡ y / 64 = omega arith in
      step_face (y / 64) (y / 8 % 8) (omega arith) ∙ sym (rw is at (step_place_lem (y / 8) 0 (omega arith)) ∙ rw (walk_at, face))

  -- a step from a place, by link i
  pub step_next : (i : ℕ) → i ≡ (y - 1) % 2 → y % 8 ≢ 0 → cell_link 3 i (step_at (y - 1)) ≡ step_at y
  unfolding step_at face_walk
  step_next i is some =
      let place : y / 8 ≡ (y - 1) / 8 = omega arith in
      let step : y % 8 ≡ suc ((y - 1) % 8) = omega arith in
      let index : (y - 1) % 8 % 2 ≡ i = omega arith in
      sym (rw (step_at, place, step) (rw index))

-- ---- a list filled from its first element on

pub fill_more : (f : ℕ → ℕ) (l : List ℕ) (x : ℕ) → x < length l → ((y : ℕ) → y < x → get_or l y 0 ≡ f y) → (v : ℕ) → v ≡ f x
    → (y : ℕ) → y < x + 1 → get_or (set l x v) y 0 ≡ f y
fill_more f l x low are v is y h = if_eq y x
    (λ e. rw e (get_or-set_same l x v 0 low ∙ is))
    (λ e. get_or-set_other l x y v 0 e ∙ are y (omega arith))
