-- A walk whose step is one-to-one on a set of slots, and that begins where no step of the set leads, leaves the set: `escapes`.
-- A walk that leaves comes nearer to its end with each step: `step_nearer`.
use Prim.Native.Nat.{ℕ, zero, suc, ◌+◌, ◌≤◌, ◌<◌}
use mathlib.Core.Path.{◌≡◌, refl, sym, ap, ◌∙◌}
use mathlib.Core.Logic.{◌⊎◌, inl, inr, ⊎_elim}
use mathlib.Core.Bool.{Bool, true, false}
use mathlib.Core.List.Memᴰ.{cases_cons as in-cons}
use mathlib.Core.List.Memᴰ.{not-nil}
use mathlib.Core.List.{List, [], ◌∷◌, Memᴰ as In}
use mathlib.Core.List.Memᴰ.{cast as in-cast}
use mathlib.Core.List.Memᴰ.{head as here}
use mathlib.Core.List.Memᴰ.{tail as there}
use native.Mathlib.Omega.{arith}
use lib.ListN.{length, replicate, get_or-replicate}
use Rattle.model.specs.Lists.{count}
use Rattle.model.specs.Meaning.Lists.{Distinct, none, more}
use Rattle.theorems.proofs.Lists.Scan.{test, clash}
use Rattle.theorems.proofs.Sets.Pigeon.{distinct_le}

count_ones : (n : ℕ) → count 1 (replicate n 1) ≡ n
unfolding count
count_ones zero = refl
count_ones (suc n) = ap suc (count_ones n)

-- distinct numbers below n are at most n
distinct_below : (n : ℕ) (l : List ℕ) → Distinct l → ((x : ℕ) → In x l → x < n) → length l ≤ n
distinct_below n l d h = rw count_ones at (distinct_le l (replicate n 1) d (λ x i. get_or-replicate n x 1 0 (h x i)))

-- the first of y, step y, step (step y), .. that is not in the set, or the last one where the fuel ends
unfoldable pub leave : (ℕ → Bool) → (ℕ → ℕ) → ℕ → ℕ → ℕ
leave set step zero y = y
leave set step (suc fuel) y = elim (set y) [ true ↦ leave set step fuel (step y) | false ↦ y ]

-- the step is one-to-one on a set of numbers below `size`, and leads from none of them to the start
pub record OneWay (size : ℕ) (set : ℕ → Bool) (step : ℕ → ℕ) (start : ℕ) : Type 0 where
  pub below : (y : ℕ) → set y ≡ true → y < size
  pub one : (y z : ℕ) → set y ≡ true → set z ≡ true → step y ≡ step z → y ≡ z
  pub first : (y : ℕ) → set y ≡ true → step y ≡ start → ⊥

module _ {size : ℕ} {set : ℕ → Bool} {step : ℕ → ℕ} {start : ℕ} (way : OneWay size set step start) where
  -- the numbers met, the last one first
  data Trail : List ℕ → Type 0 where
    begin : Trail (start ∷ [])
    on : {z : ℕ} {l : List ℕ} → set z ≡ true → Trail (z ∷ l) → Trail (step z ∷ z ∷ l)

  -- a number met is the start, or the step from one met before
  Stepped : List ℕ → ℕ → Type 0
  Stepped l w = (w ≡ start) ⊎ ((v : ℕ) × In v l × (w ≡ step v))

  trail_step : {z : ℕ} {l : List ℕ} → Trail (z ∷ l) → (w : ℕ) → In w (z ∷ l) → Stepped l w
  unfolding Stepped
  trail_step begin w i = ⊎_elim inl (λ j. absurd (not-nil j)) (in-cons i)
  trail_step (on {z = z} {l = l} r t) w i =
      let rec : In w (z ∷ l) → Stepped l w = λ j. trail_step t w j in
      ⊎_elim (λ (e : w ≡ step z). inr (z, here refl, e))
      (λ (j : In w (z ∷ l)). ⊎_elim inl (λ k. inr (k.0, there k.1, k.2)) (rec j)) (in-cons i)

  trail_in : {z : ℕ} {l : List ℕ} → Trail (z ∷ l) → (v : ℕ) → In v l → set v ≡ true
  trail_in begin v i = absurd (not-nil i)
  trail_in (on r t) v i = ⊎_elim (λ e. ap set e ∙ r) (λ j. trail_in t v j) (in-cons i)

  trail_distinct : {z : ℕ} {l : List ℕ} → Trail (z ∷ l) → Distinct (z ∷ l)
  unfolding Stepped
  trail_distinct begin = more not-nil none
  trail_distinct (on {z = z} {l = l} r t) = let d = trail_distinct t in more (λ i. new d (trail_step t (step z) i)) d
    where
      apart : Distinct (z ∷ l) → In z l → ⊥
      apart (more k d) = k

      new : Distinct (z ∷ l) → Stepped l (step z) → ⊥
      new d (inl e) = way.first z r e
      new d (inr k) = apart d (in-cast (way.one z k.0 r (trail_in t k.0 k.1) k.2) k.1)

  trail_short : {z : ℕ} {l : List ℕ} → Trail (z ∷ l) → set z ≡ true → length (z ∷ l) ≤ size
  trail_short {z} {l} t r = distinct_below size (z ∷ l) (trail_distinct t)
      (λ x i. ⊎_elim (λ (e : x ≡ z). way.below x (ap set e ∙ r)) (λ (j : In x l). way.below x (trail_in t x j)) (in-cons i))

  leave_out : (fuel y : ℕ) (l : List ℕ) → Trail (y ∷ l) → size < fuel + length (y ∷ l) → set (leave set step fuel y) ≡ false
  unfolding leave
  leave_out zero y l t s = test (set y) (λ e. let a = trail_short t e in absurd (omega arith)) (λ e. e)
  leave_out (suc fuel) y l t s =
      let rec = leave_out fuel (step y) (y ∷ l) in
      test (set y) (λ e. rw (e, leave) (rec (on e t) (omega arith))) (λ e. rw (e, leave) e)

  pub escapes : set (leave set step size start) ≡ false
  escapes = leave_out size start [] begin (omega arith)

-- ---- the walk step by step

-- how many steps from y lead out of the set, of as many as the fuel allows
unfoldable pub steps_out : (ℕ → Bool) → (ℕ → ℕ) → ℕ → ℕ → ℕ
steps_out set step zero y = 0
steps_out set step (suc fuel) y = elim (set y) [ true ↦ suc (steps_out set step fuel (step y)) | false ↦ 0 ]

module _ (set : ℕ → Bool) (step : ℕ → ℕ) where
  -- the walk from y leaves the set within the fuel
  abbrev pub Leaves : ℕ → ℕ → Type 0
  Leaves fuel y = set (leave set step fuel y) ≡ false

  pub leave_stops : (fuel y : ℕ) → set y ≡ false → leave set step fuel y ≡ y
  unfolding leave
  leave_stops zero y e = refl
  leave_stops (suc fuel) y e = rw (e, leave)

  leave_on : (fuel y : ℕ) → set y ≡ true → leave set step (suc fuel) y ≡ leave set step fuel (step y)
  unfolding leave
  leave_on fuel y e = rw (e, leave)

  steps_on : (fuel y : ℕ) → set y ≡ true → steps_out set step (suc fuel) y ≡ suc (steps_out set step fuel (step y))
  unfolding steps_out
  steps_on fuel y e = rw (e, steps_out)

  -- more fuel than it takes changes nothing
  more_fuel : (fuel y : ℕ) → Leaves fuel y
      → (leave set step (suc fuel) y ≡ leave set step fuel y) × (steps_out set step (suc fuel) y ≡ steps_out set step fuel y)
  unfolding leave steps_out
  more_fuel zero y e = (leave_stops 1 y e, rw (e, steps_out))
  more_fuel (suc fuel) y e =
      let rec = more_fuel fuel (step y) in
      test (set y)
      (λ h.
      let on = leave_on fuel y h in
      let (same, near) = rec (ap set (sym on) ∙ e) in
      (leave_on (suc fuel) y h ∙ same ∙ sym on, steps_on (suc fuel) y h ∙ ap suc near ∙ sym (steps_on fuel y h)))
      (λ h. (leave_stops (suc (suc fuel)) y h ∙ sym (leave_stops (suc fuel) y h), rw (h, steps_out)))

  -- the walk ends where it ends from y, and fewer steps are left from z
  pub record Nearer (fuel y z : ℕ) : Type 0 where
    pub same : leave set step fuel z ≡ leave set step fuel y
    pub fewer : steps_out set step fuel z < steps_out set step fuel y

  pub step_nearer : (fuel y : ℕ) → Leaves fuel y → set y ≡ true → Nearer fuel y (step y)
  unfolding leave
  step_nearer zero y e h = absurd (clash h e)
  step_nearer (suc fuel) y e h =
      let on = leave_on fuel y h in
      let (same, near) = more_fuel fuel (step y) (ap set (sym on) ∙ e) in
      let far = steps_on fuel y h in
      record { same = same ∙ sym on; fewer = omega arith }
