-- What is reached on a wall is what a flood reaches by its steps: `wall_spread`. Where all darts are reached, they are as many
-- (`connected_by`), and else not.
use Prim.Native.Nat.{ℕ, ◌+◌, ◌-◌, ◌<◌, ◌≤◌}
use mathlib.Core.Path.{◌≡◌, refl, sym, ap, ◌∙◌}
use mathlib.Core.Logic.{◌≢◌, ◌↔◌, inl, inr}
use mathlib.Core.Bool.{true}
use mathlib.Core.List.{List}
use native.Mathlib.Omega.{arith}
use lib.ListN.{length, get_or}
use borrow.Author.Tests.{eq-eqb, ne_eqb, eqb-true}
use Rattle.model.specs.Lists.{count, ones}
use Rattle.model.specs.Table.{slots, link}
use Rattle.model.specs.Reach.{in_set}
use Rattle.model.specs.Wall.{next, wall_reached, connected}
use Rattle.model.specs.Meaning.Sets.{Marked}
use Rattle.model.specs.Meaning.Walls.{Drawn, WallStep}
use Rattle.theorems.proofs.Lists.Scan.{if_eq}
use Rattle.theorems.proofs.Lists.Ones.{get_or_in, ones_of, marked_pass}
use Rattle.theorems.proofs.Sets.Closure.{marked_in}
use Rattle.theorems.proofs.Sets.Sizes.{length_ones, size_into, size_within}
use Rattle.theorems.proofs.Insert.Turn.{next_on}
use Rattle.theorems.proofs.Insert.Wall.{some_dart, wall_reached_is}
use Rattle.reach.specs.Search.{Search}
use Rattle.reach.proofs.Flooding.{Step, Spread, Flooding, least_by, reached_on}
use Rattle.walls.specs.Given.{Closed, Nexts}
use Rattle.walls.specs.Steps.{step, Stepping}
use Rattle.walls.proofs.Nexting.{drawn_of}

module _ (n : ℕ) (t nx : List ℕ) (x : ℕ) where
  step_next : step n t nx (n - 1) x ≡ get_or nx x 0
  unfolding step
  step_next = rw (eq-eqb (n - 1) (n - 1) refl, step)

  step_link : (i : ℕ) → i ≢ n - 1 → step n t nx i x ≡ link t i x
  unfolding step
  step_link i e = rw (ne_eqb i (n - 1) e, step)

module _ {n : ℕ} {t m nx : List ℕ} (N : Nexts n t m nx) where
  abbrev C : Closed n t m
  C = N.closed

  abbrev D : Drawn n t m
  D = drawn_of C

  abbrev first : ℕ
  first = get_or (ones m) 0 0

  link_on : (x j : ℕ) → j ≤ n → j ≢ n - 1 → Marked m x → Marked m (link t j x)
  link_on x j b ne i = if_eq j n (λ e. rw e (D.over x i)) (λ e. D.along x j (omega arith) i)

  at_next : (x : ℕ) → Marked m x → step n t nx (n - 1) x ≡ next n t m x
  at_next x i = step_next n t nx x ∙ N.next x i

  step_on : (x j : ℕ) → Marked m x → j ≤ n → Marked m (step n t nx j x)
  step_on x j i b = if_eq j (n - 1)
      (λ e. rw (e, at_next x i) (next_on D x i)) (λ e. rw (step_link n t nx x j e) (link_on x j b e i))

  inside : (x : ℕ) → Marked m x → x < slots t
  inside x i = rw C.drawing.long at (marked_in m x i)

  -- what the steps of a dart ask
  pub stepping : (x : ℕ) → Marked m x → Stepping n t nx x
  stepping x i = let B = C.drawing.table in record {
    dim = B.dim;
    fits = B.whole;
    few = B.few;
    room = N.room;
    inside = inside x i;
    goes = λ j b. inside _ (step_on x j i b);
  }

  goes_on : (x y : ℕ) → Marked m x → WallStep n t m x y → Marked m y
  goes_on x y i (inl s) = rw s.leads (link_on x s.by s.allowed.0 s.allowed.1 i)
  goes_on x y i (inr e) = rw e (next_on D x i)

  same : (x y : ℕ) → Marked m x → WallStep n t m x y ↔ Step (λ _. true) (step n t nx) (n + 1) x y
  same x y i = (to, from)
    where
      to : WallStep n t m x y → Step (λ _. true) (step n t nx) (n + 1) x y
      to (inl s) =
          let (b, ne) = s.allowed in
          record { by = s.by; low = omega arith; permitted = refl; leads = s.leads ∙ sym (step_link n t nx x s.by ne) }
      to (inr e) = record { by = n - 1; low = omega arith; permitted = refl; leads = e ∙ sym (at_next x i) }

      from : Step (λ _. true) (step n t nx) (n + 1) x y → WallStep n t m x y
      from s =
          let low = s.low in
          if_eq s.by (n - 1)
          (λ e. inr (s.leads ∙ ap (λ j. step n t nx j x) e ∙ at_next x i))
          (λ e. inl (record { by = s.by; allowed = (omega arith, e); leads = s.leads ∙ step_link n t nx x s.by e }))

  start : Marked m first
  start =
      let G = C.drawing in
      ones_of m first (get_or_in (ones m) 0 0 (some_dart m G.table G.long G.drawn C.enclosed))

  pub wall_spread : (d : ℕ) → d ≡ first → Spread (slots t) (λ _. true) (step n t nx) (n + 1) (Marked m) d (wall_reached n t m)
  wall_spread d e = let B = C.drawing.table in rw e (record {
    below = inside;
    goes = λ x j i low _. step_on x j i (omega arith);
    start = start;
    least = least_by (Marked m) (λ x q. rw q start) goes_on same (wall_reached_is n t m B.dim B.whole);
  })

  -- ---- 32

  within : (x : ℕ) → Marked (wall_reached n t m) x → Marked m x
  within = reached_on (wall_spread first refl)

  -- all darts are reached exactly where those reached are as many
  pub connected_by : (count 1 (wall_reached n t m) ≡ length (ones m)) ↔ (connected n t m ≡ true)
  unfolding connected in_set
  connected_by = (
    λ e. (marked_pass (in_set r) m).1 (λ x i. eq-eqb _ _ (size_within r m within (omega (arith, length_ones m 0)) x i)),
    λ e.
        let all : (x : ℕ) → Marked m x → Marked r x = λ x i. eqb-true _ _ ((marked_pass (in_set r) m).0 e x i) in
        let less = size_into (λ x. x) r m (λ x y _ _ q. q) within in
        let more = size_into (λ x. x) m r (λ x y _ _ q. q) all in
        omega (arith, length_ones m 0),
  )
    where
      r : List ℕ
      r = wall_reached n t m

-- the flood from d, over each wall that nx is of and that begins with d
pub record Flooded (n : ℕ) (t nx : List ℕ) (d : ℕ) (s : Search) : Type 0 where
  pub each : (m : List ℕ) → Nexts n t m nx → d ≡ get_or (ones m) 0 0 → Flooding (slots t) d (wall_reached n t m) s
