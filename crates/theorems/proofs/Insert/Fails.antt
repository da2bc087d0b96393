-- When each test of a wall fails, in R-5's words: `drawn_false` (28), `enclosed_false` (29), `sewn_wall_false` (30), `turns_false` (31),
-- `connected_false` (32).
use Prim.Native.Nat.{ℕ, suc, ◌-◌, ◌<◌}
use mathlib.Core.Path.{◌≡◌, refl, sym, ap, ◌∙◌}
use mathlib.Core.Logic.Iff
use mathlib.Core.Logic.{◌⊎◌, inl, inr, ◌↔◌, ⊎_elim}
use mathlib.Core.Bool.{Bool, true, false, not, ◌&&◌, ◌||◌}
use mathlib.Core.List.{List}
use native.Mathlib.Omega.{arith}
use lib.ListN.{length, get_or}
use lib.Dec.{eqb, ltb}
use borrow.Author.Tests.{eqb-true, eqb-false, eq-eqb, ne_eqb, ltb-true, lt-ltb, not-true}
use Rattle.model.specs.Lists.{ones, all_below, all_of}
use Rattle.model.specs.Table.{slots, link, live}
use Rattle.model.specs.Reach.{in_set}
use Rattle.model.specs.Wall.{ends_free, next, drawn, closed_at, enclosed, sewn_wall, both_free, next_over, next_apart, turns_well}
use Rattle.model.specs.Wall.{wall_reached, connected}
use Rattle.model.specs.Meaning.Sets.{Marked}
use Rattle.model.specs.Meaning.Walls.{BadMark, other, dead, Leaves, Joint, Needed, Drawn}
use Rattle.theorems.proofs.Lists.Scan.{test, if_eq, clash, and_l, and_r, and_i, or_cases, or_i, or_false, below_at, below_not}
use Rattle.theorems.proofs.Lists.Ones.{get_or_in, index_in, ones_of, ones_in, marked_fail}
use Rattle.theorems.proofs.Calls.Tests.{not_fails, and_fails, eqb_fails, eqb_holds, test_fails, one_of}
use Rattle.theorems.proofs.Insert.Turn.{free_exactly, next_exactly}
use Rattle.theorems.proofs.Insert.Wall.{apart_exactly}

-- ---- 28: "mark not 0 or 1 or a marked dead slot"

module _ (t m : List ℕ) where
  bad_exactly : (d : ℕ) → ((eqb (get_or m d 0) 0 || (eqb (get_or m d 0) 1 && live t d)) ≡ false) ↔ BadMark t m d
  bad_exactly d = (to, from)
    where
      to : (eqb (get_or m d 0) 0 || (eqb (get_or m d 0) 1 && live t d)) ≡ false → BadMark t m d
      to h =
          let (a, b) = or_false (eqb (get_or m d 0) 0) _ h in
          if_eq (get_or m d 0) 1
          (λ e. dead e (rw (eq-eqb (get_or m d 0) 1 e) at b)) (λ e. other (eqb-false _ _ a) e)

      from : BadMark t m d → (eqb (get_or m d 0) 0 || (eqb (get_or m d 0) 1 && live t d)) ≡ false
      from (other a b) = rw (ne_eqb (get_or m d 0) 0 a, ne_eqb (get_or m d 0) 1 b)
      from (dead a b) = rw (a, b)

  pub drawn_false : (drawn t m ≡ false) ↔ ((d : ℕ) × (d < slots t) × BadMark t m d)
  unfolding drawn
  drawn_false = (
    λ h. let (d, b, e) = below_not row (slots t) h in (d, b, (bad_exactly d).0 e),
    λ (d, b, e). test (all_below (slots t) row) (λ h. absurd (clash (below_at row (slots t) h d b) ((bad_exactly d).1 e))) (λ h. h),
  )
    where
      row : ℕ → Bool
      row d = eqb (get_or m d 0) 0 || (eqb (get_or m d 0) 1 && live t d)

-- ---- 29: "empty or not closed"

module _ (n : ℕ) (t m : List ℕ) where
  -- a test of each marked dart, by what its failing says
  marked_exactly : {P : ℕ → Type 0} (p : ℕ → Bool) → ((h : ℕ) → Marked m h → (p h ≡ false) ↔ P h)
      → (all_of p (ones m) ≡ false) ↔ ((h : ℕ) × Marked m h × P h)
  marked_exactly p f = Iff.trans (marked_fail p m) (λ (h, i, e). (h, i, (f h i).0 e), λ (h, i, e). (h, i, (f h i).1 e))

  leaves_exactly : (h : ℕ) → (closed_at n t m h ≡ false) ↔ Leaves n t m h
  unfolding closed_at in_set
  leaves_exactly h = (
    λ e.
        let (j, b, f) = below_not row (suc n) e in
        let (a, c) = or_false (eqb j (n - 1)) _ f in
        (j, omega arith, eqb-false _ _ a, eqb-false _ _ c),
    λ (j, b, ne, off). test (all_below (suc n) row)
        (λ e. absurd (clash (below_at row (suc n) e j (omega arith)) (rw (ne_eqb j (n - 1) ne, ne_eqb _ 1 off)))) (λ e. e),
  )
    where
      row : ℕ → Bool
      row j = eqb j (n - 1) || eqb (get_or m (link t j h) 0) 1

  some_exactly : (ltb 0 (length (ones m)) ≡ false) ↔ ((h : ℕ) → Marked m h → ⊥)
  some_exactly = (
    λ e h i. clash (lt-ltb 0 (length (ones m)) (let b = index_in (ones m) h (ones_in m h i) in omega arith)) e,
    λ none. test (ltb 0 (length (ones m)))
        (λ e. absurd (none _ (ones_of m _ (get_or_in (ones m) 0 0 (ltb-true _ _ e))))) (λ e. e),
  )

  pub enclosed_false : (enclosed n t m ≡ false) ↔ (((h : ℕ) → Marked m h → ⊥) ⊎ ((h : ℕ) × Marked m h × Leaves n t m h))
  unfolding enclosed
  enclosed_false = Iff.trans (and_fails (ltb 0 (length (ones m))) _)
      (one_of some_exactly (marked_exactly (closed_at n t m) (λ h _. leaves_exactly h)))

  -- ---- 30: "free side in the wall"

  pub sewn_wall_false : (sewn_wall n t m ≡ false) ↔ ((h : ℕ) × Marked m h × (link t n h ≡ h))
  unfolding sewn_wall
  sewn_wall_false =
      marked_exactly (λ h. not (eqb (link t n h) h)) (λ h _. Iff.trans (not_fails _) (eqb_holds (link t n h) h))

  -- ---- 31

  module _ (D : Drawn n t m) where
    turns_exactly : (h : ℕ) → Marked m h → (turns_well n t m h ≡ true) ↔ Needed n t m h
    unfolding turns_well both_free next_over
    turns_exactly h i = (to, from)
      where
        i' : Marked m (link t n h)
        i' = D.over h i

        both : Bool
        both = ends_free n t m h && ends_free n t m (link t n h)

        neither : Bool
        neither = not (ends_free n t m h) && not (ends_free n t m (link t n h))

        level : Bool
        level = eqb (link t n (next n t m h)) (next n t m (link t n h))

        joint : ((neither && level) && next_apart n t m h) ≡ true → Joint n t m h (next n t m h)
        joint e =
            let met = and_l neither level (and_l (neither && level) _ e) in
            let same = eqb-true _ _ (and_r neither level (and_l (neither && level) _ e)) in
            let clear = (apart_exactly n t m h).0 (and_r (neither && level) _ e) in
            record {
              here = (next_exactly D h i _).0 (not-true _ (and_l (not (ends_free n t m h)) _ met), refl);
              there = (next_exactly D (link t n h) i' _).0 (not-true _ (and_r (not (ends_free n t m h)) _ met), sym same);
              over = clear.0;
              along = clear.1;
            }

        to : turns_well n t m h ≡ true → Needed n t m h
        to e = ⊎_elim
            (λ f. inl (
              (free_exactly D h i).0 (and_l (ends_free n t m h) _ f),
              (free_exactly D (link t n h) i').0 (and_r (ends_free n t m h) _ f),
            ))
            (λ f. inr (next n t m h, joint f)) (or_cases both _ e)

        joined : (z : ℕ) → Joint n t m h z → ((neither && level) && next_apart n t m h) ≡ true
        joined z g =
            let (a, at) = (next_exactly D h i z).1 g.here in
            let (b, at') = (next_exactly D (link t n h) i' (link t n z)).1 g.there in
            let clear = (apart_exactly n t m h).1 (rw at (g.over, g.along)) in
            and_i (and_i (and_i (ap not a) (ap not b)) (eq-eqb _ _ (ap (link t n) at ∙ sym at'))) clear

        from : Needed n t m h → turns_well n t m h ≡ true
        from (inl (a, b)) = or_i both _ (inl (and_i ((free_exactly D h i).1 a) ((free_exactly D (link t n h) i').1 b)))
        from (inr (z, g)) = or_i both _ (inr (joined z g))

    -- "what is needed of next fails"
    pub turns_false : (all_of (turns_well n t m) (ones m) ≡ false) ↔ ((h : ℕ) × Marked m h × (Needed n t m h → ⊥))
    turns_false = marked_exactly (turns_well n t m) (λ h i. test_fails _ (turns_exactly h i))

  -- ---- 32: "not connected"; `wall_reached_is` (Insert/Wall) says what is reached

  pub connected_false : (connected n t m ≡ false) ↔ ((h : ℕ) × Marked m h × (Marked (wall_reached n t m) h → ⊥))
  unfolding connected in_set
  connected_false = marked_exactly (in_set (wall_reached n t m)) (λ h _. eqb_fails _ 1)
