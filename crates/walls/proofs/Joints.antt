-- 31 of one dart, from next alone: h ends free exactly where next(h) is h (`own_test`); the words that the code reads (`Joint`) decide it
-- (`joint_free`, `joint_flat`, `joint_solid`).
use Prim.Native.Nat.{ℕ}
use mathlib.Core.Path.{◌≡◌, refl, sym, ap, ◌∙◌}
use mathlib.Core.Logic.{inl, ◌≢◌}
use mathlib.Core.Bool.{Bool, true, false, not, ◌&&◌}
use mathlib.Core.List.{List}
use native.Mathlib.Omega.{arith}
use lib.Dec.{eqb}
use lib.ListN.{get_or}
use borrow.Author.Tests.{eq-eqb, ne_eqb}
use Rattle.model.specs.Table.{link}
use Rattle.model.specs.Wall.{ends_free, next, both_free, next_over, next_apart, turns_well}
use Rattle.model.specs.Meaning.Sets.{Marked}
use Rattle.model.specs.Meaning.Walls.{Drawn}
use Rattle.theorems.proofs.Lists.Scan.{test, clash, or_i}
use Rattle.theorems.proofs.Maps.Tables.{map_table, rule_at}
use Rattle.theorems.proofs.Insert.Turn.{next_on, next_own, next_free}
use Rattle.walls.specs.Given.{Closed, Nexts}
use Rattle.walls.proofs.Nexting.{drawn_of}

and_true : (a : Bool) → (a && true) ≡ a
and_true true = refl
and_true false = refl

regroup : (a b c d : Bool) → (((a && b) && c) && d) ≡ (a && (b && (c && d)))
regroup true true c d = refl
regroup true false c d = refl
regroup false b c d = refl

module _ {n : ℕ} {t m : List ℕ} (C : Closed n t m) (h : ℕ) (i : Marked m h) where
  abbrev D : Drawn n t m
  D = drawn_of C

  abbrev over : ℕ
  over = link t n h

  abbrev nx : ℕ → ℕ
  nx = next n t m

  own_test : (x : ℕ) → Marked m x → ends_free n t m x ≡ eqb (nx x) x
  own_test x k = test (ends_free n t m x)
      (λ e. e ∙ sym (eq-eqb _ _ ((next_own D x k).1 e)))
      (λ e. e ∙ sym (ne_eqb _ _ (λ q. clash ((next_own D x k).0 q) e)))

  both : both_free n t m h ≡ (eqb (nx h) h && eqb (nx over) over)
  unfolding both_free
  both = rw (own_test h i, own_test over (D.over h i))

  well_free : (eqb (nx h) h && eqb (nx over) over) ≡ true → turns_well n t m h ≡ true
  unfolding turns_well
  well_free e = or_i _ _ (inl (both ∙ e))

  -- where not both end free, and next(h).n = next(h.n), neither does
  level : Bool
  level = eqb (link t n (nx h)) (nx over)

  comes : (x : ℕ) → Marked m x → link t n (link t n x) ≡ x
  comes x k = let T = map_table C.drawing.table in let dim = T.dim in (rule_at T x (D.lives x k)).comes n (omega arith)

  over_level : (eqb (nx h) h && eqb (nx over) over) ≡ false → next_over n t m h ≡ level
  unfolding next_over level
  over_level e = test (ends_free n t m h) free met
    where
      free : ends_free n t m h ≡ true → next_over n t m h ≡ level
      free a =
          let own = next_free D h a in
          let off : link t n (nx h) ≢ nx over = λ q.
          clash (rw (eq-eqb (nx h) h own, eq-eqb (nx over) over (sym q ∙ ap (link t n) own))) e in
          rw (a, ne_eqb _ _ off)

      met : ends_free n t m h ≡ false → next_over n t m h ≡ level
      met a = test (ends_free n t m over)
          (λ b.
          let off : link t n (nx h) ≢ nx over = λ q.
          let same : nx h ≡ h
          = sym (comes (nx h) (next_on D h i)) ∙ ap (link t n) (q ∙ next_free D over b) ∙ comes h i in
          clash ((next_own D h i).0 same) a in
          rw (a, b, ne_eqb _ _ off))
          (λ b. rw (a, b))

  well_level : (eqb (nx h) h && eqb (nx over) over) ≡ false → turns_well n t m h ≡ (level && next_apart n t m h)
  unfolding turns_well
  well_level e = rw (both ∙ e, over_level e)

  apart_solid : n ≡ 3 → next_apart n t m h
      ≡ (not (eqb (nx h) over) && (not (eqb (nx h) (link t 0 h)) && not (eqb (nx h) (link t n (link t 0 h)))))
  unfolding next_apart
  apart_solid e = rw (eq-eqb n 3 e)

  apart_flat : n ≢ 3 → next_apart n t m h ≡ not (eqb (nx h) over)
  unfolding next_apart
  apart_flat e = rw (ne_eqb n 3 e, and_true)

-- the words read: next(h), h.n, next(h.n)
pub record Joint (n : ℕ) (t nx : List ℕ) (h a over b : ℕ) : Type 0 where
  pub a_is : a ≡ get_or nx h 0
  pub over_is : over ≡ link t n h
  pub b_is : b ≡ get_or nx over 0

module _ {n : ℕ} {t m nx : List ℕ} {h a over b : ℕ} (N : Nexts n t m nx) (i : Marked m h) (J : Joint n t nx h a over b) where
  abbrev C : Closed n t m
  C = N.closed

  a_next : a ≡ next n t m h
  a_next = J.a_is ∙ N.next h i

  b_next : b ≡ next n t m (link t n h)
  b_next = J.b_is ∙ ap (λ x. get_or nx x 0) J.over_is ∙ N.next (link t n h) ((drawn_of C).over h i)

  -- whether both end free
  ends : (eqb a h && eqb b over) ≡ (eqb (next n t m h) h && eqb (next n t m (link t n h)) (link t n h))
  ends = rw (a_next, b_next, J.over_is)

  pub joint_free : (eqb a h && eqb b over) ≡ true → true ≡ turns_well n t m h
  joint_free e = sym (well_free C h i (sym ends ∙ e))

  module _ (e : (eqb a h && eqb b over) ≡ false) (l : ℕ) (l_is : l ≡ link t n a) where
    other : turns_well n t m h ≡ (eqb (link t n (next n t m h)) (next n t m (link t n h)) && next_apart n t m h)
    unfolding level
    other = well_level C h i (sym ends ∙ e)

    pub joint_flat : n ≢ 3 → (eqb l b && not (eqb a over)) ≡ turns_well n t m h
    joint_flat flat = rw (l_is, a_next, b_next, J.over_is, other, apart_flat C h i flat)

    pub joint_solid : n ≡ 3 → (along far : ℕ) → along ≡ link t 0 h → far ≡ link t n along
        → (((eqb l b && not (eqb a over)) && not (eqb a along)) && not (eqb a far)) ≡ turns_well n t m h
    joint_solid solid along far along_is far_is =
        regroup (eqb l b) _ _ _ ∙ rw (l_is, far_is, along_is, a_next, b_next, J.over_is, other, apart_solid C h i solid)
