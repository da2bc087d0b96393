-- The search for a face among the readings of another, two to a turn (`Seeking`).
-- Main theorems: `found_here`, `found_across`, `found_none`.
use Prim.Native.Nat.{ℕ, zero, suc, ◌+◌, ◌*◌, ◌%◌, ◌≤◌, ◌<◌}
use mathlib.Core.Path.{◌≡◌, refl, sym, ap, ◌∙◌}
use mathlib.Core.Bool.{true, false, ◌&&◌}
use mathlib.Core.List.{List, [], ◌∷◌}
use native.Mathlib.Omega.{arith}
use lib.Dec.{eqb}
use Rattle.std.specs.Prelude.{Some, None}
use Rattle.model.specs.Lists.{equal}
use Rattle.model.specs.Faces.{round, same_order}
use Rattle.theorems.proofs.Lists.Scan.{test, clash, if_eq, if_lt, below_eight}
use Rattle.theorems.proofs.Vtk.Sites.{equal_is, flipped, round_own}
use Rattle.theorems.proofs.Vtk.Readings.{read_from, order_none, none_order}
use Rattle.vtk_faces.specs.declared.Face.{Face}
use Rattle.vtk_faces.specs.Faces.{four}
use Rattle.vtk_faces.specs.Walks.{face_walk}
use Rattle.vtk_faces.specs.Turns.{turn_back, TurnOf}
use Rattle.vtk_faces.proofs.Walks.{walk_low}

-- ---- two faces compared

pub equal_four : (r w : Face) → (eqb r.a w.a && (eqb r.b w.b && (eqb r.c w.c && eqb r.d w.d))) ≡ equal (four r) (four w)
unfolding equal
equal_four r w =
    test (eqb r.a w.a) (λ q. rw (q, equal) (
    test (eqb r.b w.b) (λ q. rw (q, equal) (
    test (eqb r.c w.c) (λ q. rw (q, equal) (
    test (eqb r.d w.d) (λ q. rw (q, equal)) (λ q. rw (q, equal)))) (λ q. rw (q, equal)))) (λ q. rw (q, equal)))) (λ q. rw (q, equal))

-- ---- the readings

walk_reads : (row : List ℕ) (k : ℕ) → k < 48 → (j : ℕ) → round row (face_walk j k) ≡ read_from j (round row k)
unfolding face_walk read_from
walk_reads row k low zero = refl
walk_reads row k low (suc j) =
    round_own row (j % 2) (face_walk j k) (omega arith) (walk_low j k low) ∙ ap (flipped (j % 2)) (walk_reads row k low j)

module _ (a b c d : ℕ) (w : List ℕ) where
  abbrev s : List ℕ
  s = a ∷ b ∷ c ∷ d ∷ []

  -- ---- the way back

  read_back : (r : ℕ) → r < 8 → read_from (turn_back r) (read_from r s) ≡ s
  unfolding read_from flipped turn_back
  read_back = below_eight (λ r. read_from (turn_back r) (read_from r s) ≡ s) refl refl refl refl refl refl refl refl

  -- ---- w is one of them, or none

  found : (r : ℕ) → r < 8 → equal (read_from r s) w ≡ true → TurnOf s w (Some r)
  found r low h =
      let is = equal_is _ _ h in
      record {
        order = test (same_order s w) (λ e. e) (λ e. absurd (clash h (order_none a b c d w e r low)));
        leads = record {
          few = low;
          on = λ row k l e. sym is ∙ ap (read_from r) e ∙ sym (walk_reads row k l r);
          back = λ row k l e.
              sym (read_back r low) ∙ ap (read_from (turn_back r)) (is ∙ e) ∙ sym (walk_reads row k l (turn_back r));
        };
      }

  not_found : ((i : ℕ) → i < 8 → equal (read_from i s) w ≡ false) → TurnOf s w None
  not_found none = record { order = none_order a b c d w none; leads = tt }

-- ---- the search

-- after some turns from s, the reading is `here`, and none before it is w
pub record Seeking (s w here : List ℕ) (turn : ℕ) : Type 0 where
  here_is : here ≡ read_from (2 * turn) s
  none : (i : ℕ) → i < 2 * turn → equal (read_from i s) w ≡ false

pub seeking_first : (s w : List ℕ) → Seeking s w s 0
unfolding read_from
seeking_first s w = record { here_is = refl; none = λ i h. absurd (omega arith) }

module _ {s w : List ℕ} {a b c d turn : ℕ} (S : Seeking s w (a ∷ b ∷ c ∷ d ∷ []) turn) where
  across_is : b ∷ a ∷ d ∷ c ∷ [] ≡ read_from (2 * turn + 1) s
  unfolding read_from flipped
  across_is =
      let next : 2 * turn + 1 ≡ suc (2 * turn) = omega arith in
      let even : 2 * turn % 2 ≡ 0 = omega arith in
      rw (next, even) (ap (flipped 0) S.here_is)

  next_is : b ∷ c ∷ d ∷ a ∷ [] ≡ read_from (2 * (turn + 1)) s
  unfolding read_from flipped
  next_is =
      let next : 2 * (turn + 1) ≡ suc (2 * turn + 1) = omega arith in
      let odd : (2 * turn + 1) % 2 ≡ 1 = omega arith in
      rw (next, odd) (ap (flipped 1) across_is)

  here_test : equal (read_from (2 * turn) s) w ≡ equal (a ∷ b ∷ c ∷ d ∷ []) w
  here_test = ap (λ (l : List ℕ). equal l w) (sym S.here_is)

  across_test : equal (read_from (2 * turn + 1) s) w ≡ equal (b ∷ a ∷ d ∷ c ∷ []) w
  across_test = ap (λ (l : List ℕ). equal l w) (sym across_is)

  pub seeking_more : equal (a ∷ b ∷ c ∷ d ∷ []) w ≡ false → equal (b ∷ a ∷ d ∷ c ∷ []) w ≡ false
      → Seeking s w (b ∷ c ∷ d ∷ a ∷ []) (turn + 1)
  seeking_more here across = record {
    here_is = next_is;
    none = λ i h. if_lt i (2 * turn) (S.none i) (λ l. if_eq i (2 * turn)
        (λ e. rw e (here_test ∙ here))
        (λ e. let last : i ≡ 2 * turn + 1 = omega arith in rw last (across_test ∙ across)));
  }

module _ {a₀ b₀ c₀ d₀ : ℕ} {w : List ℕ} {a b c d turn : ℕ} (S : Seeking (a₀ ∷ b₀ ∷ c₀ ∷ d₀ ∷ []) w (a ∷ b ∷ c ∷ d ∷ []) turn) where
  abbrev start : List ℕ
  start = a₀ ∷ b₀ ∷ c₀ ∷ d₀ ∷ []

  pub found_here : turn < 4 → equal (a ∷ b ∷ c ∷ d ∷ []) w ≡ true → TurnOf start w (Some (2 * turn))
  found_here low h = found a₀ b₀ c₀ d₀ w (2 * turn) (omega arith) (here_test S ∙ h)

  pub found_across : turn < 4 → equal (b ∷ a ∷ d ∷ c ∷ []) w ≡ true → TurnOf start w (Some (2 * turn + 1))
  found_across low h = found a₀ b₀ c₀ d₀ w (2 * turn + 1) (omega arith) (across_test S ∙ h)

  pub found_none : 4 ≤ turn → TurnOf start w None
  found_none all = not_found a₀ b₀ c₀ d₀ w (λ i l. S.none i (omega arith))
