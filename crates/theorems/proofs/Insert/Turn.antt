-- next, "found by turning with link n-1, then n and n-1 by turns, until a wall dart is met, or a free side ends the turn".
-- The turn ends within the model's fuel (`turn_ends`), and in one way (`free_exactly`, `next_exactly`); it can be turned back, so
-- next(next(h)) = h (`next_back`, `next_mutual`); it goes with the links 0..n-3 (`turn_far`, `next_far`); next is a wall dart
-- (`next_on`), and h itself exactly where h ends free (`next_own`).
use Prim.Native.Nat.{ℕ, zero, suc, ◌+◌, ◌-◌, ◌≤◌, ◌<◌}
use mathlib.Core.Path.{◌≡◌, refl, sym, ap, ◌∙◌, subst}
use mathlib.Core.Logic.{◌⊎◌, inl, inr, ◌≢◌, ◌↔◌, ⊎_elim}
use mathlib.Core.Bool.{Bool, true, false, not, ◌&&◌}
use mathlib.Core.List.{List}
use native.Mathlib.Nat.{le_refl}
use native.Mathlib.Omega.{arith}
use lib.ListN.{get_or}
use lib.Dec.{eqb}
use borrow.Author.Tests.{eqb-false, eq-eqb, ne_eqb, not-true}
use Rattle.model.specs.Lists.{all_below}
use Rattle.model.specs.Table.{slots, link, live}
use Rattle.model.specs.Reach.{in_set}
use Rattle.model.specs.Wall.{turns_on, turn_from, turn_end, ends_free, next}
use Rattle.model.specs.Numbering.{cell_link}
use Rattle.model.specs.Everything.{everything}
use Rattle.model.specs.Meaning.Maps.{BlockTable, Dim, Rule}
use Rattle.model.specs.Meaning.Sets.{Marked}
use Rattle.model.specs.Meaning.Walls.{Turns, arrived, onward, EndsFree, IsNext, Drawn}
use Rattle.theorems.proofs.Lists.Scan.{test, if_eq, clash, and_l, and_r, and_i, below_at}
use Rattle.theorems.proofs.Sets.Escape.{leave, OneWay, escapes}
use Rattle.theorems.proofs.Maps.Tables.{map_table, live_below, rule_at}
use Rattle.theorems.proofs.Maps.Dim.{two_cases, size_some}
use Rattle.theorems.proofs.Sewing.Side.{past}
use Rattle.theorems.proofs.Cells.Rows.{rows_in}
use Rattle.theorems.proofs.Cells.Chart.{place_chart, place_zero, place_one}

-- ---- in a block map the links of a cell lead to other darts

moves_row : ℕ → ℕ → Bool
moves_row n j = not (eqb (cell_link n j 0) 0)

moves_rows : (n : ℕ) → Dim n → all_below n (moves_row n) ≡ true
unfolding everything moves_row
moves_rows n dim = two_cases n dim (λ n. all_below n (moves_row n) ≡ true) refl refl

pub moves_on : {n : ℕ} {t : List ℕ} → BlockTable n t → (x j : ℕ) → j < n → live t x ≡ true → link t j x ≢ x
unfolding moves_row
moves_on {n} {t} B x j b l e =
    let some = size_some n B.dim in
    let at = ap (link t j) (place_zero B x l) ∙ (place_chart B x l).follow j 0 b some in
    let same = place_one B x 0 (cell_link n j 0) l some (rows_in n j 0 B.dim b some) (sym (place_zero B x l) ∙ sym e ∙ at) in
    eqb-false _ _ (not-true _ (below_at (moves_row n) n (moves_rows n B.dim) j b)) (sym same)

-- ---- the turn

-- one turn more: over link n, and by link n-1
abbrev turn : ℕ → List ℕ → ℕ → ℕ
turn n t x = link t (n - 1) (link t n x)

module _ (n : ℕ) (t m : List ℕ) where
  on_parts : (x : ℕ) → turns_on n t m x ≡ true → (Marked m x → ⊥) × (link t n x ≢ x)
  unfolding turns_on in_set
  on_parts x h =
      let a = not (eqb (get_or m x 0) 1) in
      (eqb-false _ _ (not-true _ (and_l a _ h)), eqb-false _ _ (not-true _ (and_r a _ h)))

  parts_on : (x : ℕ) → (Marked m x → ⊥) → link t n x ≢ x → turns_on n t m x ≡ true
  unfolding turns_on in_set
  parts_on x a b = rw (ne_eqb (get_or m x 0) 1 a, ne_eqb (link t n x) x b)

  -- the turn ends at a wall dart
  pub wall_stops : (x : ℕ) → Marked m x → turns_on n t m x ≡ false
  unfolding turns_on in_set
  wall_stops x h = rw (eq-eqb (get_or m x 0) 1 h)

  -- and at an n-free one
  pub free_stops : (x : ℕ) → link t n x ≡ x → turns_on n t m x ≡ false
  free_stops x h = test (turns_on n t m x) (λ e. absurd ((on_parts x e).1 h)) (λ e. e)

  -- and at no other
  pub stops_at : (x : ℕ) → turns_on n t m x ≡ false → Marked m x ⊎ (link t n x ≡ x)
  stops_at x h = if_eq (get_or m x 0) 1 inl (λ a. if_eq (link t n x) x inr (λ b. absurd (clash (parts_on x a b) h)))

  from_turns : (fuel x : ℕ) → Turns n t m (turn_from n t m fuel x) x
  unfolding turn_from
  from_turns zero x = arrived refl
  from_turns (suc fuel) x =
      let rec = from_turns fuel (turn n t x) in
      test (turns_on n t m x)
      (λ e. let (off, sewn) = on_parts x e in rw (e, turn_from) (onward off sewn rec)) (λ e. rw (e, turn_from) (arrived refl))

  turns_one : {z w x : ℕ} → turns_on n t m z ≡ false → turns_on n t m w ≡ false → Turns n t m z x → Turns n t m w x → z ≡ w
  turns_one a b (arrived e) (arrived f) = sym e ∙ f
  turns_one a b (arrived e) (onward {x = x} off sewn q) = absurd (clash (parts_on x off sewn) (ap (turns_on n t m) e ∙ a))
  turns_one a b (onward {x = x} off sewn p) (arrived f) = absurd (clash (parts_on x off sewn) (ap (turns_on n t m) f ∙ b))
  turns_one a b (onward _ _ p) (onward _ _ q) = turns_one a b p q

module _ {n : ℕ} {t m : List ℕ} (D : Drawn n t m) where
  abbrev B : BlockTable n t
  B = D.table

  rule : (x : ℕ) → live t x ≡ true → Rule n t x
  rule = rule_at (map_table B)

  low : n < 4
  low = let dim = B.dim in omega arith

  last : n - 1 < 4
  last = let dim = B.dim in omega arith

  link_goes : (x : ℕ) → live t x ≡ true → live t (link t n x) ≡ true
  link_goes x l = (rule x l).goes n low

  link_comes : (x : ℕ) → live t x ≡ true → link t n (link t n x) ≡ x
  link_comes x l = (rule x l).comes n low

  turn_goes : (x : ℕ) → live t x ≡ true → live t (turn n t x) ≡ true
  turn_goes x l = (rule _ (link_goes x l)).goes (n - 1) last

  -- turned back by link n-1
  turn_comes : (x : ℕ) → live t x ≡ true → link t (n - 1) (turn n t x) ≡ link t n x
  turn_comes x l = (rule _ (link_goes x l)).comes (n - 1) last

  turn_one : (x y : ℕ) → live t x ≡ true → live t y ≡ true → turn n t x ≡ turn n t y → x ≡ y
  turn_one x y lx ly e =
      sym (link_comes x lx) ∙ ap (link t n) (sym (turn_comes x lx) ∙ ap (link t (n - 1)) e ∙ turn_comes y ly) ∙ link_comes y ly

  -- a dart that link n takes to the wall is on it
  from_over : (x : ℕ) → live t x ≡ true → Marked m (link t n x) → Marked m x
  from_over x l h = subst (Marked m) (link_comes x l) (D.over (link t n x) h)

  sewn_over : (x : ℕ) → live t x ≡ true → link t n x ≢ x → link t n (link t n x) ≢ link t n x
  sewn_over x l sewn e = sewn (sym e ∙ link_comes x l)

  -- ---- it ends

  -- the live darts from which it goes on
  goes_on : ℕ → Bool
  goes_on x = turns_on n t m x && live t x

  goes_parts : (x : ℕ) → goes_on x ≡ true → (turns_on n t m x ≡ true) × (live t x ≡ true)
  unfolding goes_on
  goes_parts x h = (and_l (turns_on n t m x) _ h, and_r (turns_on n t m x) _ h)

  from_leaves : (fuel x : ℕ) → live t x ≡ true → (turn_from n t m fuel x ≡ leave goes_on (turn n t) fuel x) × (live t (turn_from n t m fuel x) ≡ true)
  unfolding turn_from leave goes_on
  from_leaves zero x l = (refl, l)
  from_leaves (suc fuel) x l =
      let rec = from_leaves fuel (turn n t x) (turn_goes x l) in
      test (turns_on n t m x) (λ e. rw (e, l, turn_from, leave) rec) (λ e. rw (e, turn_from, leave) (refl, l))

  module _ (h : ℕ) (i : Marked m h) where
    lives : live t h ≡ true
    lives = D.lives h i

    first : live t (link t (n - 1) h) ≡ true
    first = (rule h lives).goes (n - 1) last

    one_way : OneWay (slots t) goes_on (turn n t) (link t (n - 1) h)
    one_way = record {
      below = λ x e. live_below (map_table B) x (goes_parts x e).1;
      one = λ x y p q. turn_one x y (goes_parts x p).1 (goes_parts y q).1;
      first = λ x e q.
          let (on, l) = goes_parts x e in
          let back : link t n x ≡ h = sym (turn_comes x l) ∙ ap (link t (n - 1)) q ∙ (rule h lives).comes (n - 1) last in
          (on_parts n t m x on).0 (from_over x l (subst (Marked m) (sym back) i));
    }

    end_live : live t (turn_end n t m h) ≡ true
    unfolding turn_end
    end_live = (from_leaves (slots t) (link t (n - 1) h) first).1

    -- the turn ends, within the fuel that the model gives it: at a wall dart, or at a free one
    pub turn_ends : turns_on n t m (turn_end n t m h) ≡ false
    unfolding turn_end goes_on
    turn_ends =
        let same = (from_leaves (slots t) (link t (n - 1) h) first).0 in
        let out = ap goes_on same ∙ escapes one_way in
        test (turns_on n t m (turn_end n t m h)) (λ e. absurd (clash (and_i e end_live) out)) (λ e. e)

    end_turns : Turns n t m (turn_end n t m h) (link t (n - 1) h)
    unfolding turn_end
    end_turns = from_turns n t m (slots t) (link t (n - 1) h)

    pub end_is : (z : ℕ) → turns_on n t m z ≡ false → Turns n t m z (link t (n - 1) h) → turn_end n t m h ≡ z
    end_is z stop p = turns_one n t m turn_ends stop end_turns p

  -- ---- it can be turned back

  turns_back : {z w x : ℕ} → live t x ≡ true → Turns n t m z x → Turns n t m w (link t (n - 1) x) → Turns n t m w (link t (n - 1) z)
  turns_back l (arrived e) q = rw (← e) q
  turns_back {z} {w} {x} l (onward off sewn p) q =
      let again : Turns n t m w (link t n x)
      = onward (λ k. off (from_over x l k)) (sewn_over x l sewn) (rw (link_comes x l) q) in
      turns_back (turn_goes x l) p (rw (turn_comes x l) again)

  -- from the wall dart that it meets, it leads back
  end_back : (h : ℕ) → Marked m h → Marked m (turn_end n t m h) → turn_end n t m (turn_end n t m h) ≡ h
  end_back h i met =
      let start : Turns n t m h (link t (n - 1) (link t (n - 1) h)) = arrived ((rule h (lives h i)).comes (n - 1) last) in
      end_is (turn_end n t m h) met h (wall_stops n t m h i) (turns_back (first h i) (end_turns h i) start)

  -- ---- it goes with the links 0..n-3

  module _ (j : ℕ) (far : j + 3 ≤ n) where
    j_low : j < 4
    j_low = let top = low in omega arith

    past_n : (x : ℕ) → live t x ≡ true → link t n (link t j x) ≡ link t j (link t n x)
    past_n x l = past (map_table B) x l n j (le_refl n) (omega arith) (inr (omega arith))

    past_last : (x : ℕ) → live t x ≡ true → link t (n - 1) (link t j x) ≡ link t j (link t (n - 1) x)
    past_last x l = past (map_table B) x l (n - 1) j (omega arith) (omega arith) (inr (omega arith))

    from_far : (x : ℕ) → live t x ≡ true → Marked m (link t j x) → Marked m x
    from_far x l h = subst (Marked m) ((rule x l).comes j j_low) (D.along (link t j x) j (omega arith) h)

    sewn_far : (x : ℕ) → live t x ≡ true → link t n x ≢ x → link t n (link t j x) ≢ link t j x
    sewn_far x l sewn e =
        sewn (sym ((rule (link t n x) (link_goes x l)).comes j j_low) ∙ ap (link t j) (sym (past_n x l) ∙ e) ∙ (rule x l).comes j j_low)

    far_stops : (x : ℕ) → live t x ≡ true → turns_on n t m x ≡ false → turns_on n t m (link t j x) ≡ false
    far_stops x l h = ⊎_elim (λ k. wall_stops n t m (link t j x) (D.along x j (omega arith) k))
        (λ e. free_stops n t m (link t j x) (past_n x l ∙ ap (link t j) e)) (stops_at n t m x h)

    turns_far : {z x : ℕ} → live t x ≡ true → Turns n t m z x → Turns n t m (link t j z) (link t j x)
    turns_far l (arrived e) = arrived (ap (link t j) e)
    turns_far {z} {x} l (onward off sewn p) =
        let same : turn n t (link t j x) ≡ link t j (turn n t x)
        = ap (link t (n - 1)) (past_n x l) ∙ past_last (link t n x) (link_goes x l) in
        onward (λ k. off (from_far x l k)) (sewn_far x l sewn) (rw same (turns_far (turn_goes x l) p))

    turn_far : (h : ℕ) → Marked m h → turn_end n t m (link t j h) ≡ link t j (turn_end n t m h)
    turn_far h i =
        end_is (link t j h) (D.along h j (omega arith) i) (link t j (turn_end n t m h)) (far_stops _ (end_live h i) (turn_ends h i))
        (rw (past_last h (lives h i)) (turns_far (first h i) (end_turns h i)))

  -- ---- next

  module _ (h : ℕ) where
    pub free_of : (Marked m (turn_end n t m h) → ⊥) → ends_free n t m h ≡ true
    unfolding ends_free in_set
    free_of out = rw (ne_eqb (get_or m (turn_end n t m h) 0) 1 out)

    pub met_of : Marked m (turn_end n t m h) → ends_free n t m h ≡ false
    unfolding ends_free in_set
    met_of met = rw (eq-eqb (get_or m (turn_end n t m h) 0) 1 met)

    of_free : ends_free n t m h ≡ true → Marked m (turn_end n t m h) → ⊥
    of_free e met = clash e (met_of met)

    pub next_free : ends_free n t m h ≡ true → next n t m h ≡ h
    unfolding next
    next_free e = rw (e, next)

    pub next_met : ends_free n t m h ≡ false → next n t m h ≡ turn_end n t m h
    unfolding next
    next_met e = rw (e, next)

    met_marked : ends_free n t m h ≡ false → Marked m (turn_end n t m h)
    met_marked e = if_eq (get_or m (turn_end n t m h) 0) 1 (λ k. k) (λ k. absurd (clash (free_of k) e))

    pub next_on : Marked m h → Marked m (next n t m h)
    next_on i = test (ends_free n t m h) (λ e. rw (next_free e) i) (λ e. rw (next_met e) (met_marked e))

  -- next is mutual
  pub next_back : (h : ℕ) → Marked m h → next n t m (next n t m h) ≡ h
  next_back h i = test (ends_free n t m h)
      (λ e. ap (next n t m) (next_free h e) ∙ next_free h e)
      (λ e.
      let z = turn_end n t m h in
      let back = end_back h i (met_marked h e) in
      let met = met_of z (subst (Marked m) (sym back) i) in
      ap (next n t m) (next_met h e) ∙ next_met z met ∙ back)

  -- and goes with the links 0..n-3
  pub next_far : (h j : ℕ) → j + 3 ≤ n → Marked m h → next n t m (link t j h) ≡ link t j (next n t m h)
  next_far h j far i = test (ends_free n t m h)
      (λ e.
      let out : Marked m (turn_end n t m (link t j h)) → ⊥
      = λ k. of_free h e (from_far j far _ (end_live h i) (subst (Marked m) (turn_far j far h i) k)) in
      next_free (link t j h) (free_of (link t j h) out) ∙ ap (link t j) (sym (next_free h e)))
      (λ e.
      let met = met_of (link t j h) (subst (Marked m) (sym (turn_far j far h i)) (D.along _ j (omega arith) (met_marked h e))) in
      next_met (link t j h) met ∙ turn_far j far h i ∙ ap (link t j) (sym (next_met h e)))

  -- ---- where it meets a wall dart, that is another one: the way there and back is one way, and it has no middle

  -- the turn that is at x comes to z by k turns, from darts that are not n-free
  abbrev By : ℕ → ℕ → ℕ → Type 0
  By zero x z = x ≡ z
  By (suc k) x z = (link t n x ≢ x) × By k (turn n t x) z

  by_of : {z x : ℕ} → Turns n t m z x → (k : ℕ) × By k x z
  by_of (arrived e) = (0, e)
  by_of (onward _ sewn p) = let (k, b) = by_of p in (suc k, (sewn, b))

  -- the last turn
  by_last : (k x z : ℕ) → live t x ≡ true → By (suc k) x z
      → (y : ℕ) × By k x y × (live t y ≡ true) × (z ≡ turn n t y)
  by_last zero x z l (_, e) = (x, refl, l, sym e)
  by_last (suc k) x z l (sewn, b) =
      let (y, c, ly, e) = by_last k (turn n t x) z (turn_goes x l) b in
      (y, (sewn, c), ly, e)

  no_middle : (k x z : ℕ) → live t x ≡ true → By k x z → x ≡ link t (n - 1) z → ⊥
  no_middle zero x z l e q = let two = B.dim.0 in moves_on B x (n - 1) (omega arith) l (ap (link t (n - 1)) e ∙ sym q)
  no_middle (suc zero) x z l (sewn, e) q = sewn (sym (turn_comes x l) ∙ ap (link t (n - 1)) e ∙ sym q)
  no_middle (suc (suc k)) x z l (_, b) q =
      let (y, c, ly, e) = by_last k (turn n t x) z (turn_goes x l) b in
      let over : x ≡ link t n y = q ∙ ap (link t (n - 1)) e ∙ turn_comes y ly in
      let back : link t n x ≡ y = ap (link t n) over ∙ link_comes y ly in
      no_middle k (turn n t x) y (turn_goes x l) c (ap (link t (n - 1)) back)

  end_other : (h : ℕ) → Marked m h → turn_end n t m h ≢ h
  end_other h i e =
      let (k, b) = by_of (end_turns h i) in
      no_middle k (link t (n - 1) h) (turn_end n t m h) (first h i) b (ap (link t (n - 1)) (sym e))

  -- next(h) is h exactly where h ends free
  pub next_own : (h : ℕ) → Marked m h → (next n t m h ≡ h) ↔ (ends_free n t m h ≡ true)
  next_own h i = (
    λ e. test (ends_free n t m h) (λ f. f) (λ f. absurd (end_other h i (sym (next_met h f) ∙ e))),
    next_free h,
  )

  -- ---- the same in words

  module _ (h : ℕ) (i : Marked m h) where
    pub free_exactly : (ends_free n t m h ≡ true) ↔ EndsFree n t m h
    free_exactly = (
      λ e.
          let z = turn_end n t m h in
          let out = of_free h e in
          (z, end_turns h i, out, ⊎_elim (λ k. absurd (out k)) (λ f. f) (stops_at n t m z (turn_ends h i))),
      λ (z, p, out, f). free_of h (λ k. out (subst (Marked m) (end_is h i z (free_stops n t m z f) p) k)),
    )

    pub next_exactly : (z : ℕ) → ((ends_free n t m h ≡ false) × (next n t m h ≡ z)) ↔ IsNext n t m h z
    next_exactly z = (
      λ (e, f). subst (IsNext n t m h) (sym (next_met h e) ∙ f) (end_turns h i, met_marked h e),
      λ (p, k).
          let at = end_is h i z (wall_stops n t m z k) p in
          let e = met_of h (subst (Marked m) (sym at) k) in
          (e, next_met h e ∙ at),
    )

    -- the turn ends: at a free side, or at next(h)
    pub ends_or_meets : EndsFree n t m h ⊎ ((z : ℕ) × IsNext n t m h z)
    ends_or_meets = test (ends_free n t m h)
        (λ e. inl (free_exactly.0 e)) (λ e. inr (next n t m h, (next_exactly (next n t m h)).0 (e, refl)))

    -- "next(next(h)) = h where there is one"
    pub next_mutual : (z : ℕ) → IsNext n t m h z → IsNext n t m z h
    next_mutual z (p, k) =
        let start : Turns n t m h (link t (n - 1) (link t (n - 1) h)) = arrived ((rule h (lives h i)).comes (n - 1) last) in
        (turns_back (first h i) p start, i)
