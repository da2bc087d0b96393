-- One cell: its darts are marked one by one, the darts over its sides put to those that wait one by one, and what comes of both.
-- Main theorems: `firsts_none` and `firsts_next`; `later_at`, `marked_on`, `touched_long`, `other_long`, `rest_none`, `rest_new` and `rest_old`; `waiting_none`, `over_low` and `waiting_next`; `spread_of`.
use Prim.Native.Nat.{ℕ, zero, suc, ◌+◌, ◌-◌, ◌≤◌, ◌<◌}
use mathlib.Core.Path.{◌≡◌, refl, sym, ap, ◌∙◌}
use mathlib.Core.Logic.{◌⊎◌, inl, inr, ◌≢◌, ⊎_elim}
use mathlib.Core.List.{List, [], ◌∷◌}
use native.Mathlib.Omega.{arith}
use lib.ListN.{length, get_or, set, take, drop, length-set, length-drop}
use Rattle.std.proofs.Common.{length-take-le, get_or-drop, get_or-take}
use lib.Seq.{get_or-set_same, get_or-set_other}
use borrow.Author.Tests.{eq-eqb, ne_eqb}
use Rattle.model.specs.Lists.{count}
use Rattle.model.specs.Table.{slots, link}
use Rattle.model.specs.Meaning.Sheets.{half}
use Rattle.theorems.proofs.Lists.Scan.{if_eq, if_lt}
use Rattle.theorems.proofs.Sets.Pigeon.{count_one}
use Rattle.theorems.proofs.Maps.Tables.{live_below, rule_at}
use Rattle.cells.specs.Listing.{Listing}
use Rattle.sheets.specs.Spread.{sides, side_start, Fresh, Firsts, Inner, Touched, Other, Rest, Put, over, Waiting, Spread}
use Rattle.sheets.proofs.Halves.{start_low, half_in}

-- ---- counting ones

count_own : (y : ℕ) (l : List ℕ) → y ≡ 1 → count 1 (y ∷ l) ≡ suc (count 1 l)
unfolding count
count_own y l e = rw (eq-eqb y 1 e, count)

count_other : (y : ℕ) (l : List ℕ) → y ≢ 1 → count 1 (y ∷ l) ≡ count 1 l
unfolding count
count_other y l e = rw (ne_eqb y 1 e, count)

-- as many
count_same : (m : List ℕ) (x v : ℕ) → get_or m x 0 ≢ 1 → v ≢ 1 → count 1 (set m x v) ≡ count 1 m
count_same [] x v e f = refl
count_same (y ∷ m) zero v e f = count_other v m f ∙ sym (count_other y m e)
count_same (y ∷ m) (suc x) v e f =
    let rec = count_same m x v e f in
    if_eq y 1 (λ q. count_own y (set m x v) q ∙ ap suc rec ∙ sym (count_own y m q))
    (λ q. count_other y (set m x v) q ∙ rec ∙ sym (count_other y m q))

-- ---- the mark 1

pub firsts_none : (m cell : List ℕ) → Firsts m cell 0 m
firsts_none m cell = record {
  long = refl;
  done = λ j h. absurd (omega arith);
  only = λ x. inl refl;
  size = omega arith;
}

module _ {m cell : List ℕ} {count k : ℕ} {r : List ℕ} (F : Fresh m cell count) (low : k < count) (R : Firsts m cell k r) where
  abbrev dart : ℕ
  dart = get_or cell k 0

  pub first_inside : get_or cell k 0 < length r
  first_inside = let long = R.long in let inside = F.inside k low in omega arith

  still_new : get_or r dart 0 ≢ 1
  still_new e = ⊎_elim (λ same. F.new k low (sym same ∙ e)) (λ (at, _). F.apart at.0 k at.1 low (sym at.2)) (R.only dart)

  pub firsts_next : Firsts m cell (k + 1) (set r (get_or cell k 0) 1)
  firsts_next = record {
    long = length-set r dart 1 ∙ R.long;
    done = λ j h. if_eq (get_or cell j 0) dart
        (λ e. rw e (get_or-set_same r dart 1 0 first_inside))
        (λ e. get_or-set_other r dart (get_or cell j 0) 1 0 e ∙ R.done j (before j h e));
    only = λ y. if_eq y dart
        (λ e. inr ((k, omega arith, e), rw e (get_or-set_same r dart 1 0 first_inside)))
        (λ e. ⊎_elim (λ same. inl (get_or-set_other r dart y 1 0 e ∙ same))
        (λ (at, one). inr ((at.0, (let b = at.1 in omega arith), at.2), get_or-set_other r dart y 1 0 e ∙ one)) (R.only y));
    size = count_one r dart first_inside still_new ∙ ap suc R.size ∙ omega arith;
  }
    where
      before : (j : ℕ) → j < k + 1 → get_or cell j 0 ≢ dart → j < k
      before j h e = if_eq j k (λ q. absurd (e (ap (λ (i : ℕ). get_or cell i 0) q))) (λ q. omega arith)

-- ---- the marks 2 and 3

module _ (cell : List ℕ) (a : ℕ) where
  -- the darts listed from the place a on, as a slice has them
  abbrev pub later : List ℕ
  later = take (length cell - a) (drop a cell)

  pub later_length : length later ≡ length cell - a
  later_length = let tail = length-drop a cell in length-take-le (length cell - a) (drop a cell) (omega arith)

  pub later_at : (k : ℕ) → a + k < length cell → get_or later k 0 ≡ get_or cell (a + k) 0
  later_at k l = get_or-take (length cell - a) (drop a cell) k 0 (omega arith) ∙ get_or-drop a cell k 0

-- x has got the mark 2, and y has a mark, 3 if it is new
pub record Marked-on (r : List ℕ) (x y : ℕ) (q : List ℕ) : Type 0 where
  pub long : length q ≡ length r
  pub own : get_or q x 0 ≡ 2
  pub there : get_or q y 0 ≢ 0
  pub other : (z : ℕ) → z ≢ x → (get_or q z 0 ≡ get_or r z 0) ⊎ ((z ≡ y) × (get_or r z 0 ≡ 0) × (get_or q z 0 ≡ 3))
  pub size : count 1 q ≡ count 1 r

module _ (r : List ℕ) (x y : ℕ) (inside : x < length r) (below : y < length r) (new : get_or r x 0 ≢ 1) where
  abbrev p : List ℕ
  p = set r x 2

  set_two : get_or p x 0 ≡ 2
  set_two = get_or-set_same r x 2 0 inside

  two_size : count 1 p ≡ count 1 r
  two_size = count_same r x 2 new (λ (e : ◌≡◌ {A = ℕ} 2 1). omega arith)

  touch_old : get_or p y 0 ≢ 0 → Marked-on r x y p
  touch_old some = record {
    long = length-set r x 2;
    own = set_two;
    there = some;
    other = λ z e. inl (get_or-set_other r x z 2 0 e);
    size = two_size;
  }

  touch_new : get_or p y 0 ≡ 0 → Marked-on r x y (set p y 3)
  touch_new none = record {
    long = length-set p y 3 ∙ length-set r x 2;
    own = get_or-set_other p y x 3 0 apart ∙ set_two;
    there = λ z. let three = get_or-set_same p y 3 0 low in omega arith;
    other = λ z e. if_eq z y
        (λ q. inr (q, rw q (sym (get_or-set_other r x y 2 0 (λ f. apart (sym f))) ∙ none), rw q (get_or-set_same p y 3 0 low)))
        (λ q. inl (get_or-set_other p y z 3 0 q ∙ get_or-set_other r x z 2 0 e));
    size = count_same p y 3 (λ e. omega arith) (λ (e : ◌≡◌ {A = ℕ} 3 1). omega arith) ∙ two_size;
  }
    where
      low : y < length p
      low = let same = length-set r x 2 in omega arith

      apart : x ≢ y
      apart e = let two = set_two in let none_there : get_or p x 0 ≡ 0 = ap (λ (z : ℕ). get_or p z 0) e ∙ none in omega arith

  pub marked_on : (q : List ℕ) → Touched (set r x 2) y q → Marked-on r x y q
  marked_on q h = ⊎_elim (λ (none, e). rw e (touch_new none)) (λ (some, e). rw e (touch_old some)) h

pub touched_long : (m : List ℕ) (y : ℕ) (r : List ℕ) → Touched m y r → length r ≡ length m
touched_long m y r h = ⊎_elim (λ (_, e). ap length e ∙ length-set m y 3) (λ (_, e). ap length e) h

pub other_long : (n : ℕ) (t m : List ℕ) (x : ℕ) (r : List ℕ) → Other n t m x r → length r ≡ length m
other_long n t m x r h = ⊎_elim (λ (_, e). ap length e) (λ (_, to). touched_long (set m x 2) (link t n x) r to ∙ length-set m x 2) h

pub rest_none : (n : ℕ) (t m cell : List ℕ) (a : ℕ) → Rest n t m cell a a m
rest_none n t m cell a = record {
  long = refl;
  done = λ j h l. absurd (omega arith);
  beyond = λ j h l. absurd (omega arith);
  only = λ x. inl refl;
  size = refl;
}

module _ {n : ℕ} {t m cell : List ℕ} {a k : ℕ} {r : List ℕ} (R : Rest n t m cell a k r) where
  -- the dart at the place k has a 1
  pub rest_old : get_or r (get_or cell k 0) 0 ≡ 1 → Rest n t m cell a (k + 1) r
  rest_old one = record {
    long = R.long;
    done = λ j h l. if_eq j k (λ e. inl (rw e one)) (λ e. R.done j h (omega arith));
    beyond = λ j h l two. if_eq j k
        (λ e. absurd (let same : get_or r (get_or cell k 0) 0 ≡ 2 = rw e at two in omega arith)) (λ e. R.beyond j h (omega arith) two);
    only = λ y. ⊎_elim inl (⊎_elim (λ ((j, b, at), new, two). inr (inl ((j, omega arith, at), new, two)))
        (λ (none, three, (j, b, at)). inr (inr (none, three, (j, omega arith, at))))) (R.only y);
    size = R.size;
  }

  -- it has none
  module _ {q : List ℕ} (new : get_or r (get_or cell k 0) 0 ≢ 1) (Q : Marked-on r (get_or cell k 0) (link t n (get_or cell k 0)) q) where
    abbrev late : ℕ
    late = get_or cell k 0

    was_new : get_or m late 0 ≢ 1
    was_new e = ⊎_elim (λ same. new (same ∙ e))
        (⊎_elim (λ (_, other, _). other e) (λ (none, _, _). absurd (omega arith))) (R.only late)

    some_kept : (z : ℕ) → get_or r z 0 ≢ 0 → get_or q z 0 ≢ 0
    some_kept z some gone = if_eq z late
        (λ e. let two = Q.own in let same : get_or q late 0 ≡ 0 = rw e at gone in omega arith)
        (λ e. ⊎_elim (λ same. some (sym same ∙ gone)) (λ (_, none, _). some none) (Q.other z e))

    before : (j : ℕ) → j < k + 1 → get_or cell j 0 ≢ late → j < k
    before j h e = if_eq j k (λ f. absurd (e (ap (λ (i : ℕ). get_or cell i 0) f))) (λ f. omega arith)

    done_next : (j : ℕ) → a ≤ j → j < k + 1 → Inner q (get_or cell j 0)
    done_next j h l = if_eq (get_or cell j 0) late (λ e. inr (rw e Q.own)) (λ e.
        let old = R.done j h (before j l e) in
        ⊎_elim (λ same. ⊎_elim (λ one. inl (same ∙ one)) (λ two. inr (same ∙ two)) old)
        (λ (_, none, _). absurd (⊎_elim (λ one. omega arith) (λ two. omega arith) old)) (Q.other (get_or cell j 0) e))

    beyond_next : (j : ℕ) → a ≤ j → j < k + 1 → get_or q (get_or cell j 0) 0 ≡ 2 → get_or q (link t n (get_or cell j 0)) 0 ≢ 0
    beyond_next j h l two = if_eq (get_or cell j 0) late (λ e. rw e Q.there) (λ e. ⊎_elim
        (λ same. some_kept _ (R.beyond j h (before j l e) (sym same ∙ two)))
        (λ (_, _, three). absurd (omega arith)) (Q.other (get_or cell j 0) e))

    pub rest_new : Rest n t m cell a (k + 1) q
    rest_new = record {
      long = Q.long ∙ R.long;
      done = done_next;
      beyond = beyond_next;
      only = λ y. if_eq y late
          (λ e. inr (inl ((k, omega arith, e), rw e was_new, rw e Q.own)))
          (λ e. ⊎_elim
          (λ same. ⊎_elim (λ kept. inl (same ∙ kept)) (⊎_elim
          (λ ((j, b, at), old, two). inr (inl ((j, omega arith, at), old, same ∙ two)))
          (λ (none, three, (j, b, at)). inr (inr (none, same ∙ three, (j, omega arith, at))))) (R.only y))
          (λ (to, none, three). ⊎_elim
          (λ kept. inr (inr (sym kept ∙ none, three, (k, omega arith, to))))
          (⊎_elim (λ (_, _, two). absurd (omega arith)) (λ (_, was, _). absurd (omega arith))) (R.only y)) (Q.other y e));
      size = Q.size ∙ R.size;
    }

-- ---- what waits

-- the dart over a side is a slot
pub over_low : {n : ℕ} {t cell : List ℕ} → Listing n t cell → (j : ℕ) → j < sides n → over n t cell j < slots t
over_low {n} L j h =
    let dim = L.table.dim in
    let start = start_low n dim j h in
    let lives = L.lives (side_start n j) (let few = half_in n dim in omega arith) in
    live_below L.table _ ((rule_at L.table _ lives).goes n (omega arith))

pub waiting_none : (n : ℕ) (t m cell w : List ℕ) (size : ℕ) → Waiting n t m cell 0 w size w size
waiting_none n t m cell w size = record {
  long = refl;
  low = omega arith;
  high = omega arith;
  kept = λ i h. refl;
  only = λ i h l. absurd (omega arith);
  all = λ j h. absurd (omega arith);
}

module _ {n : ℕ} {t m cell : List ℕ} {k : ℕ} {w : List ℕ} {size : ℕ} {v : List ℕ} {end : ℕ} (W : Waiting n t m cell k w size v end) where
  put_old_lem : get_or m (over n t cell k) 0 ≡ 1 → Waiting n t m cell (k + 1) w size v end
  put_old_lem one = record {
    long = W.long;
    low = W.low;
    high = let high = W.high in omega arith;
    kept = W.kept;
    only = λ i h l. let (j, b, e) = W.only i h l in (j, omega arith, e);
    all = λ j h. if_eq j k (λ e. inl (rw e one)) (λ e. W.all j (omega arith));
  }

  put_new_lem : end < length v → Waiting n t m cell (k + 1) w size (set v end (over n t cell k)) (end + 1)
  put_new_lem room = record {
    long = length-set v end y ∙ W.long;
    low = let low = W.low in omega arith;
    high = let high = W.high in omega arith;
    kept = λ i h. let low = W.low in get_or-set_other v end i y 0 (λ e. omega arith) ∙ W.kept i h;
    only = λ i h l. if_eq i end (λ e. (k, omega arith, rw e own))
        (λ e. let (j, b, at) = W.only i h (omega arith) in (j, omega arith, get_or-set_other v end i y 0 e ∙ at));
    all = λ j h. if_eq j k (λ e. inr (end, omega arith, rw e own)) (λ e. ⊎_elim inl
        (λ (i, b, at). inr (i, omega arith, get_or-set_other v end i y 0 (λ q. omega arith) ∙ at)) (W.all j (omega arith)));
  }
    where
      y : ℕ
      y = over n t cell k

      own : get_or (set v end y) end 0 ≡ y
      own = get_or-set_same v end y 0 room

  pub waiting_next : (v' : List ℕ) (r : ℕ) → end < length v → Put m v end (over n t cell k) v' r
      → Waiting n t m cell (k + 1) w size v' r
  waiting_next v' r room p = ⊎_elim (λ (one, same, stays). rw (same, stays) (put_old_lem one))
      (λ (_, same, grows). rw (same, grows) (put_new_lem room)) p

-- ---- the cell

pub spread_of : {n : ℕ} {t m cell w : List ℕ} {size : ℕ} {m₁ m₂ v : List ℕ} {r : ℕ} → Firsts m cell (half n) m₁
    → Rest n t m₁ cell (half n) (length cell) m₂ → Waiting n t m₂ cell (sides n) w size v r → Spread n t m cell w size m₂ v r
spread_of {n} {t} {m} {cell} {w} {size} {m₁} {m₂} {v} {r} F R W = record {
  long = R.long ∙ F.long;
  first = first;
  listed = λ j h. if_lt j (half n) (λ l. inl (first j l)) (λ l. R.done j l h);
  beyond = λ j h two. if_lt j (half n) (λ l. absurd (let one = first j l in omega arith)) (λ l. R.beyond j l h two);
  only = λ x. ⊎_elim
      (λ same. ⊎_elim (λ kept. inl (same ∙ kept)) (λ (at, one). inr (inl (at, same ∙ one))) (F.only x))
      (⊎_elim (λ (at, new, two). inr (inr (inl (at, was_new x new, two))))
      (λ (none, three, at). inr (inr (inr (was_none x none, three, at))))) (R.only x);
  number = R.size ∙ F.size;
  waiting = W;
}
  where
    first : (j : ℕ) → j < half n → get_or m₂ (get_or cell j 0) 0 ≡ 1
    first j l = ⊎_elim (λ same. same ∙ F.done j l) (⊎_elim (λ (_, new, _). absurd (new (F.done j l)))
        (λ (none, _, _). absurd (let one = F.done j l in omega arith))) (R.only (get_or cell j 0))

    was_new : (x : ℕ) → get_or m₁ x 0 ≢ 1 → get_or m x 0 ≢ 1
    was_new x new e = ⊎_elim (λ same. new (same ∙ e)) (λ (_, one). new one) (F.only x)

    was_none : (x : ℕ) → get_or m₁ x 0 ≡ 0 → get_or m x 0 ≡ 0
    was_none x none = ⊎_elim (λ same. sym same ∙ none) (λ (_, one). absurd (omega arith)) (F.only x)
