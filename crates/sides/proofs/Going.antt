-- Two walks in step: `Going` is the loop's invariant of `walk_round`. `going_room`: the lists have room for the next darts. A turn is made
-- (`Made`), and the walks go on (`going_on`) or are at their starts again (`going_round`); or they differ (`going_differs`).
use Prim.Native.Nat.{ℕ, suc, ◌<◌}
use mathlib.Core.Path.{◌≡◌, refl, sym, ap, ◌∙◌}
use mathlib.Core.Logic.{◌≢◌, ⊎_elim}
use mathlib.Core.Bool.{Bool, true, false, ◌||◌}
use mathlib.Core.List.{List}
use native.Mathlib.Omega.{arith}
use lib.ListN.{length, set, length-set}
use lib.Seq.{get_or-set_same, get_or-set_other}
use Rattle.model.specs.Table.{slots, link, live}
use Rattle.theorems.proofs.Lists.Scan.{if_eq, or_cases, or_false, clash}
use Rattle.sides.specs.Turns.{turned, turns, Alike, AlikeAt, Passing, EndTest, Gone, BothEnd, Together, Unlike, Parted}
use Rattle.sides.proofs.SideTurns.{New, turns_live, turns_low, turns_few, turns_fit}

pub record Going (t : List ℕ) (a b d e : ℕ) (xs₀ ys₀ xs ys : List ℕ) (x y k : ℕ) (ended : Bool) : Type 0 where
  pub left : Gone t a b d k ended xs
  pub right : Gone t a b e k ended ys
  pub left_new : 0 < k → turns t a b d k ≢ d
  pub right_new : 0 < k → turns t a b e k ≢ e
  pub left_is : x ≡ turns t a b d k
  pub right_is : y ≡ turns t a b e k
  pub left_long : length xs ≡ length xs₀
  pub right_long : length ys ≡ length ys₀
  pub end : ended ≡ true → BothEnd t a b d e k

pub going_begins : (t : List ℕ) (a b d e : ℕ) (xs ys : List ℕ) → Going t a b d e xs ys xs ys d e 0 false
unfolding turned
going_begins t a b d e xs ys = record {
  left = none d xs;
  right = none e ys;
  left_new = λ l. absurd (omega arith);
  right_new = λ l. absurd (omega arith);
  left_is = refl;
  right_is = refl;
  left_long = refl;
  right_long = refl;
  end = λ h. absurd (clash h refl);
}
  where
    none : (x : ℕ) (l : List ℕ) → Gone t a b x 0 false l
    none x l = record {
      new = λ j some low. absurd (omega arith);
      listed = λ j low. absurd (omega arith);
      shut = λ _ j low. absurd (omega arith);
    }

-- ---- room

gone_new : {t : List ℕ} {a b d k : ℕ} {ended : Bool} {xs : List ℕ} → Gone t a b d k ended xs → (0 < k → turns t a b d k ≢ d)
    → New t a b d k
gone_new {k = k} g out j some low = if_eq j k (λ e. rw e (out (omega arith))) (λ e. g.new j some (omega arith))

-- what holds before the turn
pub record Inside (t : List ℕ) (x y k : ℕ) (xs ys : List ℕ) : Type 0 where
  pub left_room : k < length xs
  pub right_room : k < length ys
  pub few : k < slots t
  pub left_low : x < slots t
  pub right_low : y < slots t
  pub left_lives : live t x ≡ true
  pub right_lives : live t y ≡ true

pub going_room : {t : List ℕ} {a b d e : ℕ} {xs₀ ys₀ xs ys : List ℕ} {x y k : ℕ} {ended : Bool} → Parted t a b d e xs₀ ys₀
    → Going t a b d e xs₀ ys₀ xs ys x y k ended → Inside t x y k xs ys
going_room {t} {k = k} P g =
    let new = gone_new g.left g.left_new in
    let fit = turns_fit P.left P.right P.apart k new (gone_new g.right g.right_new) in
    let left_room = P.left_room in
    let right_room = P.right_room in
    let left_long = g.left_long in
    let right_long = g.right_long in
    record {
      left_room = omega arith;
      right_room = omega arith;
      few = turns_few P.left k new;
      left_low = rw g.left_is (turns_low P.left k);
      right_low = rw g.right_is (turns_low P.right k);
      left_lives = rw g.left_is (turns_live P.left k);
      right_lives = rw g.right_is (turns_live P.right k);
    }

-- ---- a turn

-- the turn after k turns, from x by p to u
pub record Turn (t : List ℕ) (a b d k x p u : ℕ) : Type 0 where
  pub from : x ≡ turns t a b d k
  pub by : p ≡ link t a (turns t a b d k)
  pub to : u ≡ turns t a b d (suc k)

pub turn_is : (t : List ℕ) (a b d k x p u : ℕ) → x ≡ turns t a b d k → p ≡ link t a x → u ≡ link t b p → Turn t a b d k x p u
unfolding turned
turn_is t a b d k x p u e f g =
    let by = f ∙ ap (link t a) e in
    record { from = e; by = by; to = g ∙ ap (link t b) by }

-- one walk, with its list, a turn later
gone_more : {t : List ℕ} {a b d k x p u : ℕ} {ended m : Bool} {xs : List ℕ} → Gone t a b d k ended xs
    → (0 < k → turns t a b d k ≢ d) → k < length xs → Turn t a b d k x p u → (m ≡ false → Passing x p u)
    → Gone t a b d (suc k) (ended || m) (set xs k x)
gone_more {t} {a} {b} {d} {k} {x} {p} {u} {ended} {m} {xs} g out room turn passes = record {
  new = gone_new g out;
  listed = λ j low. if_eq j k (λ e. rw e (get_or-set_same xs k x 0 room ∙ turn.from))
      (λ e. get_or-set_other xs k j x 0 e ∙ g.listed j (omega arith));
  shut = λ none j low.
      let (old, now) = or_false ended m none in
      if_eq j k (λ e. rw e (rw (turn.from, turn.by, turn.to) at (passes now))) (λ e. g.shut old j (omega arith));
}

module _ {d e x p u y q v : ℕ} (like : Alike d e x p u y q v) where
  like_passes : Passing x p u → Passing y q v
  like_passes h = (λ z. h.0 (like.first.1 z), λ z. h.1 (like.second.1 z))

module _ {t : List ℕ} {a b d e : ℕ} {xs₀ ys₀ xs ys : List ℕ} {x y k : ℕ} {ended : Bool} (P : Parted t a b d e xs₀ ys₀)
    (g : Going t a b d e xs₀ ys₀ xs ys x y k ended) {p u q v : ℕ} (L : Turn t a b d k x p u) (R : Turn t a b e k y q v) where
  -- the walks differ
  pub going_differs : (Alike d e x p u y q v → ⊥) → Unlike t a b d e
  going_differs differs = (k, λ h. differs (rw (L.from, L.by, L.to, R.from, R.by, R.to) h))

  module _ {m : Bool} (like : Alike d e x p u y q v) (ends : EndTest x p u m) where
    like_at : AlikeAt t a b d e k
    like_at = rw (L.from, L.by, L.to, R.from, R.by, R.to) at like

    left_more : Gone t a b d (suc k) (ended || m) (set xs k x)
    left_more = gone_more g.left g.left_new (going_room P g).left_room L ends.passes

    right_more : Gone t a b e (suc k) (ended || m) (set ys k y)
    right_more = gone_more g.right g.right_new (going_room P g).right_room R (λ h. like_passes like (ends.passes h))

    end_more : (ended || m) ≡ true → BothEnd t a b d e (suc k)
    end_more h = ⊎_elim (λ old. let w = g.end old in
        let low = w.low in
        record { turn = w.turn; low = omega arith; ends = w.ends; like = w.like })
        (λ here.
        let now = ends.ends here in
        record {
          turn = k;
          low = omega arith;
          ends = rw (L.from, L.by, L.to) at now;
          like = like_at;
        }) (or_cases ended m h)

    -- they are at their starts again
    pub going_round : u ≡ d → Together t a b d e (suc k) (ended || m) (set xs k x) (set ys k y)
    going_round h = record {
      left = left_more;
      right = right_more;
      left_round = sym L.to ∙ h;
      right_round = sym R.to ∙ like.round.0 h;
      end = end_more;
    }

    -- they go on
    pub going_on : u ≢ d → Going t a b d e xs₀ ys₀ (set xs k x) (set ys k y) u v (suc k) (ended || m)
    going_on h = record {
      left = left_more;
      right = right_more;
      left_new = λ _ z. h (L.to ∙ z);
      right_new = λ _ z. h (like.round.1 (R.to ∙ z));
      left_is = L.to;
      right_is = R.to;
      left_long = length-set xs k x ∙ g.left_long;
      right_long = length-set ys k y ∙ g.right_long;
      end = end_more;
    }
