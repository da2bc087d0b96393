-- The lists that two sides walked in step give: where the walks have met an end, the darts after each turn (`open_listing`); where not,
-- these and the darts on the way (`shut_listing`), for which there is room (`shut_room`). `step_differs`, `step_ended` and `step_mirrored`
-- are the ends of `in_step`.
use Prim.Native.Nat.{ℕ, zero, suc, ◌+◌, ◌-◌, ◌*◌, ◌≤◌, ◌<◌}
use mathlib.Core.Path.{◌≡◌, refl, sym, ap, ◌∙◌}
use mathlib.Core.Logic.{◌⊎◌, inl, inr, ⊎_elim}
use mathlib.Core.Bool.{Bool, true, false}
use mathlib.Core.List.{List}
use native.Mathlib.Omega.{arith}
use lib.ListN.{length, get_or}
use Rattle.model.specs.Table.{slots, link}
use Rattle.model.specs.Sew.{side, is_paired}
use Rattle.model.specs.Meaning.Sets.{Marked}
use Rattle.model.specs.Meaning.Pairings.{OnSide}
use Rattle.theorems.proofs.Lists.Scan.{if_lt}
use Rattle.theorems.proofs.Maps.Tables.{live_below}
use Rattle.theorems.proofs.Sewing.Side.{side_live, side_own, sides_parted}
use Rattle.sides.specs.Turns.{turned, turns, SideLinks, Gone, BothEnd, Together, Unlike, Walked, Parted}
use Rattle.sides.specs.Turns.{Mirrors, Mirrored, Apart, Listing, Listed}
use Rattle.sides.proofs.Turning.{turned_apart, mirror_apart, open_all}
use Rattle.sides.proofs.SideTurns.{both, both_low, both_high, few_both}
use Rattle.sides.proofs.SideTurns.{side_start_lem, side_turning, side_turns, turns_live, turns_few, turns_fit}
use Rattle.sides.proofs.SidePairs.{both_links, turned_both, couple_is, couple_turning, couple_own, couple_round, Couple, Place}
use Rattle.sides.proofs.SidePairs.{not_paired, listing}

-- ---- the darts after each turn and those on the way, of one side

module _ (t : List ℕ) (a b d m : ℕ) where
  abbrev double : ℕ → ℕ
  double k = both (suc m) (turns t a b d) (λ j. link t a (turns t a b d j)) k

  -- what holds of both kinds
  double_all : (P : ℕ → Type 0) → ((j : ℕ) → P (turns t a b d j)) → ((j : ℕ) → P (link t a (turns t a b d j))) → (k : ℕ) → P (double k)
  double_all P own way k = if_lt k (suc m)
      (λ l. rw (both_low (suc m) (turns t a b d) (λ j. link t a (turns t a b d j)) k l) (own k))
      (λ l. rw (both_high (suc m) (turns t a b d) (λ j. link t a (turns t a b d j)) k l) (way (k - suc m)))

  -- the list has them
  double_listed : {ended : Bool} {xs xs' : List ℕ} → Gone t a b d (suc m) ended xs → Mirrored t a (suc m) xs xs'
      → (k : ℕ) → k < suc m + suc m → get_or xs' k 0 ≡ double k
  double_listed {xs' = xs'} g h k l = if_lt k (suc m)
      (λ low. h.stays k low ∙ g.listed k low
      ∙ sym (both_low (suc m) (turns t a b d) (λ j. link t a (turns t a b d j)) k low))
      (λ high.
      let j : k - suc m < suc m = omega arith in
      let at : k ≡ suc m + (k - suc m) = omega arith in
      ap (λ (i : ℕ). get_or xs' i 0) at ∙ h.added (k - suc m) j ∙ ap (link t a) (g.listed (k - suc m) j)
      ∙ sym (both_high (suc m) (turns t a b d) (λ j. link t a (turns t a b d j)) k high))

module _ {n : ℕ} {t : List ℕ} {i d : ℕ} (on : OnSide n t i d) {a b : ℕ} (links : SideLinks n i a b) (m : ℕ) where
  double_marked : (k : ℕ) → Marked (side n t i d) (double t a b d m k)
  double_marked = double_all t a b d m (Marked (side n t i d)) (side_turns on links)
      (λ j. (side_turning on links).goes_first _ (side_turns on links j))

  double_low : (k : ℕ) → double t a b d m k < slots t
  double_low k = live_below on.table _ (side_live on _ (double_marked k))

  -- where the walk has met no end, no two of them are the same
  double_apart : {xs : List ℕ} → Gone t a b d (suc m) false xs → (p q : ℕ) → p < q → q < suc m + suc m
      → double t a b d m p ≡ double t a b d m q → ⊥
  double_apart g p q pq lq e =
      let way : ℕ → ℕ = λ j. link t a (turns t a b d j) in
      let T = side_turning on links in
      let own = side_own on in
      let low : (k : ℕ) → k < suc m → double t a b d m k ≡ turns t a b d k = both_low (suc m) (turns t a b d) way in
      let high : (k : ℕ) → suc m ≤ k → double t a b d m k ≡ way (k - suc m) = both_high (suc m) (turns t a b d) way in
      if_lt q (suc m)
      (λ hq. turned_apart T d own (suc m) g.new p q pq hq (sym (low p (omega arith)) ∙ e ∙ low q hq))
      (λ hq. if_lt p (suc m)
      (λ hp. mirror_apart T d own (suc m) (g.shut refl) (q - suc m) p (omega arith) hp (sym (sym (low p hp) ∙ e ∙ high q hq)))
      (λ hp.
      let same : way (p - suc m) ≡ way (q - suc m) = sym (high p hp) ∙ e ∙ high q hq in
      let back : (j : ℕ) → link t a (way j) ≡ turns t a b d j = λ j. T.comes_first _ (side_turns on links j) in
      turned_apart T d own (suc m) g.new (p - suc m) (q - suc m) (omega arith) (omega arith)
      (sym (back (p - suc m)) ∙ ap (link t a) same ∙ back (q - suc m))))

-- ---- two sides

module _ {n : ℕ} {t : List ℕ} {i d e : ℕ} (left : OnSide n t i d) (right : OnSide n t i e) {a b : ℕ} (links : SideLinks n i a b)
    (m : ℕ) {ended : Bool} {xs ys : List ℕ} (w : Together t a b d e (suc m) ended xs ys) where
  abbrev at : ℕ → ℕ × ℕ
  at k = turned (both_links t a) (both_links t b) (d, e) k

  abbrev Coupled : ℕ → ℕ → Type 0
  Coupled x y = Couple left right links m w.left_round w.right_round x y

  coupled_own : (k : ℕ) → k < suc m → Coupled (turns t a b d k) (turns t a b e k)
  coupled_own k l = record { turns = k; low = l; is = inl (sym (turned_both t a b d e k)) }

  coupled_way : (k : ℕ) → k < suc m → Coupled (link t a (turns t a b d k)) (link t a (turns t a b e k))
  coupled_way k l = record { turns = k; low = l; is = inr (ap (both_links t a) (sym (turned_both t a b d e k))) }

  -- they have met an end
  pub open_listing : BothEnd t a b d e (suc m) → Listing n t i d e (suc m) xs ys
  open_listing h = listing left right links m w.left_round w.right_round to of
      (λ p q pq l same. turned_apart (side_turning left links) d (side_own left) (suc m) w.left.new p q pq l
      (sym (w.left.listed p (omega arith)) ∙ same ∙ w.left.listed q l))
      (λ p q pq l same. turned_apart (side_turning right links) e (side_own right) (suc m) w.right.new p q pq l
      (sym (w.right.listed p (omega arith)) ∙ same ∙ w.right.listed q l))
    where
      fixed : (both_links t a (at h.turn) ≡ at h.turn) ⊎ (at (suc h.turn) ≡ both_links t a (at h.turn))
      fixed =
          let here = turned_both t a b d e h.turn in
          let next = turned_both t a b d e (suc h.turn) in
          ⊎_elim (λ z. inl (ap (both_links t a) here ∙ couple_is z (h.like.first.0 z) ∙ sym here))
          (λ z. inr (next ∙ couple_is z (h.like.second.0 z) ∙ ap (both_links t a) (sym here))) h.ends

      to : (k : ℕ) → k < suc m → Coupled (get_or xs k 0) (get_or ys k 0)
      to k l = rw (w.left.listed k l, w.right.listed k l) (coupled_own k l)

      of : (x y : ℕ) → Coupled x y → Place xs ys (suc m) x y
      of x y met =
          let o = open_all (couple_turning left right links) (d, e) (couple_own left right links) m
          (couple_round left right links m w.left_round w.right_round) h.turn h.low fixed (x, y) met in
          let is = o.is ∙ turned_both t a b d e o.turns in
          record {
            at = o.turns;
            low = o.low;
            left = ap (λ (z : ℕ × ℕ). z.0) is ∙ sym (w.left.listed o.turns o.low);
            right = ap (λ (z : ℕ × ℕ). z.1) is ∙ sym (w.right.listed o.turns o.low);
          }

module _ {n : ℕ} {t : List ℕ} {i d e : ℕ} (left : OnSide n t i d) (right : OnSide n t i e) {a b : ℕ} (links : SideLinks n i a b)
    (m : ℕ) {xs ys : List ℕ} (w : Together t a b d e (suc m) false xs ys) where
  -- they have met no end
  pub shut_listing : {xs' ys' : List ℕ} → Mirrored t a (suc m) xs xs' → Mirrored t a (suc m) ys ys'
      → (r : ℕ) → r ≡ suc m + suc m → Listing n t i d e r xs' ys'
  shut_listing {xs'} {ys'} lm rm r size = listing left right links m w.left_round w.right_round to of
      (λ p q pq l same. double_apart left links m w.left p q pq (omega arith)
      (sym (at_left p (omega arith)) ∙ same ∙ at_left q (omega arith)))
      (λ p q pq l same. double_apart right links m w.right p q pq (omega arith)
      (sym (at_right p (omega arith)) ∙ same ∙ at_right q (omega arith)))
    where
      at_left : (k : ℕ) → k < suc m + suc m → get_or xs' k 0 ≡ double t a b d m k
      at_left = double_listed t a b d m w.left lm

      at_right : (k : ℕ) → k < suc m + suc m → get_or ys' k 0 ≡ double t a b e m k
      at_right = double_listed t a b e m w.right rm

      to : (k : ℕ) → k < r → Coupled left right links m w (get_or xs' k 0) (get_or ys' k 0)
      to k l = if_lt k (suc m)
          (λ low. rw (lm.stays k low, w.left.listed k low, rm.stays k low, w.right.listed k low)
          (coupled_own left right links m w k low))
          (λ high.
          let j : k - suc m < suc m = omega arith in
          let is : k ≡ suc m + (k - suc m) = omega arith in
          let x : get_or xs' k 0 ≡ link t a (turns t a b d (k - suc m))
          = ap (λ (z : ℕ). get_or xs' z 0) is ∙ lm.added _ j ∙ ap (link t a) (w.left.listed _ j) in
          let y : get_or ys' k 0 ≡ link t a (turns t a b e (k - suc m))
          = ap (λ (z : ℕ). get_or ys' z 0) is ∙ rm.added _ j ∙ ap (link t a) (w.right.listed _ j) in
          rw (x, y) (coupled_way left right links m w (k - suc m) j))

      of : (x y : ℕ) → Coupled left right links m w x y → Place xs' ys' r x y
      of x y met =
          let k = met.turns in
          let l = met.low in
          let both = turned_both t a b d e k in
          ⊎_elim (λ z.
          let is = z ∙ both in
          record {
            at = k;
            low = omega arith;
            left = ap (λ (z : ℕ × ℕ). z.0) is ∙ sym (lm.stays k l ∙ w.left.listed k l);
            right = ap (λ (z : ℕ × ℕ). z.1) is ∙ sym (rm.stays k l ∙ w.right.listed k l);
          })
          (λ z.
          let is = z ∙ ap (both_links t a) both in
          record {
            at = suc m + k;
            low = omega arith;
            left = ap (λ (z : ℕ × ℕ). z.0) is ∙ sym (lm.added k l ∙ ap (link t a) (w.left.listed k l));
            right = ap (λ (z : ℕ × ℕ). z.1) is ∙ sym (rm.added k l ∙ ap (link t a) (w.right.listed k l));
          }) met.is

  -- there is room for both kinds of darts of both sides
  pub shut_room : (Marked (side n t i d) e → ⊥) → (suc m + suc m) + (suc m + suc m) ≤ slots t
  shut_room apart = few_both (slots t) (suc m + suc m) (double t a b d m) (double t a b e m)
      (λ j _. double_low left links m j) (λ j _. double_low right links m j)
      (double_apart left links m w.left) (double_apart right links m w.right)
      (λ p q _ _ same. sides_parted left right apart _ (double_marked left links m p)
      (rw same (double_marked right links m q)))

-- ---- the ends of `in_step`

-- the walks are at their starts again, and have met no end
record Shut (t : List ℕ) (a b d e size : ℕ) (xs ys : List ℕ) : Type 0 where
  less : ℕ
  is : size ≡ suc less
  together : Together t a b d e (suc less) false xs ys

module _ {n : ℕ} {t : List ℕ} {i d e : ℕ} {xs₀ ys₀ : List ℕ} (A : Apart n t i d e xs₀ ys₀) {a b : ℕ} (links : SideLinks n i a b) where
  pub step_parted : Parted t a b d e xs₀ ys₀
  step_parted = record {
    left = side_start_lem A.left links;
    right = side_start_lem A.right links;
    apart = λ p q same. sides_parted A.left A.right A.apart _ (side_turns A.left links p)
        (rw same (side_turns A.right links q));
    left_room = A.left_room;
    right_room = A.right_room;
  }

  -- they differ
  pub step_differs : Unlike t a b d e → is_paired n t i d e ≡ false
  step_differs j = not_paired A.left A.right links j.0 j.1

  module _ {ended : Bool} {xs ys : List ℕ} where
    pub step_few : (size : ℕ) → Walked t a b d e size ended xs ys → size ≤ slots t
    step_few zero w = omega arith
    step_few (suc m) w = turns_few (side_start_lem A.left links) m w.round.left.new

    -- they have met an end
    pub step_ended : (size : ℕ) → Walked t a b d e size ended xs ys → ended ≡ true → Listed n t i d e size xs ys
    step_ended zero w h = absurd (let l = w.some in omega arith)
    step_ended (suc m) w h =
        let g = w.round in
        let P = step_parted in
        record {
          few = turns_fit P.left P.right P.apart m g.left.new g.right.new;
          some = w.some;
          lists = open_listing A.left A.right links m g (g.end h);
        }

    step_shut : (size : ℕ) → Walked t a b d e size ended xs ys → ended ≡ false → Shut t a b d e size xs ys
    step_shut zero w h = absurd (let l = w.some in omega arith)
    step_shut (suc m) w h = record { less = m; is = refl; together = rw h at w.round }

    module _ (size : ℕ) (w : Walked t a b d e size ended xs ys) (h : ended ≡ false) where
      room : (size + size) + (size + size) ≤ slots t
      room =
          let s = step_shut size w h in
          let l = shut_room A.left A.right links s.less s.together A.apart in
          let e = s.is in
          omega arith

      pub step_left : length xs ≡ length xs₀ → Mirrors t a size xs
      step_left long =
          let start = side_start_lem A.left links in
          let wide = A.left_room in
          let fit = room in
          record {
            linked = start.mapped.linked;
            low = start.first_low;
            lives = λ j l. rw (w.round.left.listed j l) (turns_live start j);
            room = omega arith;
          }

      pub step_right : length ys ≡ length ys₀ → Mirrors t a size ys
      step_right long =
          let start = side_start_lem A.right links in
          let wide = A.right_room in
          let fit = room in
          record {
            linked = start.mapped.linked;
            low = start.first_low;
            lives = λ j l. rw (w.round.right.listed j l) (turns_live start j);
            room = omega arith;
          }

      pub step_mirrored : {xs' ys' : List ℕ} → Mirrored t a size xs xs' → Mirrored t a size ys ys'
          → Listed n t i d e (2 * size) xs' ys'
      step_mirrored lm rm =
          let s = step_shut size w h in
          let e = s.is in
          let l = w.some in
          let fit = room in
          record {
            few = omega arith;
            some = omega arith;
            lists = shut_listing A.left A.right links s.less s.together (rw e at lm) (rw e at rm) (2 * size) (omega arith);
          }
