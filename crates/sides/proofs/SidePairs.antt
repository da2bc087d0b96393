-- Two sides walked in step, as a walk of couples. `pair_alike`: where there is a pairing, the walks are alike at each turn, so `not_paired`
-- where they differ. `listing`: lists of all couples met, none twice, are those of the only pairing.
use Prim.Native.Nat.{ℕ, zero, suc, ◌≤◌, ◌<◌}
use mathlib.Core.Path.{◌≡◌, refl, sym, ap, ap₂, ◌∙◌}
use mathlib.Core.Logic.{inl, inr, ⊎_elim}
use mathlib.Core.Bool.{true, false}
use mathlib.Core.Option.{Option, none, some}
use mathlib.Core.List.{List}
use native.Mathlib.Omega.{arith}
use lib.ListN.{get_or}
use Rattle.model.specs.Table.{link}
use Rattle.model.specs.Sew.{side, partners, is_paired}
use Rattle.model.specs.Meaning.Sets.{Marked}
use Rattle.model.specs.Meaning.Pairings.{Far, OnSide, Pairing}
use Rattle.theorems.proofs.Lists.Scan.{if_eq, if_lt, test}
use Rattle.theorems.proofs.Maps.Tables.{rule_at}
use Rattle.theorems.proofs.Sets.Pigeon.{count_by}
use Rattle.theorems.proofs.Sewing.Side.{side_live, side_own, side_all}
use Rattle.theorems.proofs.Sewing.Pairing.{paired_exactly}
use Rattle.theorems.proofs.Sewing.Walked.{partners_some}
use Rattle.sides.specs.Turns.{turned, turns, SideLink, SideLinks, Same, AlikeAt, Listing}
use Rattle.sides.proofs.Turning.{Turning, Met, met_start, met_first, met_second, met_all}
use Rattle.sides.proofs.SideTurns.{side_turning, side_turns}

-- ---- a walk of couples

-- link j of both
abbrev pub both_links : List ℕ → ℕ → ℕ × ℕ → ℕ × ℕ
both_links t j z = (link t j z.0, link t j z.1)

pub turned_both : (t : List ℕ) (a b d e k : ℕ)
    → turned (both_links t a) (both_links t b) (d, e) k ≡ (turns t a b d k, turns t a b e k)
unfolding turned
turned_both t a b d e zero = refl
turned_both t a b d e (suc k) = ap (λ (z : ℕ × ℕ). both_links t b (both_links t a z)) (turned_both t a b d e k)

pub couple_is : {x y u v : ℕ} → x ≡ u → y ≡ v → ◌≡◌ {A = ℕ × ℕ} (x, y) (u, v)
couple_is p q = ap₂ (λ (x y : ℕ). (x, y)) p q

-- x and y are at one place of the lists
pub record Place (xs ys : List ℕ) (r x y : ℕ) : Type 0 where
  pub at : ℕ
  pub low : at < r
  pub left : x ≡ get_or xs at 0
  pub right : y ≡ get_or ys at 0

module _ {n : ℕ} {t : List ℕ} {i d e : ℕ} (left : OnSide n t i d) (right : OnSide n t i e) {a b : ℕ} (links : SideLinks n i a b) where
  abbrev InBoth : ℕ × ℕ → Type 0
  InBoth z = Marked (side n t i d) z.0 × Marked (side n t i e) z.1

  pub couple_turning : Turning (both_links t a) (both_links t b) InBoth
  couple_turning =
      let l = side_turning left links in
      let r = side_turning right links in
      record {
        goes_first = λ z h. (l.goes_first z.0 h.0, r.goes_first z.1 h.1);
        goes_second = λ z h. (l.goes_second z.0 h.0, r.goes_second z.1 h.1);
        comes_first = λ z h. couple_is (l.comes_first z.0 h.0) (r.comes_first z.1 h.1);
        comes_second = λ z h. couple_is (l.comes_second z.0 h.0) (r.comes_second z.1 h.1);
      }

  pub couple_own : InBoth (d, e)
  couple_own = (side_own left, side_own right)

  -- ---- a pairing

  module _ (f : Pairing n t i d e) where
    pair_goes : {j : ℕ} → SideLink n i j → (x : ℕ) → Marked (side n t i d) x → f.f (link t j x) ≡ link t j (f.f x)
    pair_goes {j} (inl far) x h = f.goes x j h far.0 far.1
    pair_goes (inr flat) x h =
        let here = (rule_at left.table x (side_live left x h)).plane flat.0 in
        let there = (rule_at left.table (f.f x) (side_live right (f.f x) (f.into x h))).plane flat.0 in
        rw flat.1 (ap f.f here ∙ sym there)

    pair_turns : (k : ℕ) → f.f (turns t a b d k) ≡ turns t a b e k
    unfolding turned
    pair_turns zero = f.start
    pair_turns (suc k) =
        let m = side_turns left links k in
        pair_goes links.second _ ((side_turning left links).goes_first _ m)
        ∙ ap (link t b) (pair_goes links.first _ m ∙ ap (link t a) (pair_turns k))

    pair_same : {p x q y : ℕ} → Marked (side n t i d) p → Marked (side n t i d) x → f.f p ≡ q → f.f x ≡ y → Same p x q y
    pair_same {p} {x} mp mx ep ex = (λ h. sym ep ∙ ap f.f h ∙ ex, λ h. f.one p x mp mx (ep ∙ h ∙ sym ex))

    pair_alike : (k : ℕ) → AlikeAt t a b d e k
    pair_alike k =
        let m = side_turns left links k in
        let ma = (side_turning left links).goes_first _ m in
        let mb = side_turns left links (suc k) in
        let by = pair_goes links.first _ m ∙ ap (link t a) (pair_turns k) in
        record {
          first = pair_same ma m by (pair_turns k);
          second = pair_same mb ma (pair_turns (suc k)) by;
          round = pair_same mb (side_own left) (pair_turns (suc k)) f.start;
        }

  pub not_paired : (k : ℕ) → (AlikeAt t a b d e k → ⊥) → is_paired n t i d e ≡ false
  not_paired k differs = test (is_paired n t i d e) (λ h. absurd (differs (pair_alike ((paired_exactly left right).0 h) k))) (λ h. h)

  -- ---- the walks are at their starts again

  module _ (m : ℕ) (left_round : turns t a b d (suc m) ≡ d) (right_round : turns t a b e (suc m) ≡ e) where
    pub couple_round : turned (both_links t a) (both_links t b) (d, e) (suc m) ≡ (d, e)
    couple_round = turned_both t a b d e (suc m) ∙ couple_is left_round right_round

    abbrev pub Couple : ℕ → ℕ → Type 0
    Couple x y = Met couple_turning (d, e) couple_own m couple_round (x, y)

    couple_goes : (x y j : ℕ) → Couple x y → Far i j → j ≤ n → Couple (link t j x) (link t j y)
    couple_goes x y j h far low = ⊎_elim
        (λ is. rw is (met_first couple_turning (d, e) couple_own m couple_round (x, y) h))
        (λ is. rw is (met_second couple_turning (d, e) couple_own m couple_round (x, y) h)) (links.far j far low)

    module _ {xs ys : List ℕ} {r : ℕ} (to : (k : ℕ) → k < r → Couple (get_or xs k 0) (get_or ys k 0))
        (of : (x y : ℕ) → Couple x y → Place xs ys r x y)
        (left_apart : (p q : ℕ) → p < q → q < r → get_or xs p 0 ≡ get_or xs q 0 → ⊥)
        (right_apart : (p q : ℕ) → p < q → q < r → get_or ys p 0 ≡ get_or ys q 0 → ⊥) where
      start : Couple d e
      start = met_start couple_turning (d, e) couple_own m couple_round

      one_place : (l : List ℕ) → ((p q : ℕ) → p < q → q < r → get_or l p 0 ≡ get_or l q 0 → ⊥)
          → (p q : ℕ) → p < r → q < r → get_or l p 0 ≡ get_or l q 0 → p ≡ q
      one_place l apart p q hp hq e = if_eq p q (λ h. h) (λ h.
          if_lt p q (λ k. absurd (apart p q k hq e)) (λ k. absurd (apart q p (omega arith) hp (sym e))))

      one_right : (x y z : ℕ) → Couple x y → Couple x z → y ≡ z
      one_right x y z h k =
          let p = of x y h in
          let q = of x z k in
          let same = one_place xs left_apart p.at q.at p.low q.low (sym p.left ∙ q.left) in
          p.right ∙ ap (λ (w : ℕ). get_or ys w 0) same ∙ sym q.right

      one_left : (x y z : ℕ) → Couple x y → Couple z y → x ≡ z
      one_left x y z h k =
          let p = of x y h in
          let q = of z y k in
          let same = one_place ys right_apart p.at q.at p.low q.low (sym p.right ∙ q.right) in
          p.left ∙ ap (λ (w : ℕ). get_or xs w 0) same ∙ sym q.left

      paired : is_paired n t i d e ≡ true
      unfolding is_paired
      paired = go (partners n t i d e) (partners n t i e d) (partners_some n t i d e Couple couple_goes start one_right)
          (partners_some n t i e d (λ y x. Couple x y) (λ y x. couple_goes x y) start (λ y x z. one_left x y z))
        where
          go : (p q : Option (List ℕ)) → (p ≡ none → ⊥) → (q ≡ none → ⊥)
              → elim p [ none ↦ false | some u ↦ (elim q [ none ↦ false | some v ↦ true ]) ] ≡ true
          go none q x y = absurd (x refl)
          go (some p) none x y = absurd (y refl)
          go (some p) (some q) x y = refl

      marked : (k : ℕ) → k < r → Marked (side n t i d) (get_or xs k 0)
      marked k l = (met_all couple_turning (d, e) couple_own m couple_round InBoth
          (λ z h _. couple_turning.goes_first z h) (λ z h _. couple_turning.goes_second z h) couple_own _ (to k l)).0

      all : (x : ℕ) → Marked (side n t i d) x → (k : ℕ) × (k < r) × (get_or xs k 0 ≡ x)
      all x h =
          let c = side_all left (λ x. (y : ℕ) × Couple x y) (λ x j _ far low c. (link t j c.0, couple_goes x c.0 j c.1 far low))
          (e, start) x h in
          let p = of x c.0 c.1 in
          (p.at, p.low, sym p.left)

      pub listing : Listing n t i d e r xs ys
      listing = record {
        paired = paired;
        size = sym (count_by (side n t i d) (λ k. get_or xs k 0) r
            (λ x h. let w = all x h in (w.0, w.1, sym w.2)) marked left_apart);
        all = all;
        marked = marked;
        pairs = λ f k l. pairs f k l;
      }
        where
          pairs : (f : Pairing n t i d e) (k : ℕ) → k < r → f.f (get_or xs k 0) ≡ get_or ys k 0
          pairs f k l = met_all couple_turning (d, e) couple_own m couple_round (λ z. f.f z.0 ≡ z.1)
              (λ z h p. pair_goes f links.first z.0 h.0 ∙ ap (link t a) p)
              (λ z h p. pair_goes f links.second z.0 h.0 ∙ ap (link t b) p) f.start _ (to k l)
