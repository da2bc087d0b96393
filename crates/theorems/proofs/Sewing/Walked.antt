-- The walk of the sides of d and e, from d and e: the partners that it finds.
-- They hold d and e, go with the sides' links, are the least such, and each dart of d's side has one.
-- `Both`: the two walks that sew makes; their partners are each other's reverse.
use Prim.Native.Nat.{ℕ, zero, suc, ◌+◌, ◌*◌, ◌≤◌, ◌<◌}
use mathlib.Core.Path.{◌≡◌, refl, sym, ap, subst}
use mathlib.Core.Logic.{◌≢◌}
use mathlib.Core.Bool.{true}
use mathlib.Core.Option.{none, some}
use mathlib.Core.List.Memᴰ.{eq_of_singleton as sole}
use mathlib.Core.List.Memᴰ.{head as here}
use mathlib.Core.List.{List, [], ◌∷◌, Memᴰ as In}
use native.Mathlib.Nat.{le_refl}
use native.Mathlib.Omega.{arith}
use lib.ListN.{length, get_or, replicate, length-replicate}
use Rattle.model.specs.Lists.{count}
use Rattle.model.specs.Table.{unused, slots, link, live, walk}
use Rattle.model.specs.Sew.{side_words, side, couple, partners}
use Rattle.model.specs.Meaning.Pairings.{Far, OnSide}
use Rattle.model.specs.Meaning.Sets.{Marked}
use Rattle.theorems.proofs.Lists.Scan.{if_eq}
use Rattle.theorems.proofs.Maps.Tables.{live_below, rule_at}
use Rattle.theorems.proofs.Sewing.Side.{side_word_in, side_word_of, side_own, side_far, side_all}
use Rattle.theorems.proofs.Sewing.Partners.{Partner, at_couple, PairsUp, pair_up_steps, pair_up_within, pair_up_finds}
use Rattle.theorems.proofs.Sewing.Partners.{Complete, pair_up_complete}

-- ---- where the walk begins

-- no dart has a partner
pub unpaired : (k a b : ℕ) → Partner (replicate k unused) a b → ⊥
unpaired zero a b h = h.real (sym h.is)
unpaired (suc k) zero b h = h.real (sym h.is)
unpaired (suc k) (suc a) b h = unpaired k a b (record { is = h.is; real = h.real })

pub count_unpaired : (k : ℕ) → count unused (replicate k unused) ≡ k
unfolding count
count_unpaired zero = refl
count_unpaired (suc k) = ap suc (count_unpaired k)

module _ (n : ℕ) (t : List ℕ) (i d e : ℕ) where
  abbrev fuel : ℕ
  fuel = 1 + length (side_words n i) * slots t

  abbrev none_yet : List ℕ
  none_yet = replicate (slots t) unused

  partners_steps : PairsUp t (side_words n i) fuel (couple d e ∷ []) none_yet (partners n t i d e)
  unfolding partners
  partners_steps = pair_up_steps t (side_words n i) fuel (couple d e ∷ []) none_yet

  -- a relation that goes with the links of the sides
  module _ (R : ℕ → ℕ → Type 0) (goes : (x y j : ℕ) → R x y → Far i j → j ≤ n → R (link t j x) (link t j y)) where
    by_word : (x y : ℕ) (w : List ℕ) → R x y → In w (side_words n i) → R (walk t w x) (walk t w y)
    unfolding walk
    by_word x y w h = side_word_of n i (λ v. R (walk t v x) (walk t v y)) (λ j f l. goes x y j h f l) w

    -- where it holds of d and e and gives each dart one partner, the walk does not fail
    pub partners_some : R d e → ((x y z : ℕ) → R x y → R x z → y ≡ z) → partners n t i d e ≡ none → ⊥
    partners_some r one h = pair_up_finds t (side_words n i) R by_word one (rw h at partners_steps)
        (λ a b k. at_couple R r (sole k)) (λ a b k. absurd (unpaired (slots t) a b k))

-- ---- what it finds

-- the walk found the partners p of d's side
pub record Walked (n : ℕ) (t : List ℕ) (i d e : ℕ) (p : List ℕ) : Type 0 where
  pub left : OnSide n t i d
  pub right : OnSide n t i e
  pub found : partners n t i d e ≡ some p

module _ {n : ℕ} {t : List ℕ} {i d e : ℕ} {p : List ℕ} (walked : Walked n t i d e p) where
  steps : PairsUp t (side_words n i) (fuel n t i d e) (couple d e ∷ []) (none_yet n t i d e) (some p)
  steps = rw walked.found at (partners_steps n t i d e)

  complete : Complete t (side_words n i) (couple d e ∷ []) (none_yet n t i d e) p
  complete = pair_up_complete t (side_words n i) (slots t) Fit fits (by_word n t i d e Fit goes) steps
      (length-replicate (slots t) unused) (rw count_unpaired (le_refl _))
      (λ a b k. at_couple Fit (walked.left.lives, walked.right.lives) (sole k)) (λ a b w k. absurd (unpaired (slots t) a b k))
    where
      Fit : ℕ → ℕ → Type 0
      Fit x y = (live t x ≡ true) × (live t y ≡ true)

      fits : (x y : ℕ) → Fit x y → (x < slots t) × (y ≢ unused)
      fits x y h =
          let low = live_below walked.left.table y h.1 in
          (live_below walked.left.table x h.0, λ q. omega arith)

      goes : (x y j : ℕ) → Fit x y → Far i j → j ≤ n → Fit (link t j x) (link t j y)
      goes x y j h f l = (
        (rule_at walked.left.table x h.0).goes j (omega arith),
        (rule_at walked.left.table y h.1).goes j (omega arith),
      )

  start : Partner p d e
  start = complete.holds d e (here refl)

  far : (x y j : ℕ) → Partner p x y → Far i j → j ≤ n → Partner p (link t j x) (link t j y)
  unfolding walk
  far x y j h f l = complete.goes x y (j ∷ []) h (side_word_in n i j f l)

  within : (R : ℕ → ℕ → Type 0) → R d e → ((x y j : ℕ) → R x y → Far i j → j ≤ n → R (link t j x) (link t j y))
      → (x y : ℕ) → Partner p x y → R x y
  within R r goes = pair_up_within t (side_words n i) R (by_word n t i d e R goes) steps
      (λ a b k. at_couple R r (sole k)) (λ a b k. absurd (unpaired (slots t) a b k))

  -- both darts of a couple are in their sides
  in_sides_lem : (x y : ℕ) → Partner p x y → Marked (side n t i d) x × Marked (side n t i e) y
  in_sides_lem = within (λ x y. Marked (side n t i d) x × Marked (side n t i e) y) (side_own walked.left, side_own walked.right)
      (λ x y j h f l. (side_far walked.left x j h.0 f l, side_far walked.right y j h.1 f l))

  -- each dart of the side has a partner
  has : (x : ℕ) → Marked (side n t i d) x → Partner p x (get_or p x unused)
  has x m = let r = all x m in subst (Partner p x) (sym r.1.is) r.1
    where
      all : (x : ℕ) → Marked (side n t i d) x → (y : ℕ) × Partner p x y
      all = side_all walked.left (λ x. (y : ℕ) × Partner p x y)
          (λ x j _ f l h. (link t j h.0, far x h.0 j h.1 f l)) (e, start)

  pub partners_start : get_or p d unused ≡ e
  partners_start = start.is

  module _ (x : ℕ) where
    pub partners_real : Marked (side n t i d) x → get_or p x unused ≢ unused
    partners_real h = (has x h).real

    pub partners_goes : (j : ℕ) → Marked (side n t i d) x → Far i j → j ≤ n
        → get_or p (link t j x) unused ≡ link t j (get_or p x unused)
    partners_goes j h f l = (far x (get_or p x unused) j (has x h) f l).is

    pub partners_into : Marked (side n t i d) x → Marked (side n t i e) (get_or p x unused)
    partners_into h = (in_sides_lem x (get_or p x unused) (has x h)).1

    -- a dart outside of the side has none
    pub partners_none : (Marked (side n t i d) x → ⊥) → get_or p x unused ≡ unused
    partners_none out = if_eq (get_or p x unused) unused (λ e. e)
        (λ e. absurd (out (in_sides_lem x (get_or p x unused) (record { is = refl; real = e })).0))

-- ---- the two walks of sew

pub record Both (n : ℕ) (t : List ℕ) (i d e : ℕ) (p q : List ℕ) : Type 0 where
  pub there : Walked n t i d e p
  pub back : Walked n t i e d q

pub both_flip : {n : ℕ} {t : List ℕ} {i d e : ℕ} {p q : List ℕ} → Both n t i d e p q → Both n t i e d q p
both_flip both = record { there = both.back; back = both.there }

-- the partner of a dart's partner is the dart
pub both_back : {n : ℕ} {t : List ℕ} {i d e : ℕ} {p q : List ℕ} → Both n t i d e p q
    → (x : ℕ) → Marked (side n t i d) x → get_or q (get_or p x unused) unused ≡ x
both_back {p = p} {q = q} both x h = (within both.there (λ x y. Partner q y x) (start both.back)
    (λ x y j h f l. far both.back y x j h f l) x (get_or p x unused) (has both.there x h)).is
