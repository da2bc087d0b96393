-- The side of a dart.
-- `past`: links far apart go past each other.
-- `side_all`, `side_back`: what goes with the side's links holds of each of its darts, or of none; so it is with being i-free.
-- `sides_parted`: when two sides have no dart in common. `side_same`: where the far links are the same, the sides are.
-- Of the sides for link n: `side_within` (what the links 0..n-2 keep holds of a side), `straight_kept` (a side that stays is folded
-- only if it was), `straight_side` (where one dart of a side is not folded, none is).
use Prim.Native.Nat.{ℕ, suc, ◌+◌, ◌*◌, ◌≤◌, ◌<◌}
use mathlib.Core.Path.{◌≡◌, refl, sym, ap, ap₂, ◌∙◌, subst, fun_ext}
use mathlib.Core.Logic.{inl, inr}
use mathlib.Core.Bool.{Bool, true, ◌||◌, or-true}
use mathlib.Core.List.Memᴰ.{eq_of_singleton as sole}
use mathlib.Core.List.Memᴰ.{head as here}
use mathlib.Core.List.{List, [], ◌∷◌, Memᴰ as In}
use native.Mathlib.Nat.{le_refl}
use native.Mathlib.Omega.{arith}
use lib.ListN.{length, get_or, replicate}
use lib.Dec.{leb}
use borrow.Author.Tests.{leb-true, le-leb}
use Rattle.model.specs.Table.{slots, link, live, walk}
use Rattle.model.specs.Reach.{flood, steps, links, closure}
use Rattle.model.specs.Sew.{side_words, side}
use Rattle.model.specs.Meaning.Maps.{MapTable, Straight}
use Rattle.model.specs.Meaning.Pairings.{Far, OnSide}
use Rattle.model.specs.Meaning.Sets.{Least, Marked}
use Rattle.theorems.proofs.Lists.Scan.{test, if_eq}
use Rattle.theorems.proofs.Sets.Closure.{closure_least}
use Rattle.theorems.proofs.Sets.Links.{walk_in, walk_of, steps_same, word_in, word_of}
use Rattle.theorems.proofs.Maps.Rules.{dead_link}
use Rattle.theorems.proofs.Maps.Tables.{live_below, rule_at}

-- ---- links of a map

module _ {n : ℕ} {t : List ℕ} (T : MapTable n t) (x : ℕ) where
  -- a dart whose link is live is live
  pub live_before : (j : ℕ) → j < 4 → live t (link t j x) ≡ true → live t x ≡ true
  live_before j l h = test (live t x) (λ e. e)
      (λ e. let out = dead_link t x e j l in let low = live_below T (link t j x) h in absurd (omega arith))

  module _ (lives : live t x ≡ true) where
    cross : (i j : ℕ) → i + 2 ≤ j → j ≤ n → link t i (link t j x) ≡ link t j (link t i x)
    cross i j h l =
        let i4 : i < 4 = omega arith in
        let j4 : j < 4 = omega arith in
        let a = (rule_at T x lives).goes i i4 in
        let b = (rule_at T (link t i x) a).goes j j4 in
        let y = link t j (link t i x) in
        let c = (rule_at T y b).goes i i4 in
        let round = ap (link t j) (sym ((rule_at T x lives).cross i j h l)) ∙ (rule_at T (link t i y) c).comes j j4 in
        ap (link t i) round ∙ (rule_at T y b).comes i i4

    pub past : (i j : ℕ) → i ≤ n → j ≤ n → Far i j → link t i (link t j x) ≡ link t j (link t i x)
    past i j hi hj (inl h) = cross i j h hj
    past i j hi hj (inr h) = sym (cross j i h hi)

-- ---- the words of a side

far_test : ℕ → ℕ → Bool
far_test i j = leb (i + 2) j || leb (j + 2) i

far_passes : (i j : ℕ) → Far i j → far_test i j ≡ true
unfolding far_test
far_passes i j (inl h) = rw (le-leb _ _ h)
far_passes i j (inr h) = rw (le-leb _ _ h) (or-true (leb (i + 2) j))

passes_far : (i j : ℕ) → far_test i j ≡ true → Far i j
unfolding far_test
passes_far i j h = test (leb (i + 2) j) (λ e. inl (leb-true _ _ e)) (λ e. inr (leb-true (j + 2) i (rw e at h)))

module _ (n i : ℕ) where
  pub side_word_in : (j : ℕ) → Far i j → j ≤ n → In (j ∷ []) (side_words n i)
  unfolding side_words links far_test
  side_word_in j f l = word_in (far_test i) (suc n) 0 j (omega arith) (omega arith) (far_passes i j f)

  -- what holds of each far link holds of each word
  pub side_word_of : (P : List ℕ → Type 0) → ((j : ℕ) → Far i j → j ≤ n → P (j ∷ [])) → (w : List ℕ) → In w (side_words n i) → P w
  unfolding side_words links far_test
  side_word_of P h = word_of (far_test i) P (suc n) 0 (λ j l e. h j (passes_far i j e) (omega arith))

  side_step : (t : List ℕ) (x : ℕ) (P : ℕ → Type 0) → ((j : ℕ) → Far i j → j ≤ n → P (link t j x))
      → (y : ℕ) → In y (steps t (side_words n i) x) → P y
  unfolding walk
  side_step t x P h y k =
      let r = walk_of t x (side_words n i) y k in
      subst P (sym r.2) (side_word_of (λ w. P (walk t w x)) h r.0 r.1)

-- ---- the side of a dart

pub side_least : (n : ℕ) (t : List ℕ) (i d : ℕ) → Least (steps t (side_words n i)) (slots t) (d ∷ []) (side n t i d)
unfolding side
side_least n t i d = closure_least t (side_words n i) (d ∷ [])

module _ {n : ℕ} {t : List ℕ} {i d : ℕ} (on : OnSide n t i d) where
  pub side_live : (x : ℕ) → Marked (side n t i d) x → live t x ≡ true
  side_live = (side_least n t i d).within (λ x. live t x ≡ true) (λ x k _. rw (sole k) on.lives)
      (λ x y _ h k _. side_step n i t x (λ z. live t z ≡ true) (λ j f l. (rule_at on.table x h).goes j (omega arith)) y k)

  pub side_own : Marked (side n t i d) d
  side_own = (side_least n t i d).holds d (here refl) (live_below on.table d on.lives)

  module _ (x : ℕ) where
    pub side_comes : Marked (side n t i d) x → (j : ℕ) → j ≤ n → link t j (link t j x) ≡ x
    side_comes h j l = (rule_at on.table x (side_live x h)).comes j (omega arith)

    pub side_past : Marked (side n t i d) x → (j : ℕ) → Far i j → j ≤ n → link t i (link t j x) ≡ link t j (link t i x)
    side_past h j f l = past on.table x (side_live x h) i j on.index l f

    pub side_far : (j : ℕ) → Marked (side n t i d) x → Far i j → j ≤ n → Marked (side n t i d) (link t j x)
    unfolding walk
    side_far j h f l = (side_least n t i d).closed x (link t j x) h
        (walk_in t x (side_words n i) (j ∷ []) (side_word_in n i j f l))
        (live_below on.table _ ((rule_at on.table x (side_live x h)).goes j (omega arith)))

  -- P goes with the links of the side
  abbrev Goes : (ℕ → Type 0) → Type 0
  Goes P = (x j : ℕ) → Marked (side n t i d) x → Far i j → j ≤ n → P x → P (link t j x)

  -- what goes with the links of the side and holds of d holds of each of its darts ..
  pub side_all : (P : ℕ → Type 0) → Goes P → P d → (x : ℕ) → Marked (side n t i d) x → P x
  side_all P goes base x m = ((side_least n t i d).within (λ y. Marked (side n t i d) y × P y)
      (λ y k _. (rw (sole k) side_own, rw (sole k) base))
      (λ y z _ h k _. side_step n i t y (λ z. Marked (side n t i d) z × P z)
      (λ j f l. (side_far y j h.0 f l, goes y j h.0 f l h.1)) z k) x m).1

  -- .. and if it holds of one of them, it holds of d
  side_back : (P : ℕ → Type 0) → Goes P → (x : ℕ) → Marked (side n t i d) x → P x → P d
  side_back P goes = side_all (λ x. P x → P d)
      (λ x j h f l rest p. rest (subst P (side_comes x h j l) (goes (link t j x) j (side_far x j h f l) f l p))) (λ p. p)

  -- a dart that a far link takes into the side is in it
  pub side_from_lem : (x j : ℕ) → live t x ≡ true → Far i j → j ≤ n → Marked (side n t i d) (link t j x) → Marked (side n t i d) x
  side_from_lem x j lives f l h =
      let back = (rule_at on.table x lives).comes j (omega arith) in
      subst (Marked (side n t i d)) back (side_far (link t j x) j h f l)

  free_goes : Goes (λ x. link t i x ≡ x)
  free_goes x j h f l e = side_past x h j f l ∙ ap (link t j) e

  -- where one dart of the side is i-free, d is ..
  pub side_free_back : (x : ℕ) → Marked (side n t i d) x → link t i x ≡ x → link t i d ≡ d
  side_free_back = side_back (λ x. link t i x ≡ x) free_goes

  -- .. and where d is i-free, each dart of the side is; then no link i leads into it from outside
  module _ (free : link t i d ≡ d) where
    pub side_free : (x : ℕ) → Marked (side n t i d) x → link t i x ≡ x
    side_free = side_all (λ x. link t i x ≡ x) free_goes free

    pub side_over : (x : ℕ) → Marked (side n t i d) (link t i x) → Marked (side n t i d) x
    side_over x h =
        let lives = live_before on.table x i (omega arith) (side_live (link t i x) h) in
        subst (Marked (side n t i d)) (sym (side_free (link t i x) h) ∙ (rule_at on.table x lives).comes i (omega arith)) h

-- ---- two sides

-- a dart is in the one set, in the other, or outside of both
pub data Place (r s : List ℕ) (x : ℕ) : Type 0 where
  own : Marked r x → Place r s x
  other : Marked s x → Place r s x
  outside : (Marked r x → ⊥) → (Marked s x → ⊥) → Place r s x

pub place : (r s : List ℕ) (x : ℕ) → Place r s x
place r s x = if_eq (get_or r x 0) 1 own (λ a. if_eq (get_or s x 0) 1 other (λ b. outside a b))

-- sides of which one does not hold the other's dart have no dart in common
pub sides_parted : {n : ℕ} {t : List ℕ} {i d e : ℕ} → OnSide n t i d → OnSide n t i e → (Marked (side n t i d) e → ⊥)
    → (x : ℕ) → Marked (side n t i d) x → Marked (side n t i e) x → ⊥
sides_parted {n} {t} {i} {d} left right apart x hd he =
    apart (side_back right (Marked (side n t i d)) (λ y j _ f l h. side_far left y j h f l) x he hd)

-- where the far links are the same, the sides are
pub side_same : (n : ℕ) (t u : List ℕ) (i d : ℕ) → slots u ≡ slots t → ((x j : ℕ) → Far i j → j ≤ n → link u j x ≡ link t j x)
    → side n u i d ≡ side n t i d
unfolding side closure walk
side_same n t u i d size same =
    let one : steps u (side_words n i) ≡ steps t (side_words n i)
    = fun_ext (λ x. steps_same u t x (side_words n i) (side_word_of n i (λ w. walk u w x ≡ walk t w x) (λ j f l. same x j f l))) in
    ap₂ (λ (f : ℕ → List ℕ) (k : ℕ). flood f (length (d ∷ []) + length (side_words n i) * k) (d ∷ []) (replicate k 0)) one size

-- ---- the sides for link n

-- what holds of x, and is kept by the links 0..n-2, holds of its side
pub side_within : (n : ℕ) (u : List ℕ) (x : ℕ) (P : ℕ → Type 0) → P x → ((y j : ℕ) → j + 2 ≤ n → P y → P (link u j y))
    → (y : ℕ) → Marked (side n u n x) y → P y
side_within n u x P base kept = (side_least n u n x).within P (λ y k _. subst P (sym (sole k)) base)
    (λ y z _ p k _. side_step n n u y P (λ j far low. kept y j (near j far low) p) z k)
  where
    near : (j : ℕ) → Far n j → j ≤ n → j + 2 ≤ n
    near j (inl far) low = absurd (omega arith)
    near j (inr far) low = far

pub on_side : {n : ℕ} {t : List ℕ} → MapTable n t → (x : ℕ) → live t x ≡ true → OnSide n t n x
on_side {n} T x l = record { table = T; index = le_refl n; lives = l }

module _ {n : ℕ} {t : List ℕ} {d : ℕ} (on : OnSide n t n d) where
  -- where the links 0..n-2 of the side stay, it is no larger
  pub side_shrinks : (u : List ℕ) → ((y j : ℕ) → j + 2 ≤ n → Marked (side n t n d) y → link u j y ≡ link t j y)
      → (y : ℕ) → Marked (side n u n d) y → Marked (side n t n d) y
  side_shrinks u stays = side_within n u d (Marked (side n t n d)) (side_own on)
      (λ y j near m. subst (Marked (side n t n d)) (sym (stays y j near m)) (side_far on y j m (inr near) (omega arith)))

  -- and where link n of d stays too, d is as straight as it was
  pub straight_kept : (u : List ℕ) → ((y j : ℕ) → j + 2 ≤ n → Marked (side n t n d) y → link u j y ≡ link t j y)
      → link u n d ≡ link t n d → Straight n t d → Straight n u d
  straight_kept u stays same straight m =
      same ∙ straight (subst (Marked (side n t n d)) same (side_shrinks u stays (link u n d) m))

  -- the side of a dart of the side is within it
  pub side_part : (x : ℕ) → Marked (side n t n d) x → (y : ℕ) → Marked (side n t n x) y → Marked (side n t n d) y
  side_part x h = side_within n t x (Marked (side n t n d)) h (λ y j near m. side_far on y j m (inr near) (omega arith))

  -- link n carries a side onto a side: where it leads from one dart of the side into it, it does so from d ..
  pub side_into : (x : ℕ) → Marked (side n t n d) x → Marked (side n t n d) (link t n x) → Marked (side n t n d) (link t n d)
  side_into = side_back on (λ y. Marked (side n t n d) (link t n y)) over
    where
      over : (y j : ℕ) → Marked (side n t n d) y → Far n j → j ≤ n → Marked (side n t n d) (link t n y)
          → Marked (side n t n d) (link t n (link t j y))
      over y j k far low m = subst (Marked (side n t n d)) (sym (side_past on y k j far low)) (side_far on (link t n y) j m far low)

  -- .. so where d is not folded, none of them is
  pub straight_side : Straight n t d → (x : ℕ) → Marked (side n t n d) x → Straight n t x
  straight_side straight x h m =
      if_eq (link t n d) d (λ free. side_free on free x h)
      (λ e. absurd (e (straight (side_into x h (side_part x h (link t n x) m)))))
