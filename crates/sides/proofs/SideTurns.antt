-- The walk of one side by its two links in turn. `side_turning`: they keep the side, and lead back. `side_met`: a walk that is at its start
-- again has met the whole side. `turns_few` and `turns_fit`: before that, it is shorter than the slots are many, and two walks with no dart
-- in common together are.
use Prim.Native.Nat.{ℕ, zero, suc, ◌+◌, ◌-◌, ◌≤◌, ◌<◌}
use mathlib.Core.Path.{◌≡◌, refl, sym, ap, ◌∙◌}
use mathlib.Core.Logic.{inl, inr, ◌≢◌, ⊎_elim}
use mathlib.Core.Bool.{true, false}
use mathlib.Core.List.{List, Memᴰ as In}
use native.Mathlib.Omega.{arith}
use lib.ListN.{replicate, get_or-replicate}
use lib.Dec.{ltb}
use borrow.Author.Tests.{lt-ltb, le-ltb}
use Rattle.model.specs.Lists.{count, tabulate_from}
use Rattle.model.specs.Table.{slots, link, live}
use Rattle.model.specs.Sew.{side}
use Rattle.model.specs.Meaning.Maps.{Dim, MapTable}
use Rattle.model.specs.Meaning.Sets.{Marked}
use Rattle.model.specs.Meaning.Pairings.{OnSide}
use Rattle.theorems.proofs.Lists.Scan.{if_lt, length_tab_from, in_tab}
use Rattle.theorems.proofs.Maps.Rules.{live_in}
use Rattle.theorems.proofs.Maps.Tables.{rule_at}
use Rattle.theorems.proofs.Sets.Pigeon.{distinct_le, distinct_tab}
use Rattle.theorems.proofs.Sewing.Side.{side_live, side_own, side_far, side_all}
use Rattle.sides.specs.Turns.{turns, SideLink, SideLinks, Mapped, Start}
use Rattle.sides.proofs.Entries.{map_linked}
use Rattle.sides.proofs.Turning.{Turning, turned_in, turned_apart, Met, met_start, met_first, met_second}

map_mapped : {n : ℕ} {t : List ℕ} → MapTable n t → Mapped t
map_mapped T = record { linked = map_linked T; comes = λ x j lives low. (rule_at T x lives).comes j low }

-- ---- the links of a side

link_below : {n i a : ℕ} → Dim n → SideLink n i a → a < 4
link_below dim (inl far) = let l = far.1 in omega arith
link_below dim (inr flat) = let e = flat.1 in omega arith

module _ {n : ℕ} {t : List ℕ} {i d : ℕ} (on : OnSide n t i d) where
  link_in_side : {a : ℕ} → SideLink n i a → (x : ℕ) → Marked (side n t i d) x → Marked (side n t i d) (link t a x)
  link_in_side {a} (inl far) x h = side_far on x a h far.0 far.1
  link_in_side (inr flat) x h =
      rw (flat.1, (rule_at on.table x (side_live on x h)).plane flat.0) h

  link_back : {a : ℕ} → SideLink n i a → (x : ℕ) → Marked (side n t i d) x → link t a (link t a x) ≡ x
  link_back {a} l x h = (rule_at on.table x (side_live on x h)).comes a (link_below on.table.dim l)

  module _ {a b : ℕ} (links : SideLinks n i a b) where
    pub side_start_lem : Start t a b d
    side_start_lem = record {
      mapped = map_mapped on.table;
      first_low = link_below on.table.dim links.first;
      second_low = link_below on.table.dim links.second;
      lives = on.lives;
    }

    pub side_turning : Turning (link t a) (link t b) (Marked (side n t i d))
    side_turning = record {
      goes_first = link_in_side links.first;
      goes_second = link_in_side links.second;
      comes_first = link_back links.first;
      comes_second = link_back links.second;
    }

    pub side_turns : (k : ℕ) → Marked (side n t i d) (turns t a b d k)
    side_turns = turned_in side_turning d (side_own on)

    pub side_met : (m : ℕ) (round : turns t a b d (suc m) ≡ d) (x : ℕ) → Marked (side n t i d) x
        → Met side_turning d (side_own on) m round x
    side_met m round = side_all on (Met side_turning d (side_own on) m round)
        (λ x j h far low met. ⊎_elim (λ e. rw e (met_first side_turning d (side_own on) m round x met))
        (λ e. rw e (met_second side_turning d (side_own on) m round x met)) (links.far j far low))
        (met_start side_turning d (side_own on) m round)

-- ---- how long a walk is

count_ones : (n : ℕ) → count 1 (replicate n 1) ≡ n
unfolding count
count_ones zero = refl
count_ones (suc n) = ap suc (count_ones n)

-- k distinct numbers below size
few : (size k : ℕ) (f : ℕ → ℕ) → ((j : ℕ) → j < k → f j < size) → ((p q : ℕ) → p < q → q < k → f p ≡ f q → ⊥) → k ≤ size
few size k f low apart =
    let r = distinct_le (tabulate_from k 0 f) (replicate size 1) (distinct_tab f k 0 (λ p q pq h. apart p q pq (omega arith))) all in
    let c = count_ones size in
    let l = length_tab_from f k 0 in
    omega arith
  where
    all : (x : ℕ) → In x (tabulate_from k 0 f) → Marked (replicate size 1) x
    all x i = let (j, a, b, e) = in_tab f k 0 x i in get_or-replicate size x 1 0 (rw e (low j (omega arith)))

-- f 0, .., f (k - 1), g 0, ..
pub both : ℕ → (ℕ → ℕ) → (ℕ → ℕ) → ℕ → ℕ
both k f g j = elim (ltb j k) [ true ↦ f j | false ↦ g (j - k) ]

module _ (k : ℕ) (f g : ℕ → ℕ) where
  pub both_low : (j : ℕ) → j < k → both k f g j ≡ f j
  unfolding both
  both_low j l = rw (lt-ltb j k l, both)

  pub both_high : (j : ℕ) → k ≤ j → both k f g j ≡ g (j - k)
  unfolding both
  both_high j l = rw (le-ltb j k l, both)

-- k distinct numbers below size, and as many others
pub few_both : (size k : ℕ) (f g : ℕ → ℕ) → ((j : ℕ) → j < k → f j < size) → ((j : ℕ) → j < k → g j < size)
    → ((p q : ℕ) → p < q → q < k → f p ≡ f q → ⊥) → ((p q : ℕ) → p < q → q < k → g p ≡ g q → ⊥)
    → ((p q : ℕ) → p < k → q < k → f p ≡ g q → ⊥) → k + k ≤ size
few_both size k f g lf lg af ag apart = few size (k + k) (both k f g)
    (λ j l. if_lt j k (λ h. rw (both_low k f g j h) (lf j h)) (λ h. rw (both_high k f g j h) (lg (j - k) (omega arith))))
    (λ p q pq l e. if_lt q k
    (λ h. af p q pq h (sym (both_low k f g p (omega arith)) ∙ e ∙ both_low k f g q h))
    (λ h. if_lt p k
    (λ m. apart p (q - k) m (omega arith) (sym (both_low k f g p m) ∙ e ∙ both_high k f g q h))
    (λ m. ag (p - k) (q - k) (omega arith) (omega arith) (sym (both_high k f g p m) ∙ e ∙ both_high k f g q h))))

-- ---- before a walk is at its start again

-- after k turns it has not been there
abbrev pub New : List ℕ → ℕ → ℕ → ℕ → ℕ → Type 0
New t a b d k = (j : ℕ) → 0 < j → j < suc k → turns t a b d j ≢ d

module _ {t : List ℕ} {a b d : ℕ} (S : Start t a b d) where
  pub start_turning : Turning (link t a) (link t b) (λ x. live t x ≡ true)
  start_turning = record {
    goes_first = λ x h. S.mapped.linked.goes x a h S.first_low;
    goes_second = λ x h. S.mapped.linked.goes x b h S.second_low;
    comes_first = λ x h. S.mapped.comes x a h S.first_low;
    comes_second = λ x h. S.mapped.comes x b h S.second_low;
  }

  pub turns_live : (k : ℕ) → live t (turns t a b d k) ≡ true
  turns_live = turned_in start_turning d S.lives

  pub turns_low : (k : ℕ) → turns t a b d k < slots t
  turns_low k = live_in t _ S.mapped.linked.fits (turns_live k)

  pub turns_apart : (k : ℕ) → New t a b d k → (p q : ℕ) → p < q → q < suc k → turns t a b d p ≡ turns t a b d q → ⊥
  turns_apart k new = turned_apart start_turning d S.lives (suc k) new

  pub turns_few : (k : ℕ) → New t a b d k → k < slots t
  turns_few k new = few (slots t) (suc k) (turns t a b d) (λ j _. turns_low j) (turns_apart k new)

-- two walks with no dart in common
pub turns_fit : {t : List ℕ} {a b d e : ℕ} → Start t a b d → Start t a b e
    → ((p q : ℕ) → turns t a b d p ≢ turns t a b e q) → (k : ℕ) → New t a b d k → New t a b e k → suc k + suc k ≤ slots t
turns_fit {t} {a} {b} {d} {e} S R apart k left right = few_both (slots t) (suc k) (turns t a b d) (turns t a b e)
    (λ j _. turns_low S j) (λ j _. turns_low R j) (turns_apart S k left) (turns_apart R k right) (λ p q _ _. apart p q)
