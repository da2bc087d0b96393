-- The spots of a cell that split or insert makes: a spot is a role of a place, links lead from spot to spot, and at each place of the new
-- cell stands the spot that the place's path leads to from the first one (`standing`). Tests over all places (`Fitting`): the spots follow the
-- numbering, and differ; so the darts at the spots are a chart (`spots_chart`). `Held`: a spot stands somewhere in the cell.
use Prim.Native.Nat.{ℕ, ◌<◌}
use mathlib.Core.Path.{◌≡◌, ap, ◌∙◌}
use mathlib.Core.Bool.{Bool, true, not, ◌&&◌}
use mathlib.Core.List.{List, [], ◌∷◌}
use native.Mathlib.Omega.{arith}
use borrow.Author.Tests.{not-true, not-false}
use Rattle.model.specs.Lists.{all_below}
use Rattle.model.specs.Table.{link}
use Rattle.model.specs.Cell.{cell_size}
use Rattle.model.specs.Numbering.{cell_link}
use Rattle.model.specs.Meaning.Places.{path, Chart}
use Rattle.theorems.proofs.Lists.Scan.{clash, and_l, and_r, below_at, below_not}

-- spots with a test that tells them apart, their links, a test of those that may stand in a cell, and the one at its first place
pub record Spots (S : Type 0) : Type 0 where
  pub same : S → S → Bool
  pub of_same : (e f : S) → same e f ≡ true → e ≡ f
  pub to_same : (e f : S) → e ≡ f → same e f ≡ true
  pub go : ℕ → S → S
  pub valid : S → Bool
  pub first : S

module _ {S : Type 0} (P : Spots S) where
  unfoldable pub go_along : List ℕ → S → S
  go_along [] e = e
  go_along (j ∷ w) e = go_along w (P.go j e)

module _ {S : Type 0} (n : ℕ) (P : Spots S) where
  -- the spot at the place k
  unfoldable pub standing : ℕ → S
  standing k = go_along P (path n k) P.first

  unfoldable pub row_kept : ℕ → ℕ → Bool
  row_kept k i = P.same (P.go i (standing k)) (standing (cell_link n i k))

  unfoldable pub follows : ℕ → Bool
  follows k = P.valid (standing k) && all_below n (row_kept k)

  unfoldable pub differs : ℕ → ℕ → Bool
  differs b a = not (P.same (standing a) (standing b))

  unfoldable pub holds : S → Bool
  holds e = not (all_below (cell_size n) (λ k. not (P.same (standing k) e)))

  -- the tests, computed
  pub record Fitting : Type 0 where
    pub follow : all_below (cell_size n) follows ≡ true
    pub apart : all_below (cell_size n) (λ b. all_below b (differs b)) ≡ true

  -- e stands in the cell
  abbrev pub Held : S → Type 0
  Held e = (k : ℕ) × (k < cell_size n) × (standing k ≡ e)

  pub held : (e : S) → holds e ≡ true → Held e
  unfolding holds
  held e h =
      let r = below_not (λ k. not (P.same (standing k) e)) (cell_size n) (not-true _ h) in
      (r.0, r.1, P.of_same _ _ (not-false _ r.2))

-- to unfold `spots` is to unfold what the tests compute with
unfoldable pub spots : Unit {0}
unfolding go_along standing row_kept follows differs holds path
spots = tt

module _ {S : Type 0} {n : ℕ} {P : Spots S} (F : Fitting n P) where
  follows_at_lem : (k : ℕ) → k < cell_size n → follows n P k ≡ true
  follows_at_lem = below_at (follows n P) (cell_size n) F.follow

  pub spot_valid : (k : ℕ) → k < cell_size n → P.valid (standing n P k) ≡ true
  unfolding follows
  spot_valid k b = and_l (P.valid (standing n P k)) _ (follows_at_lem k b)

  spot_link_lem : (i k : ℕ) → i < n → k < cell_size n → P.go i (standing n P k) ≡ standing n P (cell_link n i k)
  unfolding follows row_kept
  spot_link_lem i k bi bk = P.of_same _ _ (below_at (row_kept n P k) n (and_r (P.valid (standing n P k)) _ (follows_at_lem k bk)) i bi)

  spot_apart : (a b : ℕ) → a < b → b < cell_size n → standing n P a ≡ standing n P b → ⊥
  unfolding differs
  spot_apart a b ab bb e = clash (P.to_same _ _ e)
      (not-true _ (below_at (differs n P b) b (below_at (λ b. all_below b (differs n P b)) (cell_size n) F.apart b bb) a ab))

  -- the darts at the spots, where the links go as those of the spots, and each dart is at one spot only
  pub spots_chart : (u : List ℕ) (at : S → ℕ)
      → ((e : S) (j : ℕ) → P.valid e ≡ true → j < n → link u j (at e) ≡ at (P.go j e))
      → ((e f : S) → P.valid e ≡ true → P.valid f ≡ true → at e ≡ at f → e ≡ f) → Chart n u (λ k. at (standing n P k))
  spots_chart u at goes one = record {
    follow = λ j k hj hk. goes (standing n P k) j (spot_valid k hk) hj ∙ ap at (spot_link_lem j k hj hk);
    apart = λ a b ab hb e. spot_apart a b ab hb
        (one (standing n P a) (standing n P b) (spot_valid a (omega arith)) (spot_valid b hb) e);
  }
