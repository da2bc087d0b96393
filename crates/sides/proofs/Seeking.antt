-- A dart looked for in a side: `Seeking` is the loop's invariant of `meets`, and `seek_found`, `seek_round` are its two ends.
use Prim.Native.Nat.{ℕ, suc, ◌<◌}
use mathlib.Core.Path.{◌≡◌, sym, ap, ◌∙◌, subst}
use mathlib.Core.Logic.{◌≢◌, ⊎_elim}
use mathlib.Core.Bool.{true, false, ◌||◌}
use mathlib.Core.List.{List}
use native.Mathlib.Omega.{arith}
use lib.Dec.{eqb}
use borrow.Author.Tests.{eqb-true, eqb-false, eq-eqb, ne_eqb}
use Rattle.model.specs.Table.{link}
use Rattle.model.specs.Reach.{in_set}
use Rattle.model.specs.Sew.{side}
use Rattle.model.specs.Meaning.Sets.{Marked}
use Rattle.model.specs.Meaning.Pairings.{OnSide}
use Rattle.theorems.proofs.Lists.Scan.{if_eq, or_cases, or_false}
use Rattle.sides.specs.Turns.{turns, SideLinks}
use Rattle.sides.proofs.SideTurns.{side_start_lem, side_turning, side_turns, side_met}
use Rattle.sides.proofs.Standing.{Standing, standing_first, on_turn, standing_next}

-- the walk from d is at x, and has not met e
pub record Seeking (t : List ℕ) (a b d e x : ℕ) : Type 0 where
  pub turn : ℕ
  pub at : Standing t a b d turn x
  pub none : (j : ℕ) → j < turn → (turns t a b d j ≢ e) × (link t a (turns t a b d j) ≢ e)

pub seek_begins : (t : List ℕ) (a b d e : ℕ) → Seeking t a b d e d
seek_begins t a b d e = record { turn = 0; at = standing_first t a b d; none = λ j low. absurd (omega arith) }

module _ {n : ℕ} {t : List ℕ} {i d : ℕ} (on : OnSide n t i d) {a b : ℕ} (links : SideLinks n i a b) where
  module _ {e x : ℕ} (s : Seeking t a b d e x) where
    in_side : Marked (side n t i d) x
    in_side = rw s.at.is (side_turns on links s.turn)

    pub seek_found : (eqb x e || eqb (link t a x) e) ≡ true → true ≡ in_set (side n t i d) e
    unfolding in_set
    seek_found h = sym (eq-eqb _ _ (⊎_elim (λ q. subst (Marked (side n t i d)) (eqb-true x e q) in_side)
        (λ q. subst (Marked (side n t i d)) (eqb-true (link t a x) e q) ((side_turning on links).goes_first x in_side))
        (or_cases (eqb x e) (eqb (link t a x) e) h)))

    module _ (h : (eqb x e || eqb (link t a x) e) ≡ false) where
      none_more : (j : ℕ) → j < suc s.turn → (turns t a b d j ≢ e) × (link t a (turns t a b d j) ≢ e)
      none_more j l = if_eq j s.turn
          (λ q.
          let same : turns t a b d j ≡ x = ap (turns t a b d) q ∙ sym s.at.is in
          let out = or_false (eqb x e) (eqb (link t a x) e) h in
          rw same (eqb-false x e out.0, eqb-false (link t a x) e out.1))
          (λ q. s.none j (omega arith))

      pub seek_round : link t b (link t a x) ≡ d → false ≡ in_set (side n t i d) e
      unfolding in_set
      seek_round q = sym (ne_eqb _ _ (λ m.
          let met = side_met on links s.turn (sym (on_turn (side_start_lem on links) s.at) ∙ q) e m in
          let out = none_more met.turns met.low in
          ⊎_elim (λ z. out.0 (sym z)) (λ z. out.1 (sym z)) met.is))

      pub seek_on : link t b (link t a x) ≢ d → Seeking t a b d e (link t b (link t a x))
      seek_on q = record { turn = suc s.turn; at = standing_next (side_start_lem on links) s.at q; none = none_more }
