-- The walk of d's side that marks its darts and their partners: `Going` is the loop's invariant of `mark_side`. A turn marks two couples
-- (`going_turn`), and the walk goes on (`going_on`) or has marked all (`going_round`).
use Prim.Native.Nat.{ℕ, suc, ◌+◌, ◌<◌}
use mathlib.Core.Path.{◌≡◌, sym, ap, ◌∙◌, subst}
use mathlib.Core.Logic.{◌⊎◌, inl, inr, ◌≢◌, ⊎_elim}
use mathlib.Core.List.{List}
use native.Mathlib.Omega.{arith}
use Rattle.model.specs.Table.{link}
use Rattle.model.specs.Meaning.Pairings.{OnSide}
use Rattle.theorems.proofs.Lists.Scan.{if_eq}
use Rattle.sides.specs.Turns.{turns, SideLinks}
use Rattle.sides.proofs.SideTurns.{side_start_lem, side_turning, side_turns, side_met}
use Rattle.sides.proofs.Standing.{Standing, standing_first, on_turn, standing_next}
use Rattle.call_unsew.specs.Marking.{Marking, Couple, Unsewn}
use Rattle.call_unsew.proofs.Marks.{marking_none, marking_as, marking_both}

-- z is a dart of the turn from x, or the partner of one
abbrev pub Turned : List ℕ → ℕ → ℕ → ℕ → ℕ → Type 0
Turned t a i x z = Couple t i x z ⊎ Couple t i (link t a x) z

-- .. of one of the first k turns
pub record Passed (t : List ℕ) (a b i d k z : ℕ) : Type 0 where
  pub turn : ℕ
  pub low : turn < k
  pub is : Turned t a i (turns t a b d turn) z

pub record Going (t : List ℕ) (a b i d : ℕ) (m₀ m : List ℕ) (x r : ℕ) : Type 0 where
  pub turn : ℕ
  pub at : Standing t a b d turn x
  pub marking : Marking (Passed t a b i d turn) m₀ m r

pub going_first : (t : List ℕ) (a b i d : ℕ) (m : List ℕ) → Going t a b i d m m d 0
going_first t a b i d m = record {
  turn = 0;
  at = standing_first t a b d;
  marking = marking_none m (λ x p. absurd (let low = p.low in omega arith));
}

module _ {n : ℕ} {t : List ℕ} {i d : ℕ} (on : OnSide n t i d) {a b : ℕ} (links : SideLinks n i a b) where
  module _ {m₀ m m' m'' : List ℕ} {x p r s u : ℕ} (G : Going t a b i d m₀ m x r) (by : p ≡ link t a x)
      (first : Marking (Couple t i x) m m' s) (second : Marking (Couple t i p) m' m'' u) where
    going_turn : Marking (Passed t a b i d (suc G.turn)) m₀ m'' (r + s + u)
    going_turn = marking_as (marking_both (marking_both G.marking first) second) to from
      where
        to : (z : ℕ) → (Passed t a b i d G.turn z ⊎ Couple t i x z) ⊎ Couple t i p z → Passed t a b i d (suc G.turn) z
        to z = ⊎_elim
            (⊎_elim (λ q. let low = q.low in record { turn = q.turn; low = omega arith; is = q.is })
            (λ c. record { turn = G.turn; low = omega arith; is = inl (subst (λ (y : ℕ). Couple t i y z) G.at.is c) }))
            (λ c. record {
              turn = G.turn;
              low = omega arith;
              is = inr (subst (λ (y : ℕ). Couple t i y z) (by ∙ ap (link t a) G.at.is) c);
            })

        from : (z : ℕ) → Passed t a b i d (suc G.turn) z → (Passed t a b i d G.turn z ⊎ Couple t i x z) ⊎ Couple t i p z
        from z q =
            let low = q.low in
            if_eq q.turn G.turn
            (λ e.
            let here : turns t a b d q.turn ≡ x = ap (turns t a b d) e ∙ sym G.at.is in
            ⊎_elim (λ c. inl (inr (subst (λ (y : ℕ). Couple t i y z) here c)))
            (λ c. inr (subst (λ (y : ℕ). Couple t i y z) (ap (link t a) here ∙ sym by) c)) q.is)
            (λ e. inl (inl (record { turn = q.turn; low = omega arith; is = q.is })))

    module _ {y : ℕ} (to : y ≡ link t b p) where
      next : y ≡ link t b (link t a x)
      next = to ∙ ap (link t b) by

      pub going_on : y ≢ d → Going t a b i d m₀ m'' y (r + s + u)
      going_on out = record {
        turn = suc G.turn;
        at = rw next (standing_next (side_start_lem on links) G.at (λ z. out (next ∙ z)));
        marking = going_turn;
      }

      pub going_round : y ≡ d → Marking (Unsewn n t i d) m₀ m'' (r + s + u)
      going_round h = marking_as going_turn all only
        where
          all : (z : ℕ) → Passed t a b i d (suc G.turn) z → Unsewn n t i d z
          all z q =
              let own = side_turns on links q.turn in
              ⊎_elim (λ c. (_, own, c)) (λ c. (_, (side_turning on links).goes_first _ own, c)) q.is

          only : (z : ℕ) → Unsewn n t i d z → Passed t a b i d (suc G.turn) z
          only z (x, own, c) =
              let met = side_met on links G.turn (sym (on_turn (side_start_lem on links) G.at) ∙ sym next ∙ h) x own in
              record {
                turn = met.turns;
                low = met.low;
                is = ⊎_elim (λ e. inl (subst (λ (y : ℕ). Couple t i y z) e c))
                    (λ e. inr (subst (λ (y : ℕ). Couple t i y z) e c)) met.is;
              }
