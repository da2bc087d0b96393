-- Where the walk of a side stands: `Standing`, from `standing_first` on by `standing_next`. `turns_to` is how many turns lead to a dart, and
-- gives the measure of such a walk (`standing_nearer`).
use Prim.Native.Nat.{ℕ, suc, ◌-◌, ◌<◌}
use mathlib.Core.Path.{◌≡◌, refl, sym, ap, ◌∙◌}
use mathlib.Core.Logic.{◌≢◌}
use mathlib.Core.Bool.{true}
use mathlib.Core.List.{List}
use native.Mathlib.Omega.{arith}
use lib.Dec.{eqb}
use borrow.Author.Tests.{eq-eqb, ne_eqb}
use Rattle.model.specs.Lists.{least}
use Rattle.model.specs.Table.{slots, link, live}
use Rattle.theorems.proofs.Lists.Scan.{if_eq, least_by}
use Rattle.sides.specs.Turns.{turned, turns, Start}
use Rattle.sides.proofs.SideTurns.{New, turns_live, turns_apart, turns_few}

-- how many turns lead to x
unfoldable pub turns_to : List ℕ → ℕ → ℕ → ℕ → ℕ → ℕ
turns_to t a b d x = least (slots t) (λ k. eqb (turns t a b d k) x)

-- after k turns the walk from d is at x, and has not been at d again
pub record Standing (t : List ℕ) (a b d k x : ℕ) : Type 0 where
  pub is : x ≡ turns t a b d k
  pub new : New t a b d k

pub standing_first : (t : List ℕ) (a b d : ℕ) → Standing t a b d 0 d
unfolding turned
standing_first t a b d = record { is = refl; new = λ j some low. absurd (omega arith) }

module _ {t : List ℕ} {a b d : ℕ} (S : Start t a b d) where
  turns_to_lem : (k : ℕ) → New t a b d k → (x : ℕ) → x ≡ turns t a b d k → turns_to t a b d x ≡ k
  unfolding turns_to
  turns_to_lem k new x e = least_by (λ j. eqb (turns t a b d j) x) (slots t) k (record {
    low = omega arith;
    high = let l = turns_few S k new in omega arith;
    passes = λ _. eq-eqb _ _ (sym e);
    before = λ j _ l. ne_eqb _ _ (λ h. turns_apart S k new j k l (omega arith) (h ∙ e));
  })

  module _ {k x : ℕ} (s : Standing t a b d k x) where
    pub standing_live : live t x ≡ true
    standing_live = rw s.is (turns_live S k)

    -- one turn on
    pub on_turn : link t b (link t a x) ≡ turns t a b d (suc k)
    unfolding turned
    on_turn = ap (λ (z : ℕ). link t b (link t a z)) s.is

    module _ (q : link t b (link t a x) ≢ d) where
      later : New t a b d (suc k)
      later j some low = if_eq j (suc k) (λ e. rw e (λ z. q (on_turn ∙ z))) (λ e. s.new j some (omega arith))

      pub standing_next : Standing t a b d (suc k) (link t b (link t a x))
      standing_next = record { is = on_turn; new = later }

      pub standing_nearer : slots t - turns_to t a b d (link t b (link t a x)) < slots t - turns_to t a b d x
      standing_nearer =
          let here = turns_to_lem k s.new x s.is in
          let there = turns_to_lem (suc k) later (link t b (link t a x)) on_turn in
          let few = turns_few S (suc k) later in
          omega arith
