-- The faces of a block, from the first to the last.
-- Main theorems: `both`, `no_third`; `state_more`, `state_three`, `state_ran`; `run_none`, `run_going`, `run_more`, `run_three`, `run_block`.
use Prim.Native.Nat.{ℕ, ◌+◌, ◌*◌, ◌≤◌, ◌<◌}
use mathlib.Core.Path.{◌≡◌, refl, sym, ◌∙◌}
use mathlib.Core.Logic.{◌⊎◌, inl, inr, ◌≢◌, ⊎_elim}
use mathlib.Core.Bool.{Bool, true, false, ◌&&◌}
use mathlib.Core.List.{List}
use native.Mathlib.Omega.{arith}
use lib.ListN.{length}
use Rattle.theorems.proofs.Lists.Scan.{if_eq}
use Rattle.vtk_faces.specs.Faces.{held_face}
use Rattle.vtk_faces.specs.Turns.{Turned}
use Rattle.vtk_faces.specs.Chains.{Chains}
use Rattle.vtk_faces.specs.Judged.{ThreeOf, OtherOf, Ordered, State, Ran, order_number, Number, Stepped, Going, Gone}
use Rattle.vtk_faces.specs.Blocks.{Own, Block}
use Rattle.vtk_faces.proofs.Chains.{chains_none}

module _ (F : ℕ → List ℕ) where
  three_wide : (n m : ℕ) → n ≤ m → ThreeOf F n → ThreeOf F m
  three_wide n m l T =
      let low = T.low in
      record { i = T.i; j = T.j; k = T.k; ij = T.ij; jk = T.jk; low = omega arith; two = T.two; three = T.three }

  other_wide : (n m : ℕ) → n ≤ m → OtherOf F n → OtherOf F m
  other_wide n m l T =
      let low = T.low in
      record { i = T.i; j = T.j; ij = T.ij; low = omega arith; four = T.four; order = T.order }

  -- one more face, where a is what was found before it, and b is what is found with it
  ordered_more : (m k i : ℕ) (after : List ℕ) (a number b : ℕ) → ((p : ℕ) → p < k → p < i → p < m) → Ordered F m i a
      → Stepped F k i after number → number ≢ 22 → (a ≡ 0 → b ≡ number) → (a ≢ 0 → b ≡ a) → Ordered F k (i + 1) b
  ordered_more m k i after a number b in_before O S going first else = record {
    agree = λ z p q hp pq hq four. if_eq a 0
        (λ e.
        let n : number ≡ 0 = sym (first e) ∙ z in
        if_eq q i (λ d. rw d (S.agree n p hp (omega arith) (rw d at four)))
        (λ d. O.agree e p q (in_before p hp (omega arith)) pq (omega arith) four))
        (λ e. absurd (e (sym (else e) ∙ z)));
    differ = λ d. if_eq a 0 (λ e. S.differ (λ n. d (first e ∙ n)) going)
        (λ e. other_wide i (i + 1) (omega arith) (O.differ e));
  }

-- what is found of the orders with one more face, where `a` tells of those before it and x of this one
pub both : (a x : Bool) → (order_number a ≡ 0 → order_number (a && x) ≡ order_number x) × (order_number a ≢ 0 → order_number (a && x) ≡ order_number a)
both true x = (λ _. refl, λ d. absurd (d refl))
both false x = (λ e. absurd (omega arith), λ _. refl)

-- it is not 22
pub no_third : (x : Bool) → order_number x ≢ 22
no_third true e = omega arith
no_third false e = omega arith

-- what is found of the orders stays 0 or 23
still_more : {a number b : ℕ} → (a ≡ 0) ⊎ (a ≡ 23) → Number number → number ≢ 22 → (a ≡ 0 → b ≡ number) → (a ≢ 0 → b ≡ a)
    → (b ≡ 0) ⊎ (b ≡ 23)
still_more {a} was is going first else = if_eq a 0
    (λ e. ⊎_elim (λ n. inl (first e ∙ n)) (λ w. ⊎_elim (λ n. absurd (going n)) (λ n. inr (first e ∙ n)) w) is)
    (λ e. ⊎_elim (λ n. absurd (e n)) (λ n. inr (else e ∙ n)) was)

-- F i is judged: the first m faces were in, the first k are now
module _ (F : ℕ → List ℕ) (m k i : ℕ) (mates after : List ℕ) (number : ℕ) (S : Stepped F k i after number) where
  pub state_more : ((p : ℕ) → p < k → p < i → p < m) → (a b : ℕ) → State F m i mates a → number ≢ 22
      → (a ≡ 0 → b ≡ number) × (a ≢ 0 → b ≡ a) → State F k (i + 1) after b
  state_more in_before a b state going (first, else) = record {
    judged = S.goes going;
    ordered = ordered_more F m k i after a number b in_before state.ordered S going first else;
    still = still_more state.still S.is going first else;
  }

module _ (F : ℕ → List ℕ) (k i : ℕ) (after : List ℕ) (number : ℕ) (S : Stepped F k i after number) where
  pub state_three : (l n : ℕ) → i < n → number ≡ 22 → Ran F l n after 22
  state_three l n b e = record {
    three = λ _. three_wide F (i + 1) n (omega arith) (S.third e);
    goes = λ d. absurd (d refl);
  }

pub state_ran : (F : ℕ → List ℕ) (m n : ℕ) (mates : List ℕ) (other : ℕ) → State F m n mates other → Ran F m n mates other
state_ran F m n mates other S = record {
  three = λ e. absurd (⊎_elim (λ z. omega arith) (λ z. omega arith) S.still);
  goes = λ _. S;
}

-- three of n faces are three of more
pub ran_wide : (F : ℕ → List ℕ) (m n k : ℕ) (mates : List ℕ) → n ≤ k → Ran F m n mates 22 → Ran F m k mates 22
ran_wide F m n k mates l R = record { three = λ e. three_wide F n k l (R.three e); goes = λ d. absurd (d refl) }

-- the first i faces of the buffer are in
pub record Run (buffer heads nexts mates : List ℕ) (i other : ℕ) : Type 0 where
  pub chains : Chains (held_face buffer) i heads nexts
  pub state : State (held_face buffer) i i mates other
  pub turned : other ≡ 0 → Turned buffer i mates

module _ (buffer : List ℕ) where
  abbrev F : ℕ → List ℕ
  F = held_face buffer

  pub run_none : (sites heads nexts mates : List ℕ) (cells : ℕ) → Own buffer sites heads nexts mates cells
      → Run buffer heads nexts mates 0 0
  run_none sites heads nexts mates cells O =
      let nexts_room = O.lent.nexts_room in
      let mates_room = O.lent.mates_room in
      record {
        chains = chains_none F heads nexts O.lent.heads_long O.clear (omega arith);
        state = record {
          judged = record {
            within = omega arith;
            long = omega arith;
            alone = λ p b. absurd (omega arith);
            paired = λ p b. absurd (omega arith);
            no_three = λ p q r b. absurd (omega arith);
          };
          ordered = record { agree = λ _ p q b. absurd (omega arith); differ = λ d. absurd (d refl) };
          still = inl refl;
        };
        turned = λ _ p x b. absurd (omega arith);
      }

  -- the next face may go in
  pub run_going : (sites heads₀ nexts₀ mates₀ heads nexts mates : List ℕ) (cells i other : ℕ)
      → Own buffer sites heads₀ nexts₀ mates₀ cells → Run buffer heads nexts mates i other → i < 6 * cells
      → length nexts ≡ length nexts₀ → length mates ≡ length mates₀ → Going buffer sites heads nexts mates i
  run_going sites heads₀ nexts₀ mates₀ heads nexts mates cells i other O R low n m =
      let long = O.long in
      let few = O.lent.few in
      let nexts_room = O.lent.nexts_room in
      let mates_room = O.lent.mates_room in
      record {
        sited = O.sited;
        fits = omega arith;
        few = omega arith;
        chains = R.chains;
        judged = R.state.judged;
        nexts_room = omega arith;
        mates_room = omega arith;
      }

  module _ (mates₀ heads nexts mates : List ℕ) (i number : ℕ) (G : Gone buffer mates₀ heads nexts mates i number) where
    pub run_more : (heads₀ nexts₀ : List ℕ) (a b : ℕ) → Run buffer heads₀ nexts₀ mates₀ i a → number ≢ 22
        → (a ≡ 0 → b ≡ number) × (a ≢ 0 → b ≡ a) → Run buffer heads nexts mates (i + 1) b
    run_more heads₀ nexts₀ a b R going given = record {
      chains = G.chains;
      state = state_more F i (i + 1) i mates₀ mates number G.stepped (λ p _ l. l) a b R.state going given;
      turned = λ z. if_eq a 0 (λ e. G.turned (sym (given.0 e) ∙ z) (R.turned e)) (λ e. absurd (e (sym (given.1 e) ∙ z)));
    }

    pub run_three : (n : ℕ) → i < n → number ≡ 22 → Block buffer n heads nexts mates 22
    run_three n l e = record {
      ran = state_three F (i + 1) i mates number G.stepped n n l e;
      chains = λ d. absurd (d refl);
      turned = λ z. absurd (omega arith);
    }

  pub run_block : (heads nexts mates : List ℕ) (n other : ℕ) → Run buffer heads nexts mates n other → Block buffer n heads nexts mates other
  run_block heads nexts mates n other R = record {
    ran = state_ran F n n mates other R.state;
    chains = λ _. R.chains;
    turned = R.turned;
  }
