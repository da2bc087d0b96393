-- CELL_TYPES: their count, and the types.
use Prim.Native.Nat.{ℕ, ◌≤◌, ◌<◌}
use mathlib.Core.Path.{◌≡◌, refl, ap}
use mathlib.Core.Logic.{◌≢◌}
use mathlib.Core.Bool.{true, false, ◌&&◌}
use mathlib.Core.List.{List, [], ◌∷◌}
use mathlib.Core.Option.{Option, none, some}
use native.Mathlib.Omega.{arith}
use lib.ListN.{length, drop, length-drop}
use lib.Dec.{eqb}
use borrow.Author.Tests.{eq-eqb, ne_eqb}
use Rattle.model.specs.Text.{bytes}
use Rattle.model.specs.Vtk.{◌≫◌, behind_words, Counted, counted, numbers, types_of}
use Rattle.theorems.proofs.Vtk.Streaming.{numbers_few}
use Rattle.theorems.proofs.Lists.Scan.{test, if_lt}
use Rattle.vtk_words.proofs.Counting.{none_some}
use Rattle.vtk_form.specs.Parts.{types_left}

-- the types behind a count
unfoldable types_behind : ℕ → Counted → Option (List ℕ)
types_behind n m = elim (eqb m.value n && eqb (length m.rest) n) [ true ↦ numbers n m.rest | false ↦ none ]

behind_other : (n : ℕ) (o : Option Counted) → ((c : Counted) → o ≡ some c → c.value ≢ n) → (o ≫ types_behind n) ≡ none
unfolding types_behind
behind_other n none h = refl
behind_other n (some c) h = rw (types_behind, ne_eqb c.value n (h c refl))

behind_same : (n : ℕ) (c : Counted) → c.value ≡ n → types_behind n c ≡ types_left n c.rest
unfolding types_behind types_left
behind_same n c same = rw (types_behind, eq-eqb c.value n same)

module _ (n : ℕ) (ws : List (List ℕ)) where
  pub types_key : behind_words (bytes "CELL_TYPES" ∷ []) ws ≡ none → types_of n ws ≡ none
  unfolding types_of
  types_key e = rw e

  module _ (a : List (List ℕ)) (e : behind_words (bytes "CELL_TYPES" ∷ []) ws ≡ some a) where
    pub types_other : ((c : Counted) → counted a ≡ some c → c.value ≢ n) → types_of n ws ≡ none
    unfolding types_of types_behind
    types_other h = rw e (behind_other n (counted a) h)

    pub types_same : (c : Counted) → counted a ≡ some c → c.value ≡ n → types_of n ws ≡ types_left n c.rest
    unfolding types_of types_behind
    types_same c f same = rw (e, f) (behind_same n c same)

-- ---- the types that are left

module _ (n : ℕ) (ws : List (List ℕ)) where
  long_enough : (ts : List ℕ) → numbers n ws ≡ some ts → n ≤ length ws
  long_enough ts h = if_lt (length ws) n (λ l. absurd (none_some (numbers_few n ws l) h)) (λ l. l)

  pub left_all : (ts : List ℕ) → numbers n ws ≡ some ts → drop n ws ≡ [] → types_left n ws ≡ some ts
  unfolding types_left
  left_all ts h e =
      let enough = long_enough ts h in
      let l = ap length e in
      let m = length-drop n ws in
      rw (types_left, eq-eqb (length ws) n (omega arith)) h

  pub left_more : 0 < length (drop n ws) → types_left n ws ≡ none
  unfolding types_left
  left_more l = let m = length-drop n ws in rw (types_left, ne_eqb (length ws) n (λ e. absurd (omega arith)))

  pub left_none : numbers n ws ≡ none → types_left n ws ≡ none
  unfolding types_left
  left_none h = test (eqb (length ws) n) (λ e. rw (types_left, e) h) (λ e. rw (types_left, e))

  pub left_read : (ts : List ℕ) → types_left n ws ≡ some ts → numbers n ws ≡ some ts
  unfolding types_left
  left_read ts h = test (eqb (length ws) n) (λ e. rw (types_left, e) at h)
      (λ e. absurd (none_some refl (let z : none ≡ some ts = rw (types_left, e) at h in z)))
