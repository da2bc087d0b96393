-- Lists of marks: how many are 0 or 1, and d's mark alone.
use Prim.Native.Nat.{ℕ, suc, ◌+◌, ◌<◌}
use mathlib.Core.Path.{◌≡◌, refl, ◌∙◌}
use mathlib.Core.Logic.{inl, inr, ⊎_elim, ◌≢◌}
use mathlib.Core.List.Memᴰ.{eq_of_singleton as sole}
use mathlib.Core.List.Memᴰ.{head as here}
use mathlib.Core.List.Memᴰ.{not-nil}
use mathlib.Core.List.{List, [], ◌∷◌}
use native.Mathlib.Omega.{arith}
use lib.ListN.{length, get_or, set, replicate, length-replicate, get_or-replicate, get_or-eq_default}
use lib.Seq.{get_or-set_same, get_or-set_other}
use borrow.Author.Tests.{eq-eqb, ne_eqb}
use Rattle.model.specs.Lists.{count}
use Rattle.model.specs.Meaning.Lists.{more, none}
use Rattle.model.specs.Meaning.Sets.{Bits, Marked}
use Rattle.theorems.proofs.Lists.Scan.{if_eq, if_lt}
use Rattle.theorems.proofs.Sets.Pigeon.{cover, distinct_le}

-- x has a mark
abbrev pub Found : List ℕ → ℕ → Type 0
Found m x = get_or m x 0 ≢ 0

pub marked_found : (m : List ℕ) (x : ℕ) → Marked m x → Found m x
marked_found m x h e = omega arith

pub found_marked : (m : List ℕ) (x : ℕ) → Bits m → Found m x → Marked m x
found_marked m x b h = ⊎_elim (λ e. absurd (h e)) (λ e. e) (b x)

pub count_bits : (m : List ℕ) → Bits m → count 1 m + count 0 m ≡ length m
unfolding count
count_bits [] b = refl
count_bits (y ∷ m) b =
    let r = count_bits m (λ i. b (suc i)) in
    ⊎_elim (λ (e : y ≡ 0). rw (eq-eqb y 0 e, ne_eqb y 1 (λ f. omega arith), count) (omega arith))
    (λ (e : y ≡ 1). rw (eq-eqb y 1 e, ne_eqb y 0 (λ f. omega arith), count) (omega arith)) (b 0)

zeros : (n x : ℕ) → get_or (replicate {A = ℕ} n 0) x 0 ≡ 0
zeros n x = if_lt x n (get_or-replicate n x 0 0) (λ l. get_or-eq_default (replicate n 0) 0 (rw length-replicate l))

-- ---- d alone has a mark

abbrev pub alone : ℕ → ℕ → List ℕ
alone n d = set (replicate n 0) d 1

module _ (n d : ℕ) (h : d < n) where
  inside : d < length (replicate {A = ℕ} n 0)
  inside = rw length-replicate h

  pub alone_own : get_or (alone n d) d 0 ≡ 1
  alone_own = get_or-set_same (replicate n 0) d 1 0 inside

  alone_other : (x : ℕ) → x ≢ d → get_or (alone n d) x 0 ≡ 0
  alone_other x e = get_or-set_other (replicate n 0) d x 1 0 e ∙ zeros n x

  pub alone_only : (x : ℕ) → Found (alone n d) x → x ≡ d
  alone_only x f = if_eq x d (λ e. e) (λ e. absurd (f (alone_other x e)))

  pub alone_bits : Bits (alone n d)
  alone_bits x = if_eq x d (λ e. inr (rw e alone_own)) (λ e. inl (alone_other x e))

  pub alone_count : 1 + count 0 (alone n d) ≡ length (alone n d)
  alone_count =
      let all = count_bits (alone n d) alone_bits in
      let most = cover (d ∷ []) (alone n d) (λ x m. here (alone_only x (marked_found (alone n d) x m))) in
      let some = distinct_le (d ∷ []) (alone n d) (more not-nil none) (λ x i. rw (sole i) alone_own) in
      omega arith
