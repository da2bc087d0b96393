-- The two dimensions: what holds of 2 and of 3 holds of each.
use Prim.Native.Nat.{ℕ, ◌<◌}
use mathlib.Core.Path.{◌≡◌, sym, subst}
use mathlib.Core.Logic.{◌⊎◌, inl, inr, ◌≢◌, ⊎_elim}
use native.Mathlib.Omega.{arith}
use Rattle.model.specs.Cell.{cell_size}
use Rattle.model.specs.Meaning.Maps.{Dim}
use Rattle.theorems.proofs.Lists.Scan.{if_eq}

pub dim_cases : (n : ℕ) → Dim n → (n ≡ 2) ⊎ (n ≡ 3)
dim_cases n dim = if_eq n 2 (λ e. inl e) (λ (e : n ≢ 2). inr (omega arith))

pub two_cases : (n : ℕ) → Dim n → (P : ℕ → Type 0) → P 2 → P 3 → P n
two_cases n dim P two three = ⊎_elim (λ e. subst P (sym e) two) (λ e. subst P (sym e) three) (dim_cases n dim)

pub size_some : (n : ℕ) → Dim n → 0 < cell_size n
unfolding cell_size
size_some n dim = two_cases n dim (λ n. 0 < cell_size n) (omega arith) (omega arith)
