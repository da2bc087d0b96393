-- The first two words of a fresh journal.
use Prim.Native.Nat.{ℕ, zero, suc, ◌-◌, ◌≤◌}
use mathlib.Core.Path.{◌≡◌}
use mathlib.Core.List.{List}
use native.Mathlib.Omega.{arith}
use lib.ListN.{set, replicate}
use Rattle.model.specs.Runs.{begin}

pub journal_fresh : (k : ℕ) (words : List ℕ) → words ≡ replicate k 0 → 2 ≤ k → set (set words 0 2) 1 2 ≡ (begin 0 k).journal
unfolding begin
journal_fresh zero words e h = absurd (omega arith)
journal_fresh (suc zero) words e h = absurd (omega arith)
journal_fresh (suc (suc k)) words e h = let rest : suc (suc k) - 2 ≡ k = omega arith in rw (e, rest)
