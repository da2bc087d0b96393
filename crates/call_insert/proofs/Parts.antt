-- The words of a slice from a on: taken (`behind`), and put back (`put_behind`, `put_before`, `put_long`).
use Prim.Native.Nat.{ℕ, ◌-◌, ◌≤◌}
use mathlib.Core.Path.{◌≡◌, sym, ap, ◌∙◌}
use mathlib.Core.List.{List, ◌++◌, append-nil}
use native.Mathlib.Omega.{arith}
use lib.ListN.{length, take, drop, length-drop}
use lib.Seq.{take_all, drop-length, drop_at, length-take-le}
use borrow.Rule.Slice.PartMut.{put_mid, same_len_mid, take_put}

pub behind : (a : ℕ) (q : List ℕ) → take (length q - a) (drop a q) ≡ drop a q
behind a q = let long = length-drop a q in take_all (length q - a) (drop a q) (omega arith)

module _ (a : ℕ) (q p : List ℕ) (inside : a ≤ length q) (same : length p ≡ length (take (length q - a) (drop a q))) where
  pub put_behind : drop a (put_mid a (length q - a) q p) ≡ p
  put_behind =
      drop_at (take a q) (p ++ drop (length q - a) (drop a q)) a (length-take-le a q inside)
      ∙ ap (λ (r : List ℕ). p ++ r) (ap (λ (k : ℕ). drop k (drop a q)) (sym (length-drop a q)) ∙ drop-length (drop a q)) ∙ append-nil p

  pub put_before : take a (put_mid a (length q - a) q p) ≡ take a q
  put_before = take_put a (length q - a) q p inside

  pub put_long : length (put_mid a (length q - a) q p) ≡ length q
  put_long = same_len_mid a (length q - a) q p same
