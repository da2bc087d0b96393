-- POINTS: their count, and the words behind them.
use Prim.Native.Nat.{ℕ, ◌+◌, ◌*◌, ◌≤◌, ◌<◌}
use mathlib.Core.Path.{◌≡◌, refl, sym, ap, ◌∙◌}
use mathlib.Core.List.{List, [], ◌∷◌}
use mathlib.Core.Option.{none, some}
use native.Mathlib.Omega.{arith}
use lib.ListN.{length, drop}
use lib.Seq.{drop-drop}
use Rattle.model.specs.Lists.{equal}
use Rattle.model.specs.Text.{bytes}
use Rattle.model.specs.Vtk.{behind_words, Counted, counted, Rows, points_of, cells_of}
use Rattle.theorems.proofs.Lists.Scan.{test, if_lt}
use Rattle.theorems.proofs.Vtk.Form.{then_some}
use Rattle.theorems.proofs.Vtk.Streaming.{points_few}
use Rattle.vtk_words.proofs.Counting.{none_some, counted_shorter}

-- the keywords up to POINTS
abbrev points_keys : List (List ℕ)
points_keys = bytes "ASCII" ∷ bytes "DATASET" ∷ bytes "UNSTRUCTURED_GRID" ∷ bytes "POINTS" ∷ []

module _ (ws : List (List ℕ)) where
  pub points_keys_lem : behind_words points_keys ws ≡ none → (p : Counted) → points_of ws ≡ some p → ⊥
  unfolding points_of
  points_keys_lem e p h =
      let (a, f, _) = then_some {A = List (List ℕ)} (behind_words points_keys ws) _ p h in
      none_some e f

  module _ (a : List (List ℕ)) (e : behind_words points_keys ws ≡ some a) where
    pub points_counted : (d : Counted) → counted a ≡ some d
        → points_of ws ≡ some (record { value = d.value; rest = drop (1 + 3 * d.value) d.rest })
    unfolding points_of
    points_counted d f = rw (e, f)

    -- no word is left for CELLS where the count is too large
    pub points_large : ((d : Counted) → counted a ≡ some d → length a ≤ d.value) → (p : Counted) → points_of ws ≡ some p
        → (c : Rows) → cells_of p.rest ≡ some c → ⊥
    unfolding points_of
    points_large few p h c q =
        let (a', f, g) = then_some {A = List (List ℕ)} (behind_words points_keys ws) _ p h in
        let same : a' ≡ a = cc in
        let (d, first, end) = then_some {A = Counted} (counted a') _ p g in
        let is = ap counted (sym same) ∙ first in
        let high = few d is in
        let rest : record { value = d.value; rest = drop (1 + 3 * d.value) d.rest } ≡ p = cc in
        let shorter = counted_shorter a d is in
        none_some (points_few (1 + 3 * d.value) d.rest (omega arith)) (ap (λ (p : Counted). cells_of p.rest) rest ∙ q)

-- ---- a text that has them, and cells behind them, is longer than their number

keys_shorter : (ks ws a : List (List ℕ)) → behind_words ks ws ≡ some a → length a ≤ length ws
unfolding behind_words
keys_shorter [] ws a h = let same : ws ≡ a = cc in let l = ap length same in omega arith
keys_shorter (k ∷ ks) [] a h = absurd (none_some refl h)
keys_shorter (k ∷ ks) (w ∷ ws) a h = test (equal k w)
    (λ e. let l = keys_shorter ks ws a (rw (behind_words, e) at h) in omega arith)
    (λ e. absurd (none_some refl (let q : none ≡ some a = rw (behind_words, e) at h in q)))

pub points_low : (ws : List (List ℕ)) (p : Counted) (c : Rows) → points_of ws ≡ some p → cells_of p.rest ≡ some c → p.value < length ws
unfolding points_of
points_low ws p c h q =
    let (a, e, g) = then_some {A = List (List ℕ)} (behind_words points_keys ws) _ p h in
    let (d, first, end) = then_some {A = Counted} (counted a) _ p g in
    let rest : record { value = d.value; rest = drop (1 + 3 * d.value) d.rest } ≡ p = cc in
    let value : d.value ≡ p.value = ap (λ (p : Counted). p.value) rest in
    let short = keys_shorter points_keys ws a e in
    let shorter = counted_shorter a d first in
    if_lt d.value (length ws) (λ l. omega arith)
    (λ l. absurd (none_some (points_few (1 + 3 * d.value) d.rest (omega arith)) (ap (λ (p : Counted). cells_of p.rest) rest ∙ q)))

-- three words a point
pub skipped : (n : ℕ) (ws a b c d : List (List ℕ)) → drop 1 ws ≡ a → drop n a ≡ b → drop n b ≡ c → drop n c ≡ d → drop (1 + 3 * n) ws ≡ d
skipped n ws a b c d p q r s =
    let all : 1 + 3 * n ≡ 1 + n + n + n = omega arith in
    ap (λ (m : ℕ). drop m ws) all ∙ sym (drop-drop n (1 + n + n) ws) ∙ ap (drop n) (sym (drop-drop n (1 + n) ws))
    ∙ ap (λ (x : List (List ℕ)). drop n (drop n x)) (sym (drop-drop n 1 ws)) ∙ rw (p, q, r, s)
