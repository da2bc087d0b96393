-- The marks of a sheet tell its darts: they have the same ones (`marks_ones`), and cross themselves alike (`marks_crosses`).
use Prim.Native.Nat.{ℕ, suc, ◌≤◌, ◌<◌}
use mathlib.Core.Path.{◌≡◌, refl, sym, ap, ◌∙◌}
use mathlib.Core.Logic.{◌↔◌}
use mathlib.Core.List.{List, [], ◌∷◌}
use native.Mathlib.Omega.{arith}
use lib.Dec.{eqb}
use lib.ListN.{length}
use borrow.Author.Tests.{eqb-true, eq-eqb}
use Rattle.model.specs.Lists.{ones, ones_from}
use Rattle.model.specs.Sheet.{sheet}
use Rattle.model.specs.Split.{crosses}
use Rattle.model.specs.Meaning.Sets.{Marked}
use Rattle.model.specs.Meaning.Sheets.{BlockDart, marks_of}
use Rattle.theorems.proofs.Lists.Scan.{test, clash}
use Rattle.theorems.proofs.Layers.Sheet.{sheet_least, crosses_some}
use Rattle.theorems.proofs.Layers.Marks.{marks_one, sheet_layer}
use Rattle.scans.specs.Clear.{Skips}

pub clear_unmarked : {m : List ℕ} {x y : ℕ} → Skips m x y → (k : ℕ) → x ≤ k → k < y → Marked m k → ⊥
clear_unmarked S k low high m = let clear = S.clear k low high in omega arith

-- ---- two lists of marks with the same ones

same_one : (x y : ℕ) → (x ≡ 1) ↔ (y ≡ 1) → eqb x 1 ≡ eqb y 1
same_one x y (f, g) = test (eqb x 1) (λ e. e ∙ sym (eq-eqb y 1 (f (eqb-true x 1 e))))
    (λ e. test (eqb y 1) (λ h. absurd (clash (eq-eqb x 1 (g (eqb-true y 1 h))) e)) (λ h. e ∙ sym h))

ones_same : (l m : List ℕ) (a : ℕ) → length l ≡ length m → ((x : ℕ) → Marked l x ↔ Marked m x) → ones_from a l ≡ ones_from a m
unfolding ones_from
ones_same [] [] a e h = refl
ones_same [] (y ∷ m) a e h = absurd (omega arith)
ones_same (x ∷ l) [] a e h = absurd (omega arith)
ones_same (x ∷ l) (y ∷ m) a e h =
    let rec = ones_same l m (suc a) (omega arith) (λ k. h (suc k)) in
    let same = same_one x y (h 0) in
    test (eqb y 1) (λ q. rw (same ∙ q, q, ones_from) (ap (λ (k : List ℕ). a ∷ k) rec)) (λ q. rw (same ∙ q, q, ones_from) rec)

-- ---- the marks of a sheet

module _ {n : ℕ} {t : List ℕ} {d : ℕ} (D : BlockDart n t d) where
  pub marks_ones : ones (marks_of n t d) ≡ ones (sheet n t d)
  marks_ones = ones_same (marks_of n t d) (sheet n t d) 0 ((sheet_layer D).long ∙ sym (sheet_least D).long) (marks_one D)

  pub marks_crosses : crosses t (marks_of n t d) (ones (marks_of n t d)) ≡ crosses t (sheet n t d) (ones (sheet n t d))
  marks_crosses =
      let m = marks_of n t d in
      let s = sheet n t d in
      test (crosses t s (ones s))
      (λ e.
      let (g, i, q) = (crosses_some t s).0 e in
      (crosses_some t m).1 (g, (marks_one D g).1 i, (marks_one D _).1 q) ∙ sym e)
      (λ e. test (crosses t m (ones m))
      (λ h.
      let (g, i, q) = (crosses_some t m).0 h in
      absurd (clash ((crosses_some t s).1 (g, (marks_one D g).0 i, (marks_one D _).0 q)) e))
      (λ h. h ∙ sym e))
