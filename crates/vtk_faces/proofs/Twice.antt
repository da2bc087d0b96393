-- A vertex that stands twice in a cell, looked for word by word.
-- Main theorems: `behind_is`; `repeats_any`; `held_once`, `held_twice`.
use Prim.Native.Nat.{ℕ, zero, suc, ◌+◌, ◌*◌, ◌-◌, ◌≤◌, ◌<◌}
use mathlib.Core.Path.{◌≡◌, refl, sym, ap, ◌∙◌}
use mathlib.Core.Bool.{Bool, true, false, not}
use mathlib.Core.List.{List, [], ◌∷◌}
use native.Mathlib.Omega.{arith}
use native.Mathlib.Numerals.{add-one}
use lib.ListN.{length, get_or, take, drop, length-take, length-drop, drop_of_length-le}
use lib.Seq.{drop-cons}
use lib.Dec.{eqb}
use Rattle.std.specs.List.{list_any, range_with_len}
use Rattle.std.proofs.lemmas.Slice.{between_to_end}
use Rattle.model.specs.Lists.{all_of, any_of}
use Rattle.model.specs.Faces.{among, repeats}
use Rattle.theorems.proofs.Lists.Scan.{test, clash}
use Rattle.theorems.proofs.History.Record.{eqb_comm}
use Rattle.theorems.proofs.Lists.Ones.{each_at, get_or_in}
use Rattle.vtk_faces.specs.Buffers.{Held}
use Rattle.vtk_faces.specs.Faces.{held_row}
use Rattle.vtk_faces.specs.Repeats.{all_once}

-- the tests of a list, each the other way round
any_among : (x : ℕ) (xs : List ℕ) → list_any (λ y. eqb y x) xs ≡ among xs x
unfolding among any_of
any_among x [] = refl
any_among x (y ∷ ys) = rw (eqb_comm x y) (test (eqb x y) (λ q. rw (q, any_of)) (λ q. rw (q, any_of) (any_among x ys)))

module _ (b : List ℕ) (c : ℕ) (long : 8 * c + 8 ≤ length b) where
  abbrev row : List ℕ
  row = held_row b c

  row_long : length row ≡ 8
  unfolding held_row
  row_long = simp (length-take, length-drop) (omega arith)

  row_next : (i : ℕ) → i < 8 → drop i row ≡ get_or row i 0 ∷ drop (i + 1) row
  row_next i l = let e = row_long in rw add-one (drop-cons row i 0 (omega arith))

  row_end : (i : ℕ) → 8 ≤ i → drop i row ≡ []
  row_end i l = let e = row_long in drop_of_length-le row {i = i} (omega arith)

  -- the words behind the i-th are searched for it
  pub behind_is : (i : ℕ) (part : List ℕ) → part ≡ row
      → list_any (λ y. eqb y (get_or part i 0)) (take (length part - (i + 1)) (drop (i + 1) part)) ≡ among (drop (i + 1) row) (get_or row i 0)
  behind_is i part e =
      rw e (ap (list_any (λ y. eqb y (get_or row i 0))) (between_to_end row (i + 1) (length row) (omega arith)) ∙ any_among (get_or row i 0) (drop (i + 1) row))

  pub repeats_here : (i : ℕ) → i < 8 → among (drop (i + 1) row) (get_or row i 0) ≡ true → repeats (drop i row) ≡ true
  unfolding repeats
  repeats_here i l e = ap repeats (row_next i l) ∙ rw (e, repeats)

  pub repeats_next : (i : ℕ) → i < 8 → among (drop (i + 1) row) (get_or row i 0) ≡ false → repeats (drop i row) ≡ repeats (drop (i + 1) row)
  unfolding repeats
  repeats_next i l e = ap repeats (row_next i l) ∙ rw (e, repeats)

  pub repeats_end : (i : ℕ) → 8 ≤ i → repeats (drop i row) ≡ false
  unfolding repeats
  repeats_end i l = rw (row_end i l)

  -- each of the n words from the i-th on is looked for behind it
  pub repeats_any : (i n : ℕ) → i + n ≡ 8
      → list_any (λ i. among (drop (i + 1) row) (get_or row i 0)) (range_with_len i n) ≡ repeats (drop i row)
  repeats_any i zero e = sym (repeats_end i (omega arith))
  repeats_any i (suc n) e = test (among (drop (i + 1) row) (get_or row i 0))
      (λ q. rw q (sym (repeats_here i (omega arith) q)))
      (λ q. rw q (repeats_any (i + 1) n (omega arith) ∙ sym (repeats_next i (omega arith) q)))

-- ---- all cells of the buffer

pub all_at : {A : Type 0} (p : A → Bool) (xs : List A) (d : A) → ((k : ℕ) → k < length xs → p (get_or xs k d) ≡ true) → all_of p xs ≡ true
unfolding all_of
all_at p [] d h = refl
all_at p (x ∷ xs) d h = rw (h 0 (omega arith), all_of) (all_at p xs d (λ k l. h (suc k) (omega arith)))

pub at_all : {A : Type 0} (p : A → Bool) (xs : List A) (d : A) (k : ℕ) → k < length xs → all_of p xs ≡ true → p (get_or xs k d) ≡ true
at_all p xs d k l h = each_at p xs h (get_or xs k d) (get_or_in xs k d l)

module _ (b : List ℕ) (rows : List (List ℕ)) (H : Held b rows) where
  pub held_once : ((c : ℕ) → c < length rows → repeats (held_row b c) ≡ false) → all_once rows ≡ true
  unfolding held_row
  held_once h = all_at (λ row. not (repeats row)) rows [] (λ c l. ap not (sym (ap repeats (H.row c l)) ∙ h c l))

  pub held_twice : (c : ℕ) → c < length rows → repeats (held_row b c) ≡ true → all_once rows ≡ false
  unfolding held_row
  held_twice c l e = test (all_once rows)
      (λ q. absurd (clash (at_all (λ row. not (repeats row)) rows [] c l q)
      (ap not (sym (ap repeats (H.row c l)) ∙ e)))) (λ q. q)
