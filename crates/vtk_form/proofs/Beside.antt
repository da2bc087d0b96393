-- Rows beside their types: "a type 12 row has 8 numbers".
-- `Beside`: i of them are passed; `beside_start`, `beside_row` and `beside_type`, what stands next, `beside_more`, `beside_stop`, `beside_end`.
use Prim.Native.Nat.{ℕ, suc, ◌+◌, ◌-◌, ◌<◌}
use mathlib.Core.Path.{◌≡◌, refl, sym, ap, ◌∙◌}
use mathlib.Core.Bool.{true, false, not, ◌&&◌}
use mathlib.Core.List.{List, [], ◌∷◌}
use mathlib.Core.Option.{some}
use native.Mathlib.Omega.{arith}
use native.Mathlib.Numerals.{add-one}
use lib.ListN.{length, get_or, drop, length-drop}
use lib.Seq.{drop-cons}
use lib.Dec.{eqb}
use Rattle.model.specs.Lists.{all_of}
use Rattle.model.specs.Vtk.{counted, numbers, eights}
use Rattle.model.specs.Meaning.Vtk.{rows_from}
use Rattle.theorems.proofs.Vtk.Form.{numbers_long}
use Rattle.theorems.proofs.Lists.Scan.{test, clash}
use Rattle.vtk_words.specs.Words.{large}
use Rattle.vtk_words.proofs.Counting.{same_value, same_rest, FirstNumber, numbers_first, FirstRow, rows_first, rows_long}
use Rattle.vtk_form.specs.Parts.{is_eight}

-- i rows and types are passed; ws and vs are the words from the next row and from the next type on
pub record Beside (n i : ℕ) (ws vs : List (List ℕ)) (rows : List (List ℕ)) (ts : List ℕ) : Type 0 where
  pub left : ℕ
  pub low : left < large
  pub read : rows_from (n - i) left ws ≡ some (drop i rows)
  pub types : numbers (n - i) vs ≡ some (drop i ts)
  pub same : eights rows ts ≡ eights (drop i rows) (drop i ts)

pub beside_start : (n size : ℕ) (ws vs rows : List (List ℕ)) (ts : List ℕ) → size < large → rows_from n size ws ≡ some rows
    → numbers n vs ≡ some ts → Beside n 0 ws vs rows ts
beside_start n size ws vs rows ts low read types =
    let all : n - 0 ≡ n = omega arith in
    record { left = size; low = low; read = rw all read; types = rw all types; same = refl }

module _ (n i : ℕ) (ws vs rows : List (List ℕ)) (ts : List ℕ) (b : Beside n i ws vs rows ts) where
  pub beside_end : n ≡ i → eights rows ts ≡ true
  unfolding eights
  beside_end e =
      let long = rows_long (n - i) b.left ws (drop i rows) b.read in
      b.same ∙ go (drop i rows) (drop i ts) (omega arith)
    where
      go : (rows : List (List ℕ)) (ts : List ℕ) → length rows ≡ 0 → eights rows ts ≡ true
      go [] ts h = refl
      go (r ∷ rs) ts h = absurd (omega arith)

  module _ (low : i < n) where
    more : n - i ≡ suc (n - (i + 1))
    more = omega arith

    split_rows : drop i rows ≡ get_or rows i [] ∷ drop (suc i) rows
    split_rows =
        let long = rows_long (n - i) b.left ws (drop i rows) b.read in
        let less = length-drop i rows in
        drop-cons rows i [] (omega arith)

    split_types : drop i ts ≡ get_or ts i 0 ∷ drop (suc i) ts
    split_types =
        let long = numbers_long (n - i) vs (drop i ts) b.types in
        let less = length-drop i ts in
        drop-cons ts i 0 (omega arith)

    pub beside_row : FirstRow (n - (i + 1)) b.left ws (get_or rows i []) (drop (suc i) rows)
    beside_row =
        let read = b.read in
        rows_first (n - (i + 1)) b.left ws (get_or rows i []) (drop (suc i) rows) (rw (more, split_rows) at read)

    pub beside_type : FirstNumber (n - (i + 1)) vs (get_or ts i 0) (drop (suc i) ts)
    beside_type =
        let types = b.types in
        numbers_first (n - (i + 1)) vs (get_or ts i 0) (drop (suc i) ts) (rw (more, split_types) at types)

    module _ (k t : ℕ) (rest next : List (List ℕ)) (row : counted ws ≡ some (record { value = k; rest = rest }))
        (type : counted vs ≡ some (record { value = t; rest = next })) where
      long : length (get_or rows i []) ≡ k
      long = same_value beside_row.is row

      value : get_or ts i 0 ≡ t
      value = same_value beside_type.is type

      asked : (eqb (get_or ts i 0) 12 && not (eqb (length (get_or rows i [])) 8)) ≡ (eqb t 12 && not (eqb k 8))
      asked = rw (long, value)

      -- a type 12 row that has not 8 numbers
      pub beside_stop : (eqb t 12 && not (eqb k 8)) ≡ true → eights rows ts ≡ false
      unfolding eights
      beside_stop e = b.same ∙ rw (split_rows, split_types, eights, asked, e)

      pub beside_more : (eqb t 12 && not (eqb k 8)) ≡ false → Beside n (i + 1) (drop k rest) next rows ts
      unfolding eights
      beside_more e =
          let next_row = beside_row.more in
          let next_type = beside_type.read in
          let all : suc i ≡ i + 1 = sym (add-one i) in
          record {
            left = b.left - suc k;
            low = let l = b.low in omega arith;
            read = (rw (long, same_rest beside_row.is row) at next_row) ∙ ap (λ (m : ℕ). some (drop m rows)) all;
            types = (rw (same_rest beside_type.is type) at next_type) ∙ ap (λ (m : ℕ). some (drop m ts)) all;
            same =
                b.same ∙ (rw (split_rows, split_types, eights, asked, e))
                ∙ ap (λ (m : ℕ). eights (drop m rows) (drop m ts)) all;
          }

-- where all rows have 8 numbers no type asks for more
pub eights_all : (rows : List (List ℕ)) (ts : List ℕ) → all_of is_eight rows ≡ true → eights rows ts ≡ true
unfolding eights all_of
eights_all [] ts h = refl
eights_all (r ∷ rs) [] h = refl
eights_all (r ∷ rs) (t ∷ ts) h = test (is_eight r)
    (λ e.
    let rest : all_of is_eight rs ≡ true = rw (all_of, e) at h in
    test (eqb t 12) (λ q. rw (eights, q, e) (eights_all rs ts rest)) (λ q. rw (eights, q) (eights_all rs ts rest)))
    (λ e. absurd (clash h (rw (e, all_of))))
