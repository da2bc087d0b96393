-- CELLS as a whole: `cells_read`, and what a read one had: `cells_parts`, `cells_rows`; its counts are no larger than the text: `cells_few`.
use Prim.Native.Nat.{ℕ, suc, ◌-◌, ◌≤◌}
use mathlib.Core.Path.{◌≡◌, sym, ap, ◌∙◌}
use mathlib.Core.List.{List, [], ◌∷◌}
use mathlib.Core.Option.{none, some}
use native.Mathlib.Omega.{arith}
use lib.ListN.{length, drop, length-drop}
use Rattle.model.specs.Text.{bytes}
use Rattle.model.specs.Vtk.{words, behind_words, Counted, counted, numbers, rows_of, Rows, cells_of}
use Rattle.model.specs.Meaning.Vtk.{rows_from}
use Rattle.theorems.proofs.Lists.Scan.{if_lt}
use Rattle.theorems.proofs.Vtk.Form.{then_some}
use Rattle.theorems.proofs.Vtk.Streaming.{rows_stream, numbers_few, words_few}
use Rattle.vtk_words.specs.Words.{number_at}
use Rattle.vtk_words.proofs.Counting.{none_some, same_value, same_rest, counted_shorter, rows_first, rows_long}

-- ---- counts

-- a text has no more words than bytes, from any place on
pub words_in : (text : List ℕ) (k : ℕ) → length (words (drop k text)) ≤ length text
words_in text k = let few = words_few (drop k text) in let less = length-drop k text in omega arith

-- the size is no larger than the words
rows_size : (n size : ℕ) (ws rows : List (List ℕ)) → rows_from n size ws ≡ some rows → size ≤ length ws
rows_size n size ws rows h =
    let (xs, e, _) = then_some (numbers size ws) (rows_of n) rows (sym (rows_stream n size ws) ∙ h) in
    if_lt (length ws) size (λ l. absurd (none_some (numbers_few size ws l) e)) (λ l. l)

-- nor is the number of rows
rows_few : (size : ℕ) (ws rows : List (List ℕ)) → rows_from (length rows) size ws ≡ some rows → length rows ≤ length ws
rows_few size ws [] h = omega arith
rows_few size ws (row ∷ others) h =
    let f = rows_first (length others) size ws row others h in
    let rec = rows_few (size - suc (length row)) (drop (length row) f.rest) others f.more in
    let less = length-drop (length row) f.rest in
    let shorter = counted_shorter ws _ f.is in
    omega arith

-- ---- the section

-- the two counts of CELLS behind its keyword, and its rows
pub record CellsParts (behind : List (List ℕ)) (c : Rows) : Type 0 where
  pub count : Counted
  pub size : Counted
  pub first : counted behind ≡ some count
  pub second : counted count.rest ≡ some size
  pub read : rows_from count.value size.value size.rest ≡ some c.rows

module _ (ws : List (List ℕ)) where
  cells_behind : (c : Rows) → cells_of ws ≡ some c
      → (a : List (List ℕ)) × (behind_words (bytes "CELLS" ∷ []) ws ≡ some a) × CellsParts a c
  unfolding cells_of
  cells_behind c h =
      let (a, key, h₁) = then_some {A = List (List ℕ)} (behind_words (bytes "CELLS" ∷ []) ws) _ c h in
      let (n, first, h₂) = then_some {A = Counted} (counted a) _ c h₁ in
      let (size, second, h₃) = then_some {A = Counted} (counted n.rest) _ c h₂ in
      let (xs, all, h₄) = then_some {A = List ℕ} (numbers size.value size.rest) _ c h₃ in
      let (rows, parted, h₅) = then_some {A = List (List ℕ)} (rows_of n.value xs) _ c h₄ in
      let same : record { rows = rows; rest = drop size.value size.rest } ≡ c = cc in (
        a,
        key,
        record {
          count = n;
          size = size;
          first = first;
          second = second;
          read = streamed n.value size.value size.rest xs all ∙ parted ∙ ap (λ (c : Rows). some c.rows) same;
        },
      )
    where
      streamed : (n size : ℕ) (ws : List (List ℕ)) (xs : List ℕ) → numbers size ws ≡ some xs → rows_from n size ws ≡ rows_of n xs
      streamed n size ws xs e = rows_stream n size ws ∙ rw e

  pub cells_key : behind_words (bytes "CELLS" ∷ []) ws ≡ none → (c : Rows) → cells_of ws ≡ some c → ⊥
  cells_key e c h = let (_, key, _) = cells_behind c h in none_some e key

  pub cells_parts : (a : List (List ℕ)) → behind_words (bytes "CELLS" ∷ []) ws ≡ some a → (c : Rows) → cells_of ws ≡ some c → CellsParts a c
  cells_parts a e c h =
      let (a', key, f) = cells_behind c h in
      let same : a' ≡ a = cc in
      rw same at f

  pub cells_read : (a : List (List ℕ)) (n size : Counted) (rows : List (List ℕ)) → behind_words (bytes "CELLS" ∷ []) ws ≡ some a
      → counted a ≡ some n → counted n.rest ≡ some size → rows_from n.value size.value size.rest ≡ some rows
      → cells_of ws ≡ some (record { rows = rows; rest = drop size.value size.rest })
  unfolding cells_of
  cells_read a n size rows key first second read =
      let (xs, all, parted) = then_some (numbers size.value size.rest) (rows_of n.value) rows
      (sym (rows_stream n.value size.value size.rest) ∙ read) in
      put xs all parted
    where
      put : (xs : List ℕ) → numbers size.value size.rest ≡ some xs → rows_of n.value xs ≡ some rows
          → cells_of ws ≡ some (record { rows = rows; rest = drop size.value size.rest })
      put xs all parted = rw (key, first, second, all, parted)

-- the counts of a text are no larger than the text
pub cells_few : (text : List ℕ) (k : ℕ) (c : Rows) (f : CellsParts (words (drop k text)) c)
    → (f.count.value ≤ length text) × (f.size.value ≤ length text)
cells_few text k c f =
    let all = words_in text k in
    let once = counted_shorter (words (drop k text)) f.count f.first in
    let twice = counted_shorter f.count.rest f.size f.second in
    let long = rows_long f.count.value f.size.value f.size.rest c.rows f.read in
    let read = f.read in
    let few = rows_few f.size.value f.size.rest c.rows (rw (sym long) at read) in
    let most = rows_size f.count.value f.size.value f.size.rest c.rows f.read in
    (omega arith, omega arith)

-- the rows that were read stand behind the counts
module _ (text : List ℕ) (counts n second : ℕ) (c : Rows) (f : CellsParts (words (drop counts text)) c)
    (count : counted (words (drop counts text)) ≡ some (number_at text n second)) where
  pub cells_second : counted (words (drop second text)) ≡ some f.size
  cells_second = ap counted (sym (same_rest f.first count)) ∙ f.second

  pub cells_rows : (size first : ℕ) → counted (words (drop second text)) ≡ some (number_at text size first)
      → rows_from n size (words (drop first text)) ≡ some c.rows
  cells_rows size first e =
      let read = f.read in
      rw (same_value f.first count, same_value cells_second e, same_rest cells_second e) at read
