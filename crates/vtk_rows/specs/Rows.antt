-- Rows of eight numbers that stand in a text, and a buffer that has them.
use Rattle.std.specs.Prelude.{ℕ, ◌+◌, ◌*◌, ◌≤◌, ◌<◌, ◌≡◌, List, [], length, get_or, take, drop}
use Rattle.std.proofs.Math.Option.{some}
use Rattle.model.specs.Vtk.{words, numbers}
use Rattle.model.specs.Meaning.Vtk.{RowsAt}

-- ---- one row

-- these eight numbers stand in the text from the byte `at` on
pub record RowAt (text : List ℕ) (at : ℕ) (row : List ℕ) : Type 0 where
  pub read : numbers 8 (words (drop at text)) ≡ some row
  pub few : (j : ℕ) → j < 8 → get_or row j 0 < length text

-- the first n numbers of the row stand in the buffer from `base` on, and all else stayed
pub record Put (before after : List ℕ) (base n : ℕ) (row : List ℕ) : Type 0 where
  pub same : length after ≡ length before
  pub put : (j : ℕ) → j < n → get_or after (base + j) 0 ≡ get_or row j 0
  pub below : (x : ℕ) → x < base → get_or after x 0 ≡ get_or before x 0
  pub above : (x : ℕ) → base + n ≤ x → get_or after x 0 ≡ get_or before x 0

pub record RowRead (text : List ℕ) (at : ℕ) (row before after : List ℕ) (base r : ℕ) : Type 0 where
  pub behind : words (drop r text) ≡ drop 8 (words (drop at text))
  pub stands : Put before after base 8 row

-- ---- several

-- rows of eight numbers stand in the text from the byte `at` on, k of them or more
pub record EightsAt (text : List ℕ) (at k : ℕ) (rows : List (List ℕ)) : Type 0 where
  pub stand : RowsAt text at rows
  pub eight : (c : ℕ) → c < length rows → length (get_or rows c []) ≡ 8
  pub enough : k ≤ length rows

-- the first k of these rows are the buffer's, from its start on, and the others stand in the text from r on
pub record EightsRead (text : List ℕ) (k : ℕ) (rows : List (List ℕ)) (before after : List ℕ) (r : ℕ) : Type 0 where
  pub left : RowsAt text r (drop k rows)
  pub row : (c : ℕ) → c < k → take 8 (drop (8 * c) after) ≡ get_or rows c []
  pub same : length after ≡ length before
  pub stays : drop (8 * k) after ≡ drop (8 * k) before
