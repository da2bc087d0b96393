-- How a list of sews ends (02, R-9): refused before any item (`list_rows`), or as its items' single calls end: all are accepted
-- (`AllSewn`), or one is refused and those before it stand (`Stopped`).
use Rattle.std.specs.Prelude.{ℕ, suc, ◌+◌, ◌%◌, ◌≡◌, ◌≢◌, true, List, [], ◌∷◌, ◌++◌, length}
use Rattle.model.specs.Map.{is_map}
use Rattle.model.specs.Checks.{pass, dim_ok, table_ok, journal_ok}
use Rattle.model.specs.Calls.{Outcome, Item}
use Rattle.model.specs.Runs.{Step, State, answer, stepped, run, item_step}
use Rattle.model.specs.Meaning.Ends.{refusal_place, refusal_count}
use Rattle.model.specs.Meaning.Numbers.{NumberRow, dim_row, table_row, journal_row, map_rows}

-- ---- before any item

-- the checks 1, 2, 4 and those of a map pass
pub record Ready (n : ℕ) (t j : List ℕ) : Type 0 where
  pub dim : dim_ok n ≡ pass
  pub table : table_ok t ≡ pass
  pub journal : journal_ok j ≡ pass
  pub map : is_map n t ≡ true

-- "list length no multiple of three"
abbrev pub list_row : List ℕ → NumberRow
list_row l = record { number = 38; given = length l % 3 ≢ 0 }

abbrev pub list_rows : ℕ → List ℕ → List ℕ → List ℕ → List NumberRow
list_rows n t j l = dim_row n ∷ table_row t ∷ journal_row j ∷ (map_rows n t ++ (list_row l ∷ []))

-- the numbers of these rows
abbrev pub list_numbers : List ℕ
list_numbers = 1 ∷ 2 ∷ 4 ∷ 5 ∷ 24 ∷ 25 ∷ 26 ∷ 38 ∷ []

-- a refusal by the number k: "answer as for one call", 38 "with place and count 0"
pub record RefusedFirst (n : ℕ) (t j : List ℕ) (k : ℕ) (r : Outcome) : Type 0 where
  pub number : r.number ≡ k
  pub place : r.place ≡ refusal_place n t k
  pub count : r.count ≡ refusal_count n t k
  pub table : r.table ≡ t
  pub journal : r.journal ≡ j

-- ---- single calls, one after the other from the state s

-- those of these items
abbrev pub sews_of : ℕ → List Item → List Step
sews_of tag [] = []
sews_of tag (x ∷ xs) = item_step tag x ∷ sews_of tag xs

-- all are accepted
abbrev pub AllAccepted : ℕ → State → List Step → Type 0
AllAccepted n s [] = Unit {0}
AllAccepted n s (c ∷ cs) = ((answer n s c).number ≡ 0) × AllAccepted n (stepped n s c) cs

-- the sum of their counts
abbrev pub count_of : ℕ → State → List Step → ℕ
count_of n s [] = 0
count_of n s (c ∷ cs) = (answer n s c).count + count_of n (stepped n s c) cs

-- ---- behind k items that changed q entries, with the outcome r

-- the items ys stand: their single calls are accepted, and r has the table, the journal and the count that they leave
pub record Standing (n : ℕ) (s : State) (tag q : ℕ) (ys : List Item) (r : Outcome) : Type 0 where
  pub accepted : AllAccepted n s (sews_of tag ys)
  pub table : r.table ≡ (run n s (sews_of tag ys)).outcome.table
  pub journal : r.journal ≡ (run n s (sews_of tag ys)).outcome.journal
  pub count : r.count ≡ q + count_of n s (sews_of tag ys)

-- all items stand
pub record AllSewn (n : ℕ) (s : State) (tag q : ℕ) (xs : List Item) (r : Outcome) : Type 0 where
  pub number : r.number ≡ 0
  pub place : r.place ≡ 0
  pub standing : Standing n s tag q xs r

-- an item is refused, by the number that its single call gives; those before it stand, and it changes nothing
pub record Stopped (n : ℕ) (s : State) (tag k q : ℕ) (xs : List Item) (r : Outcome) : Type 0 where
  pub before : List Item
  pub item : Item
  pub behind : List Item
  pub parts : xs ≡ before ++ (item ∷ behind)
  pub standing : Standing n s tag q before r
  pub number : r.number ≡ (answer n (run n s (sews_of tag before)) (item_step tag item)).number
  pub refused : r.number ≢ 0
  pub place : r.place ≡ suc (k + length before)
