-- A record by its words: where each stands (`entry_at`, `old_at`, `new_at`), when it is broken (`Broken`), and what the record of
-- the changes from a table to another says (`Recording`).
use Rattle.std.specs.Prelude.{ℕ, suc, ◌+◌, ◌*◌, ◌≤◌, ◌<◌, ◌≡◌, ◌≢◌, Bool, true, false, List, length, get_or}
use Rattle.model.specs.Journal.{end}

-- ---- the words of a record that begins at the word a: a count, the tag, "triples (table entry, old value, new value)", a count

abbrev pub count_at : List ℕ → ℕ → ℕ
count_at j a = get_or j a 0

abbrev pub entry_at : List ℕ → ℕ → ℕ → ℕ
entry_at j a x = get_or j (a + 2 + 3 * x) 0

abbrev pub old_at : List ℕ → ℕ → ℕ → ℕ
old_at j a x = get_or j (a + 3 + 3 * x) 0

abbrev pub new_at : List ℕ → ℕ → ℕ → ℕ
new_at j a x = get_or j (a + 4 + 3 * x) 0

-- the count behind k triples
abbrev pub last_count_at : List ℕ → ℕ → ℕ → ℕ
last_count_at j a k = get_or j (a + (3 * k + 2)) 0

-- "the value to be replaced": by redo the old one, by undo the new one
abbrev pub replaced_at : Bool → List ℕ → ℕ → ℕ → ℕ
replaced_at true j a x = old_at j a x
replaced_at false j a x = new_at j a x

-- ---- broken

-- "A record is broken if": of the record of k changes at the word a, a reason for each part of the sentence
pub data Broken (redo : Bool) (t j : List ℕ) (a k : ℕ) : Type 0 where
  -- "its two counts differ"
  counts_differ : count_at j a ≢ last_count_at j a k → Broken redo t j a k
  -- "k is 0"
  no_change : k ≡ 0 → Broken redo t j a k
  -- "it passes 2"
  passes_2 : a < 2 → Broken redo t j a k
  -- "or the end"
  passes_end : end j < a + (3 * k + 3) → Broken redo t j a k
  -- "an entry isn't rising"
  not_rising : (x : ℕ) → suc x < k → entry_at j a (suc x) ≤ entry_at j a x → Broken redo t j a k
  -- "or lies past the table"
  past_table : (x : ℕ) → x < k → length t ≤ entry_at j a x → Broken redo t j a k
  -- "old = new"
  alike : (x : ℕ) → x < k → old_at j a x ≡ new_at j a x → Broken redo t j a k
  -- "or the table doesn't hold the value to be replaced"
  not_held : (x : ℕ) → x < k → get_or t (entry_at j a x) 0 ≢ replaced_at redo j a x → Broken redo t j a k

-- ---- written

-- "its record (every entry whose value changed)": the words of j from a on are the record, with this tag, of the k changes from
-- the table t to the table u
pub record Recording (tag : ℕ) (t u j : List ℕ) (a k : ℕ) : Type 0 where
  pub count : count_at j a ≡ k
  pub tagged : get_or j (a + 1) 0 ≡ tag
  pub again : last_count_at j a k ≡ k
  pub rising : (x : ℕ) → suc x < k → entry_at j a x < entry_at j a (suc x)
  pub within : (x : ℕ) → x < k → entry_at j a x < length t
  pub old : (x : ℕ) → x < k → old_at j a x ≡ get_or t (entry_at j a x) 0
  pub new : (x : ℕ) → x < k → new_at j a x ≡ get_or u (entry_at j a x) 0
  pub changed : (x : ℕ) → x < k → old_at j a x ≢ new_at j a x
  pub every : (e : ℕ) → get_or t e 0 ≢ get_or u e 0 → (x : ℕ) × (x < k) × (entry_at j a x ≡ e)
