-- A queue that lists a sheet: `Queued`. The words stand in groups, whose darts have their link 1 in the sheet all or none.
use Rattle.std.specs.Prelude.{ℕ, ◌+◌, ◌*◌, ◌-◌, ◌<◌, ◌≡◌, ◌≢◌, List, length, get_or}
use Rattle.model.specs.Lists.{count}
use Rattle.model.specs.Table.{slots, link}
use Rattle.model.specs.Sheet.{sheet}
use Rattle.model.specs.Meaning.Sets.{Marked}
use Rattle.model.specs.Meaning.Sheets.{BlockDart, half}

-- how many words a group has: the first places of a cell are one group, n = 2, or two
abbrev pub group : ℕ → ℕ
group n = 4 * (n - 1)

-- the first k words are the darts of the sheet of d, each once, cell by cell
pub record Queued (n : ℕ) (t : List ℕ) (d : ℕ) (w : List ℕ) (k : ℕ) : Type 0 where
  pub within : (i : ℕ) → i < k → Marked (sheet n t d) (get_or w i 0)
  pub all : (x : ℕ) → Marked (sheet n t d) x → (i : ℕ) × (i < k) × (x ≡ get_or w i 0)
  pub once : (i j : ℕ) → i < j → j < k → get_or w i 0 ≢ get_or w j 0
  pub alike : (c p : ℕ) → p < group n → group n * c + p < k → Marked (sheet n t d) (link t 1 (get_or w (group n * c) 0))
      → Marked (sheet n t d) (link t 1 (get_or w (group n * c + p) 0))
  pub cells : (c : ℕ) × (k ≡ half n * c)

-- the marks m are the sheet of a dart of a block map, and the first k words of the queue list it
pub record Listed (n : ℕ) (t m w : List ℕ) (k : ℕ) : Type 0 where
  pub seed : ℕ
  pub dart : BlockDart n t seed
  pub marks : m ≡ sheet n t seed
  pub queued : Queued n t seed w k
  pub within : k ≡ count 1 m
  pub words : length w ≡ slots t
