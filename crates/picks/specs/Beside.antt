-- The marks beside the darts of a queue: `Beside` (one dart), `BesideTo` (some words of the queue), `GroupBeside` (a group).
use Rattle.std.specs.Prelude.{ℕ, zero, suc, ◌+◌, ◌≤◌, ◌<◌, ◌≡◌, ◌⊎◌, ◌≢◌, List, length, get_or}
use Rattle.model.specs.Table.{slots, link}
use Rattle.model.specs.Meaning.Maps.{Dim}
use Rattle.model.specs.Meaning.Sheets.{BlockDart}
use Rattle.sheets.specs.Spread.{Other}
use Rattle.picks.specs.Queued.{group}

-- r are the marks m after x.1 and, n = 3, x.1.2 are marked
abbrev pub Beside : ℕ → List ℕ → List ℕ → ℕ → List ℕ → Type 0
Beside n t m x r =
    (q : List ℕ) × Other n t m (link t 1 x) q × (((n ≡ 3) × Other n t q (link t 2 (link t 1 x)) r) ⊎ ((n ≢ 3) × (r ≡ q)))

-- the same of the k words of the queue w at a, in order
abbrev pub BesideTo : ℕ → List ℕ → List ℕ → List ℕ → ℕ → ℕ → List ℕ → Type 0
BesideTo n t m w a zero r = r ≡ m
BesideTo n t m w a (suc k) r = (q : List ℕ) × BesideTo n t m w a k q × Beside n t q (get_or w (a + k) 0) r

-- the group of words at a: darts of a block map
pub record Group (n : ℕ) (t m w : List ℕ) (a : ℕ) : Type 0 where
  pub dim : Dim n
  pub darts : (j : ℕ) → j < group n → BlockDart n t (get_or w (a + j) 0)
  pub long : length m ≡ slots t
  pub words : length w ≡ slots t
  pub room : a + group n ≤ length w

-- where link 1 of the group's first dart has the mark 1 the marks stay
abbrev pub GroupBeside : ℕ → List ℕ → List ℕ → List ℕ → ℕ → List ℕ → Type 0
GroupBeside n t m w a r =
    let y = link t 1 (get_or w a 0) in
    ((get_or m y 0 ≡ 1) × (r ≡ m)) ⊎ ((get_or m y 0 ≢ 1) × BesideTo n t m w a (group n) r)
