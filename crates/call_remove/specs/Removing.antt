-- The record of remove, drafted by a rising pass over the marks of a sheet: what is given (`Removing`), and the pass (`Clearing`).
use Rattle.std.specs.Prelude.{ℕ, ◌≤◌, ◌<◌, ◌≡◌, ◌≢◌, List, length, get_or}
use Rattle.model.specs.Table.{slots}
use Rattle.model.specs.Remove.{removed}
use Rattle.model.specs.Meaning.Numbers.{JournalRule}
use Rattle.model.specs.Meaning.Sheets.{BlockDart, marks_of}
use Rattle.drafts.specs.Passes.{Room, Pass}

-- m are the marks of the sheet of some dart of a block map
pub record OfSheet (n : ℕ) (t m : List ℕ) : Type 0 where
  pub d : ℕ
  pub dart : BlockDart n t d
  pub marks : m ≡ marks_of n t d

-- the record of the change has room in j
pub record Removing (n : ℕ) (t m j : List ℕ) : Type 0 where
  pub sheet : OfSheet n t m
  pub rule : JournalRule j
  pub room : Room t (removed n t m) j

-- ---- the pass that drafts it

-- it has met the slots below x, and its next triple is at the word `at`
pub record Clearing (n : ℕ) (t m j : List ℕ) (x at : ℕ) (w : List ℕ) : Type 0 where
  pub sheet : OfSheet n t m
  pub few : length j ≤ 1048576
  pub pass : Pass t (removed n t m) j x at w

-- some such pass comes to the slot x, which has a mark
pub record ToClear (n : ℕ) (t m : List ℕ) (x at : ℕ) (w : List ℕ) : Type 0 where
  pub j : List ℕ
  pub clearing : Clearing n t m j x at w
  pub inside : x < slots t
  pub mark : get_or m x 0 ≢ 0
