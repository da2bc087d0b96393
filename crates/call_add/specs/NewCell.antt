-- What add knows when it writes its record: `NewCell`.
use Rattle.std.specs.Prelude.{ℕ, ◌≤◌, ◌≡◌, List, length, take}
use Rattle.model.specs.Cell.{cell_size}
use Rattle.model.specs.Add.{add_slots, add_table}
use Rattle.model.specs.Meaning.Maps.{MapTable}
use Rattle.model.specs.Meaning.Numbers.{JournalRule}
use Rattle.drafts.specs.Passes.{Room}

-- t is a map, the first `size` words are the slots of the new cell, and its record has room in j
pub record NewCell (n : ℕ) (t words : List ℕ) (size : ℕ) (j : List ℕ) : Type 0 where
  pub table : MapTable n t
  pub whole : size ≡ cell_size n
  pub enough : length (add_slots n t) ≡ cell_size n
  pub listed : take size words ≡ add_slots n t
  pub long : size ≤ length words
  pub rule : JournalRule j
  pub room : Room t (add_table n t) j

-- of some table
pub record SomeCell (n : ℕ) (words : List ℕ) (size : ℕ) (j : List ℕ) : Type 0 where
  pub t : List ℕ
  pub is : NewCell n t words size j
