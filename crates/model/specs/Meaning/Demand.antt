-- What demand 3 asks of a run of calls.
use Rattle.std.specs.Prelude.{ℕ, ◌%◌, ◌≤◌, ◌≡◌, ◌⊎◌, ◌≢◌, ◌↔◌, true, length}
use mathlib.Core.List.{List, [], ◌∷◌, Memᴰ as In}
use Rattle.model.specs.Map.{MapRule, is_map}
use Rattle.model.specs.Journal.{cursor, end}
use Rattle.model.specs.Checks.{rule_number}
use Rattle.model.specs.Runs.{Call, Tagged, replay, History, Step, State, start, answer, stepped, run}
use Rattle.model.specs.Meaning.Maps.{Dim}

-- where a run begins: a table that is a map, and a fresh journal, of lengths that are allowed
pub record FreshStart (n : ℕ) (t j : List ℕ) : Type 0 where
  pub dim : Dim n
  pub whole : length t % 4 ≡ 0
  pub few : length t ≤ 262144
  pub map : is_map n t ≡ true
  pub low : 2 ≤ length j
  pub high : length j ≤ 1048576
  pub at_cursor : cursor j ≡ 2
  pub at_end : end j ≡ 2

-- the state after the run cs, which began with the table t and the journal j
abbrev pub reached : ℕ → List ℕ → List ℕ → List Step → State
reached n t j cs = run n (start t j) cs

-- a call, with these marks lent
abbrev pub calling : Call → List ℕ → Step
calling c m = record { call = c; marks = m }

-- the number that the next call gives, with these marks lent, and its place
unfoldable pub number_of : ℕ → State → Call → List ℕ → ℕ
number_of n s c m = (answer n s (calling c m)).number

unfoldable pub place_of : ℕ → State → Call → List ℕ → ℕ
place_of n s c m = (answer n s (calling c m)).place

-- the operation p stands or was undone
abbrev pub InHistory : Tagged → History → Type 0
InHistory p h = In p h.standing ⊎ In p h.undone

-- in the run cs from s the operation p was called, with its tag, and accepted
abbrev pub Called : ℕ → State → List Step → Tagged → Type 0
Called n s [] p = ⊥
Called n s (c ∷ cs) p =
    ((c.call ≡ Call.op p.tag p.op) × ((answer n s c).number ≡ 0)) ⊎ Called n (stepped n s c) cs p

-- of the state s after a run that began with the table t; m are the marks lent to the next call
pub record Stands (n : ℕ) (t : List ℕ) (s : State) : Type 0 where
  -- the table is what the operations that stand make of the first one, and it is a map
  pub table : s.outcome.table ≡ replay n t s.history.standing
  pub map : is_map n s.outcome.table ≡ true
  -- undo gives 16 exactly if none stands, redo exactly if none was undone; else they are accepted
  pub undo_16 : (m : List ℕ) → (number_of n s Call.undo m ≡ 16) ↔ (s.history.standing ≡ [])
  pub redo_16 : (m : List ℕ) → (number_of n s Call.redo m ≡ 16) ↔ (s.history.undone ≡ [])
  pub undo_0 : (m : List ℕ) → s.history.standing ≢ [] → number_of n s Call.undo m ≡ 0
  pub redo_0 : (m : List ℕ) → s.history.undone ≢ [] → number_of n s Call.redo m ≡ 0
  -- "each tag given back is that of the step undone or redone": of the newest that stands, of the next to redo
  pub undo_tag : (m : List ℕ) (p : Tagged) (ps : List Tagged) → s.history.standing ≡ p ∷ ps
      → place_of n s Call.undo m ≡ p.tag
  pub redo_tag : (m : List ℕ) (p : Tagged) (ps : List Tagged) → s.history.undone ≡ p ∷ ps → place_of n s Call.redo m ≡ p.tag
  pub undo_17 : (m : List ℕ) → number_of n s Call.undo m ≢ 17
  pub redo_17 : (m : List ℕ) → number_of n s Call.redo m ≢ 17
  -- no call finds a journal out of rule, or a table that breaks a rule of a map: none gives 4, 5, 24, 25 or 26
  pub never_4 : (c : Call) (m : List ℕ) → number_of n s c m ≢ 4
  pub never_broken : (c : Call) (m : List ℕ) (r : MapRule) → number_of n s c m ≢ rule_number r

-- "each tag given back is that of the step undone or redone": after the state s undo takes back an operation that had
-- this tag, and redo does it again
pub record GivesBack (n : ℕ) (s : State) (tag : ℕ) : Type 0 where
  pub undo_0 : (m : List ℕ) → number_of n s Call.undo m ≡ 0
  pub undo_tag : (m : List ℕ) → place_of n s Call.undo m ≡ tag
  pub redo_0 : (m m' : List ℕ) → number_of n (stepped n s (calling Call.undo m)) Call.redo m' ≡ 0
  pub redo_tag : (m m' : List ℕ) → place_of n (stepped n s (calling Call.undo m)) Call.redo m' ≡ tag

-- two states with the same table, journal and history
pub record Alike (s r : State) : Type 0 where
  pub table : s.outcome.table ≡ r.outcome.table
  pub journal : s.outcome.journal ≡ r.outcome.journal
  pub history : s.history ≡ r.history
