-- What the functions ask of the table, of the wall's marks and of the lent buffers: `Lent` of `test`, the others of those below it.
use Rattle.std.specs.Prelude.{ℕ, ◌≤◌, ◌<◌, ◌≡◌, true, List, length, get_or, replicate}
use Rattle.model.specs.Lists.{ones}
use Rattle.model.specs.Table.{slots}
use Rattle.model.specs.Wall.{next, drawn, enclosed}
use Rattle.model.specs.Meaning.Maps.{BlockTable}
use Rattle.model.specs.Meaning.Sets.{Marked}

-- a block map, marks as many as slots, and buffers with a word for each slot; those of `seen` are 0
pub record Lent (n : ℕ) (t m queue next seen : List ℕ) : Type 0 where
  pub table : BlockTable n t
  pub long : length m ≡ slots t
  pub queue_room : slots t ≤ length queue
  pub next_room : slots t ≤ length next
  pub seen_room : slots t ≤ length seen
  pub clear : (x : ℕ) → x < slots t → get_or seen x 0 ≡ 0

-- behind 28
pub record Drawing (n : ℕ) (t m : List ℕ) : Type 0 where
  pub table : BlockTable n t
  pub long : length m ≡ slots t
  pub drawn : drawn t m ≡ true

-- and behind 29
pub record Closed (n : ℕ) (t m : List ℕ) : Type 0 where
  pub drawing : Drawing n t m
  pub enclosed : enclosed n t m ≡ true

-- nx has next(h) for each dart h of the wall
pub record Nexts (n : ℕ) (t m nx : List ℕ) : Type 0 where
  pub closed : Closed n t m
  pub room : slots t ≤ length nx
  pub next : (h : ℕ) → Marked m h → get_or nx h 0 ≡ next n t m h

-- the same for some wall, of which h is a dart
pub record SomeNext (n : ℕ) (t nx : List ℕ) (h : ℕ) : Type 0 where
  pub m : List ℕ
  pub nexts : Nexts n t m nx
  pub dart : Marked m h

-- the same for some wall, whose darts are hs
pub record SomeNexts (n : ℕ) (t nx hs : List ℕ) : Type 0 where
  pub m : List ℕ
  pub nexts : Nexts n t m nx
  pub listed : hs ≡ ones m

-- for a flood over the wall: no slot is seen yet, and the queue begins with the wall's first dart
pub record ToFlood (n : ℕ) (t m nx seen queue : List ℕ) : Type 0 where
  pub nexts : Nexts n t m nx
  pub clear : seen ≡ replicate (slots t) 0
  pub room : slots t ≤ length queue
  pub first : get_or queue 0 0 ≡ get_or (ones m) 0 0

pub record SomeFlood (n : ℕ) (t nx seen queue : List ℕ) : Type 0 where
  pub m : List ℕ
  pub is : ToFlood n t m nx seen queue
