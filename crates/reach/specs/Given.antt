-- What the functions ask of the table and of the lent buffers: `Given` of orbit, the others of those below it.
use Rattle.std.specs.Prelude.{ℕ, ◌+◌, ◌*◌, ◌≤◌, ◌<◌, ◌≡◌, true, List, length, get_or}
use Rattle.model.specs.Lists.{count}
use Rattle.model.specs.Table.{slots, link, live}
use Rattle.model.specs.Meaning.Maps.{MapTable}

-- what 01's checks say of the table, the marks and the dart; and the queue has a word for each slot
pub record Given (n : ℕ) (t m q : List ℕ) (d : ℕ) : Type 0 where
  pub table : MapTable n t
  pub long : length m ≡ slots t
  pub room : slots t ≤ length q
  pub start : live t d ≡ true

-- each link of a live slot is a live slot
pub record Linked (t : List ℕ) : Type 0 where
  pub fits : length t ≡ 4 * slots t
  pub few : slots t ≤ 65536
  pub goes : (x i : ℕ) → live t x ≡ true → i < 4 → live t (link t i x) ≡ true

-- behind the queue's first r words there is room for each slot, of `size`, that has no mark
pub record Room (size : ℕ) (m q : List ℕ) (r : ℕ) : Type 0 where
  pub long : length m ≡ size
  pub room : size ≤ length q
  pub number : r + count 0 m ≡ size

-- for the steps of x
pub record Stepping (t m q : List ℕ) (r x : ℕ) : Type 0 where
  pub linked : Linked t
  pub space : Room (slots t) m q r
  pub lives : live t x ≡ true

-- for a dart y that is met: a word can hold it, and where it has no mark the queue has room for it
pub record Meeting (m q : List ℕ) (r y : ℕ) : Type 0 where
  pub inside : y < length m
  pub few : y < 65536
  pub space : get_or m y 0 ≡ 0 → r < length q
