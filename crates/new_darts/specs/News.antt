-- What split or insert makes of a table (`Made`, `Makes`), and its new darts by a list of their slots (`News`).
use Rattle.std.specs.Prelude.{ℕ, ◌+◌, ◌≤◌, ◌<◌, ◌≡◌, Bool, true, false, length, get_or}
use mathlib.Core.List.{List, Memᴰ as In}
use Rattle.model.specs.Table.{slots, link}
use Rattle.model.specs.NewDarts.{new_dart}
use Rattle.model.specs.Split.{split_table}
use Rattle.model.specs.Wall.{next}
use Rattle.model.specs.Insert.{insert_table}
use Rattle.model.specs.Meaning.Sets.{Marked}
use Rattle.model.specs.Meaning.Splits.{Splits, sheet_darts, new_slots}
use Rattle.model.specs.Meaning.Walls.{Inserts, wall_darts, layer_slots}

-- the table that it makes, the darts that get new ones, rising, and the slots of these
pub record Made : Type 0 where
  pub table : List ℕ
  pub olds : List ℕ
  pub news : List ℕ

abbrev pub split_made : ℕ → List ℕ → ℕ → Made
split_made n t d = record { table = split_table n t d; olds = sheet_darts n t d; news = new_slots n t d }

abbrev pub insert_made : ℕ → List ℕ → List ℕ → Made
insert_made n t m = record { table = insert_table n t m; olds = wall_darts n t m; news = layer_slots n t m }

-- `nexts` has next(h) for each dart h of the wall m
pub record Nexts (n : ℕ) (t m nexts : List ℕ) : Type 0 where
  pub wide : slots t ≤ length nexts
  pub next : (h : ℕ) → Marked m h → get_or nexts h 0 ≡ next n t m h

-- insert, or else split, makes it of the table t
pub data Makes (n : ℕ) (t nexts : List ℕ) : Bool → Made → Type 0 where
  by_split : {d : ℕ} → Splits n t d → Makes n t nexts false (split_made n t d)
  by_insert : {m : List ℕ} → Inserts n t m → Nexts n t m nexts → Makes n t nexts true (insert_made n t m)

-- the link of an old dart that leads to its first new one
unfoldable pub changed_link : ℕ → Bool → ℕ
changed_link n insert = elim insert [ true ↦ n | false ↦ 0 ]

-- the new darts of a dart g of gs stand in `fresh`, in order, from the word on that `places` has for g; fs are the slots of all
pub record News (n : ℕ) (t gs fs fresh places : List ℕ) : Type 0 where
  pub wide : slots t ≤ length places
  pub inside : (g : ℕ) → In g gs → get_or places g 0 + n ≤ length fresh
  pub new : (r g : ℕ) → r < n → In g gs → get_or fresh (get_or places g 0 + r) 0 ≡ new_dart n gs fs r g

-- these are the links of x in the table u
abbrev pub NewLinks : List ℕ → ℕ → List ℕ → Type 0
NewLinks u x links = (j : ℕ) → j < 4 → get_or links j 0 ≡ link u j x
