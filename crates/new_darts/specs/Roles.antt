-- A dart that gets new darts, and one of these by its role r: a(g), b(g), c(g) of split, p(g), q(g), r(g) of insert where r is 0, 1, 2.
use Rattle.std.specs.Prelude.{ℕ, ◌<◌, Bool}
use mathlib.Core.List.{List, Memᴰ as In}
use Rattle.model.specs.Sheet.{sheet}
use Rattle.model.specs.Meaning.Sets.{Marked}
use Rattle.model.specs.Meaning.Splits.{Splits, sheet_darts, new_slots}
use Rattle.model.specs.Meaning.Walls.{Inserts, wall_darts, layer_slots}
use Rattle.new_darts.specs.News.{Made, Makes, Nexts, News}

-- of split d, for a dart g of S
pub record SplitRole (n : ℕ) (t : List ℕ) (d : ℕ) (fresh places : List ℕ) (r g : ℕ) : Type 0 where
  pub splits : Splits n t d
  pub news : News n t (sheet_darts n t d) (new_slots n t d) fresh places
  pub low : r < n
  pub dart : Marked (sheet n t d) g

pub record SomeSplitRole (n : ℕ) (t fresh places : List ℕ) (r g : ℕ) : Type 0 where
  pub d : ℕ
  pub is : SplitRole n t d fresh places r g

-- of insert along the wall m, for a dart h of it
pub record LayerRole (n : ℕ) (t m fresh places nexts : List ℕ) (r h : ℕ) : Type 0 where
  pub inserts : Inserts n t m
  pub next : Nexts n t m nexts
  pub news : News n t (wall_darts n t m) (layer_slots n t m) fresh places
  pub low : r < n
  pub dart : Marked m h

pub record SomeLayerRole (n : ℕ) (t fresh places nexts : List ℕ) (r h : ℕ) : Type 0 where
  pub m : List ℕ
  pub is : LayerRole n t m fresh places nexts r h

-- of either
pub record Role (n : ℕ) (insert : Bool) (t : List ℕ) (M : Made) (fresh places nexts : List ℕ) (r g : ℕ) : Type 0 where
  pub makes : Makes n t nexts insert M
  pub news : News n t M.olds M.news fresh places
  pub low : r < n
  pub dart : In g M.olds

pub record SomeRole (n : ℕ) (insert : Bool) (t fresh places nexts : List ℕ) (r g : ℕ) : Type 0 where
  pub made : Made
  pub is : Role n insert t made fresh places nexts r g
