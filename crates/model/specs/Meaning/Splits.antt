-- split d where no check but 15 refuses it (`Splits`): its new darts, its links in 01's words (`SplitLinks`), and its cells.
use Rattle.std.specs.Prelude.{ℕ, ◌*◌, ◌<◌, ◌≡◌, ◌⊎◌, true, false, length}
use mathlib.Core.List.{List, [], ◌∷◌, Memᴰ as In}
use Rattle.model.specs.Lists.{ones}
use Rattle.model.specs.Table.{link, live, walk}
use Rattle.model.specs.Cell.{cell_of, good_cell}
use Rattle.model.specs.Sheet.{sheet}
use Rattle.model.specs.NewDarts.{new_dart, slots_for}
use Rattle.model.specs.Split.{crosses}
use Rattle.model.specs.Meaning.Slots.{Vacant}
use Rattle.model.specs.Meaning.Sets.{Marked}
use Rattle.model.specs.Meaning.Maps.{BlockTable}
use Rattle.model.specs.Meaning.Sheets.{BlockDart, Sheet}

-- split of d passes its checks but 15: a live dart of a block map, not 13, not 14
pub record Splits (n : ℕ) (t : List ℕ) (d : ℕ) : Type 0 where
  pub dart : BlockDart n t d
  pub uncrossed : crosses t (sheet n t d) (ones (sheet n t d)) ≡ false
  pub room : length (slots_for n t (ones (sheet n t d))) ≡ n * length (ones (sheet n t d))

-- what split takes, by its darts and its slots: a block map, darts gs closed as a sheet is, of which none has its link 1 among
-- them, and n unused slots fs for each
pub record Splitting (n : ℕ) (t gs fs : List ℕ) : Type 0 where
  pub table : BlockTable n t
  pub sheet : Sheet n t gs
  pub uncrossed : (x : ℕ) → In x gs → In (link t 1 x) gs → ⊥
  pub vacant : Vacant t fs
  pub enough : length fs ≡ n * length gs

-- x is the new dart of a role (0 for a, 1 for b, 2 for c) of a dart of gs, where the new slots are fs
pub record IsNew (n : ℕ) (gs fs : List ℕ) (x : ℕ) : Type 0 where
  pub role : ℕ
  pub of : ℕ
  pub low : role < n
  pub member : In of gs
  pub is : x ≡ new_dart n gs fs role of

module _ (n : ℕ) (t : List ℕ) (d : ℕ) where
  -- "each g in S, rising"
  abbrev pub sheet_darts : List ℕ
  sheet_darts = ones (sheet n t d)

  -- the new slots, and the new dart of g: a(g), b(g), c(g) where r is 0, 1, 2
  abbrev pub new_slots : List ℕ
  new_slots = slots_for n t sheet_darts

  abbrev pub new_of : ℕ → ℕ → ℕ
  new_of r g = new_dart n sheet_darts new_slots r g

  -- the cell of x holds no dart of S
  abbrev pub Unsplit : ℕ → Type 0
  Unsplit x = (y : ℕ) → Marked (cell_of n t x) y → Marked (sheet n t d) y → ⊥

-- the links of g and of its new darts: "With the links as they were before", which are those of t; u is the table after
pub record SplitLinks (n : ℕ) (t u : List ℕ) (a b c : ℕ → ℕ) (g : ℕ) : Type 0 where
  pub g_0 : link u 0 g ≡ a g
  pub a_0 : link u 0 (a g) ≡ g
  pub a_1 : link u 1 (a g) ≡ b g
  pub b_1 : link u 1 (b g) ≡ a g
  pub b_0 : link u 0 (b g) ≡ b (walk t (1 ∷ 0 ∷ 1 ∷ []) g)
  pub a_2 : link u 2 (a g) ≡ a (link t 2 g)
  -- "For n = 2"
  pub plane_b_2 : n ≡ 2 → link u 2 (b g) ≡ b (link t 0 g)
  pub plane_a_3 : n ≡ 2 → link u 3 (a g) ≡ a g
  pub plane_b_3 : n ≡ 2 → link u 3 (b g) ≡ b g
  -- "For n = 3"
  pub a_3 : n ≡ 3 → link u 3 (a g) ≡ a (link t 3 g)
  pub b_2 : n ≡ 3 → link u 2 (b g) ≡ c g
  pub b_3 : n ≡ 3 → link u 3 (b g) ≡ b (link t 3 g)
  pub c_0 : n ≡ 3 → link u 0 (c g) ≡ c (walk t (1 ∷ 0 ∷ 1 ∷ []) g)
  pub c_1 : n ≡ 3 → link u 1 (c g) ≡ c (link t 2 g)
  pub c_2 : n ≡ 3 → link u 2 (c g) ≡ b g
  pub c_3 : n ≡ 3 → link u 3 (c g) ≡ c (link t 0 g)

-- of a dart g of the sheet: its cell after split is here, that of the dart which its link 0 led to is across
pub record TwoCells (n : ℕ) (t u : List ℕ) (g : ℕ) : Type 0 where
  pub good_here : good_cell n u (cell_of n u g) ≡ true
  pub good_across : good_cell n u (cell_of n u (link t 0 g)) ≡ true
  -- no dart is in both
  pub apart : (x : ℕ) → Marked (cell_of n u g) x → Marked (cell_of n u (link t 0 g)) x → ⊥
  -- they share out the darts of the cell that g had, and no other old ones
  pub shared : (x : ℕ) → Marked (cell_of n t g) x → Marked (cell_of n u g) x ⊎ Marked (cell_of n u (link t 0 g)) x
  pub from : (x : ℕ) → live t x ≡ true → Marked (cell_of n u g) x → Marked (cell_of n t g) x
