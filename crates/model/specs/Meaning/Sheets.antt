-- Sheets: the dart that one begins with, its cells, where it crosses itself, and how many darts of a cell it holds.
use Rattle.std.specs.Prelude.{ℕ, ◌≤◌, ◌≡◌, true, false, ◌&&◌, eqb}
use mathlib.Core.List.{List, [], ◌∷◌, Memᴰ as In}
use Rattle.model.specs.Lists.{how_many}
use Rattle.model.specs.Table.{slots, link, walk, live}
use Rattle.model.specs.Reach.{in_set}
use Rattle.model.specs.Cell.{cell_of}
use Rattle.model.specs.Sheet.{sheet, sheet_marks}
use Rattle.model.specs.Meaning.Lists.{Distinct}
use Rattle.model.specs.Meaning.Maps.{BlockTable}
use Rattle.model.specs.Meaning.Sets.{Marked}

-- d is a live slot of a block map
pub record BlockDart (n : ℕ) (t : List ℕ) (d : ℕ) : Type 0 where
  pub table : BlockTable n t
  pub lives : live t d ≡ true

-- distinct live darts, "closed under link 0, the opposite edge 1.0.1, and links 2..n"
pub record Sheet (n : ℕ) (t gs : List ℕ) : Type 0 where
  pub once : Distinct gs
  pub lives : (x : ℕ) → In x gs → live t x ≡ true
  pub along : (x : ℕ) → In x gs → In (link t 0 x) gs
  pub over : (x : ℕ) → In x gs → In (walk t (1 ∷ 0 ∷ 1 ∷ []) x) gs
  pub far : (x j : ℕ) → 2 ≤ j → j ≤ n → In x gs → In (link t j x) gs

-- the marks that sheet d leaves
abbrev pub marks_of : ℕ → List ℕ → ℕ → List ℕ
marks_of n t d = sheet_marks n t (sheet n t d)

-- x is a dart of a cell that holds a dart of the set s
abbrev pub InCells : ℕ → List ℕ → List ℕ → ℕ → Type 0
InCells n t s x = (g : ℕ) × Marked s g × Marked (cell_of n t g) x

-- x touches these cells: it is live, in none of them, and its link n leads into one
abbrev pub Touches : ℕ → List ℕ → List ℕ → ℕ → Type 0
Touches n t s x = (live t x ≡ true) × (InCells n t s x → ⊥) × InCells n t s (link t n x)

-- some g in the set s has g.1 in s
abbrev pub Crossing : List ℕ → List ℕ → Type 0
Crossing t s = (g : ℕ) × Marked s g × Marked s (link t 1 g)

-- ---- counting

-- how many darts the set s and the cell of x have in common
unfoldable pub shared : ℕ → List ℕ → List ℕ → ℕ → ℕ
shared n t s x = how_many (slots t) (λ y. in_set s y && in_set (cell_of n t x) y)

-- how many darts of a cell a sheet holds that does not cross itself there
unfoldable pub half : ℕ → ℕ
half n = elim (eqb n 3) [ true ↦ 16 | false ↦ 4 ]
