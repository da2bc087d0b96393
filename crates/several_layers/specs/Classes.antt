-- Sheets as classes of darts: `LiesIn`, that a dart lies in the sheet of another; `Classes`, `OneSheet`, `SameMark`, `InEachOther`.
use Rattle.std.specs.Prelude.{ℕ, ◌≡◌, ◌↔◌, true, List, get_or}
use Rattle.model.specs.Table.{live}
use Rattle.model.specs.Sheet.{sheet}
use Rattle.model.specs.Meaning.Sets.{Marked}

-- x lies in the sheet of d
abbrev pub LiesIn : ℕ → List ℕ → ℕ → ℕ → Type 0
LiesIn n t x d = Marked (sheet n t d) x

-- 'lies in the sheet of' parts the live darts into classes: a live dart lies in its own sheet; of two, each lies in the other's or
-- neither does; what lies in the sheet of y lies in each sheet that y lies in; and what lies in the sheet of a live dart is live
pub record Classes (n : ℕ) (t : List ℕ) : Type 0 where
  pub own : (x : ℕ) → live t x ≡ true → LiesIn n t x x
  pub both : (x y : ℕ) → live t x ≡ true → live t y ≡ true → LiesIn n t x y ↔ LiesIn n t y x
  pub through : (x y z : ℕ) → LiesIn n t x y → LiesIn n t y z → LiesIn n t x z
  pub lives : (x y : ℕ) → live t y ≡ true → LiesIn n t x y → live t x ≡ true

-- s is the sheet of a live dart
pub record SheetOf (n : ℕ) (t s : List ℕ) : Type 0 where
  pub seed : ℕ
  pub lives : live t seed ≡ true
  pub is : s ≡ sheet n t seed

-- "each live dart lies in exactly one sheet", of the dart x
pub record OneSheet (n : ℕ) (t : List ℕ) (x : ℕ) : Type 0 where
  pub own : List ℕ
  pub made : SheetOf n t own
  pub holds : Marked own x
  pub only : (s : List ℕ) → SheetOf n t s → Marked s x → s ≡ own

-- the marks a and b are k at the same slots
abbrev pub SameMark : ℕ → List ℕ → List ℕ → Type 0
SameMark k a b = (x : ℕ) → (get_or a x 0 ≡ k) ↔ (get_or b x 0 ≡ k)

-- "equal marks 1"
abbrev pub SameOnes : List ℕ → List ℕ → Type 0
SameOnes a b = SameMark 1 a b

-- "each is in the other's sheet"
abbrev pub InEachOther : ℕ → List ℕ → ℕ → ℕ → Type 0
InEachOther n t d e = LiesIn n t e d × LiesIn n t d e
