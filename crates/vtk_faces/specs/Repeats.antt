-- What 21 asks: no vertex stands twice in a cell.
use Rattle.std.specs.Prelude.{Bool, not, List, ℕ}
use Rattle.model.specs.Lists.{all_of}
use Rattle.model.specs.Faces.{repeats}

-- 21 passes where this is true
abbrev pub all_once : List (List ℕ) → Bool
all_once rows = all_of (λ row. not (repeats row)) rows
