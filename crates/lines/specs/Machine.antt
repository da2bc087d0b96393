-- The session as a machine that takes the input byte by byte, and holds no more than 15 bytes of a line: a longer line does
-- not fit. What it prints is `session` of the bytes (proofs/Printed.antt).
use Rattle.std.specs.Prelude.{ℕ, suc, true, false, List, [], ◌∷◌, ◌++◌, length, eqb, ltb}
use Rattle.std.proofs.Math.Option.{Option, none, some}
use Rattle.model.specs.Text.{newline}
use Rattle.model.specs.Session.{Due, dim_due, reads, taken, printed, bad, closing}

-- the number of the line, what is due, and the bytes of the line so far; or `bad=` has been printed
pub data Machine : Type 0 where
  reading : ℕ → Due → List ℕ → Machine
  stopped : Machine

abbrev pub start : Machine
start = reading 1 dim_due []

unfoldable pub hold : List ℕ → ℕ → List ℕ
hold xs b = elim (ltb (length xs) 15) [ true ↦ xs ++ (b ∷ []) | false ↦ xs ]

-- after a line that gave this
unfoldable pub next : ℕ → Due → Option ℕ → Machine
next line s none = stopped
next line s (some v) = reading (suc line) (taken s v) []

unfoldable pub prints : ℕ → Due → Option ℕ → List ℕ
prints line s none = bad line
prints line s (some v) = printed s v

unfoldable pub fed : Machine → ℕ → Machine
fed (reading line s xs) b = elim (eqb b newline) [ true ↦ next line s (reads s xs) | false ↦ reading line s (hold xs b) ]
fed stopped b = stopped

unfoldable pub says : Machine → ℕ → List ℕ
says (reading line s xs) b = elim (eqb b newline) [ true ↦ prints line s (reads s xs) | false ↦ [] ]
says stopped b = []

-- a piece of the input
unfoldable pub fed_all : Machine → List ℕ → Machine
fed_all m [] = m
fed_all m (b ∷ bs) = fed_all (fed m b) bs

unfoldable pub says_all : Machine → List ℕ → List ℕ
says_all m [] = []
says_all m (b ∷ bs) = says m b ++ says_all (fed m b) bs

-- the end of the input
unfoldable pub ends : Machine → List ℕ
ends (reading line s xs) = closing line s xs
ends stopped = []
