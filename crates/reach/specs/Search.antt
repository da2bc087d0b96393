-- A flood as the code does it: marks, and a queue of the darts found. From x it goes to f 0 x, f 1 x, .., as far as p permits them.
-- `meet`, `follow` and `follow_below` are its parts.
use Rattle.std.specs.Prelude.{ℕ, zero, suc, ◌+◌, Bool, true, false, List, get_or, set, eqb}

-- the darts found are the queue's first words, `found` of them
pub record Search : Type 0 where
  pub marks : List ℕ
  pub queue : List ℕ
  pub found : ℕ

abbrev pub search_of : List ℕ → List ℕ → ℕ → Search
search_of m q r = record { marks = m; queue = q; found = r }

-- y, where it has no mark yet, gets the mark 1 and goes into the queue
unfoldable pub meet : ℕ → Search → Search
meet y s =
    elim (eqb (get_or s.marks y 0) 0) [
      | true ↦ search_of (set s.marks y 1) (set s.queue s.found y) (s.found + 1)
      | false ↦ s
    ]

-- step i of x is met, if it is permitted
unfoldable pub follow : (ℕ → Bool) → (ℕ → ℕ → ℕ) → ℕ → ℕ → Search → Search
follow p f x i s = elim (p i) [ true ↦ meet (f i x) s | false ↦ s ]

-- the steps of x below i, from the lowest
unfoldable pub follow_below : (ℕ → Bool) → (ℕ → ℕ → ℕ) → ℕ → ℕ → Search → Search
follow_below p f x zero s = s
follow_below p f x (suc i) s = follow p f x i (follow_below p f x i s)
