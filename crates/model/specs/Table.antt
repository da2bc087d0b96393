-- Table: "u32 numbers, four to a slot: entry 4d+i is link i of dart d, written d.i."
-- Slots, links, walks by several links, and a table made anew entry by entry.
use Rattle.std.specs.Prelude.{ℕ, ◌+◌, ◌*◌, ◌/◌, ◌%◌, Bool, true, false, not, ◌&&◌, List, [], ◌∷◌, length, get_or, eqb}
use Rattle.model.specs.Lists.{tabulate, count, ones}

-- the entry of an unused slot
abbrev pub unused : ℕ
unused = 4294967295

unfoldable pub slots : List ℕ → ℕ
slots t = length t / 4

-- d.i; past the table it is `unused`, so that a walk that leaves the live slots does not come back
unfoldable pub link : List ℕ → ℕ → ℕ → ℕ
link t i d = get_or t (4 * d + i) unused

-- "A slot is unused if all four entries are 4294967295, else live."
unfoldable pub live : List ℕ → ℕ → Bool
live t d = not (eqb (link t 0 d) unused && eqb (link t 1 d) unused && eqb (link t 2 d) unused && eqb (link t 3 d) unused)

-- the dart reached from d by the links of a word, from left to right: 1.0.1 is 1 ∷ 0 ∷ 1 ∷ []
unfoldable pub walk : List ℕ → List ℕ → ℕ → ℕ
walk t [] d = d
walk t (i ∷ w) d = walk t w (link t i d)

-- the unused slots, rising
unfoldable pub unused_slots : List ℕ → List ℕ
unused_slots t = ones (tabulate (slots t) (λ d. elim (live t d) [ true ↦ 0 | false ↦ 1 ]))

-- the number of live slots
unfoldable pub live_count : List ℕ → ℕ
live_count t = count 1 (tabulate (slots t) (λ d. elim (live t d) [ true ↦ 1 | false ↦ 0 ]))

-- a table as long as t, in which link i of d is f d i
unfoldable pub retable : List ℕ → (ℕ → ℕ → ℕ) → List ℕ
retable t f = tabulate (length t) (λ e. f (e / 4) (e % 4))

-- link i of each dart x is g x; all else stays
unfoldable pub relink_at : List ℕ → ℕ → (ℕ → ℕ) → ℕ → ℕ → ℕ
relink_at t i g x j = elim (eqb j i) [ true ↦ g x | false ↦ link t j x ]

unfoldable pub relink : List ℕ → ℕ → (ℕ → ℕ) → List ℕ
relink t i g = retable t (relink_at t i g)
