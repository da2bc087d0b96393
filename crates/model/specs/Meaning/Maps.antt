-- Maps and block maps, as properties and not as tests.
-- Main definitions: `Rule` and `Map`, `BreaksFirst`; `Straight`, `GoodCell` and `Block`; `MapTable` and `BlockTable`, what the
-- passed checks of a call say.
use Rattle.std.specs.Prelude.{ℕ, ◌+◌, ◌*◌, ◌≤◌, ◌<◌, ◌≡◌, ◌≢◌, true, false, length, eqb}
use mathlib.Core.List.{List, [], ◌∷◌, Memᴰ as In}
use Rattle.model.specs.Lists.{count}
use Rattle.model.specs.Table.{slots, link, live, walk}
use Rattle.model.specs.Map.{MapRule, links_live, links_return, pairs_commute, stays_flat, is_map}
use Rattle.model.specs.Cell.{cell_size, cell_of, good_cell, is_block}
use Rattle.model.specs.Sew.{side}
use Rattle.model.specs.Checks.{rule_number}
use Rattle.model.specs.Meaning.Sets.{Marked}

-- n is 2 or 3
abbrev pub Dim : ℕ → Type 0
Dim n = (2 ≤ n) × (n ≤ 3)

-- the rules at a live slot
pub record Rule (n : ℕ) (t : List ℕ) (d : ℕ) : Type 0 where
  pub goes : (i : ℕ) → i < 4 → live t (link t i d) ≡ true
  pub comes : (i : ℕ) → i < 4 → link t i (link t i d) ≡ d
  pub cross : (i j : ℕ) → i + 2 ≤ j → j ≤ n → link t j (link t i (link t j (link t i d))) ≡ d
  pub plane : n ≡ 2 → link t 3 d ≡ d

-- link i of d breaks a rule
abbrev pub Breaks : ℕ → List ℕ → ℕ → MapRule → ℕ → Type 0
Breaks n t d links_live i = live t (link t i d) ≡ false
Breaks n t d links_return i = link t i (link t i d) ≢ d
Breaks n t d pairs_commute i = (j : ℕ) × (i + 2 ≤ j) × (j ≤ n) × (link t j (link t i (link t j (link t i d))) ≢ d)
Breaks n t d stays_flat i = (n ≡ 2) × (i ≡ 3) × (link t i d ≢ d)

-- what f gives for the rule that has the number k; where none has it, z
unfoldable pub by_rule : {A : Type 0} → (MapRule → A) → A → ℕ → A
by_rule f z k = elim (eqb k 5) [
  | true ↦ f links_live
  | false ↦ (elim (eqb k 24) [
    | true ↦ f links_return
    | false ↦ (elim (eqb k 25) [
      | true ↦ f pairs_commute
      | false ↦ (elim (eqb k 26) [ true ↦ f stays_flat | false ↦ z ])
    ])
  ])
]

-- k is the number of no rule
abbrev pub NoRule : ℕ → Type 0
NoRule k = (r : MapRule) → k ≢ rule_number r

pub record Map (n : ℕ) (t : List ℕ) : Type 0 where
  pub rule : (d : ℕ) → d < slots t → live t d ≡ true → Rule n t d

-- "Every slot met on the way must be live": d, and each slot that the word leads to from there
abbrev pub Meets : List ℕ → List ℕ → ℕ → Type 0
Meets t [] d = live t d ≡ true
Meets t (i ∷ w) d = (live t d ≡ true) × Meets t w (link t i d)

-- the links of the word are links of a slot, 0 to 3
abbrev pub Low : List ℕ → Type 0
Low w = (i : ℕ) → In i w → i < 4

-- "going 0, 1 four times"
abbrev pub square_word : List ℕ
square_word = 0 ∷ 1 ∷ 0 ∷ 1 ∷ 0 ∷ 1 ∷ 0 ∷ 1 ∷ []

-- "going 1, 2 three times"
abbrev pub corner_word : List ℕ
corner_word = 1 ∷ 2 ∷ 1 ∷ 2 ∷ 1 ∷ 2 ∷ []

-- link n of x does not lead "to a different dart of [its] own side under links 0..n-2"
abbrev pub Straight : ℕ → List ℕ → ℕ → Type 0
Straight n t x = Marked (side n t n x) (link t n x) → link t n x ≡ x

-- of a map, that it is a block map: "each cell has exactly 8 darts (n = 2) or 48 (n = 3), and from each dart going
-- 0, 1 four times returns, and for n = 3 going 1, 2 three times returns"; and no side is folded
pub record Block (n : ℕ) (t : List ℕ) : Type 0 where
  pub size : (d : ℕ) → live t d ≡ true → count 1 (cell_of n t d) ≡ cell_size n
  pub square : (d : ℕ) → live t d ≡ true → walk t square_word d ≡ d
  pub corner : n ≡ 3 → (d : ℕ) → live t d ≡ true → walk t corner_word d ≡ d
  pub straight : (d : ℕ) → live t d ≡ true → Straight n t d

-- the same of one cell, given as marks: it is no wrong cell
pub record GoodCell (n : ℕ) (t cell : List ℕ) : Type 0 where
  pub size : count 1 cell ≡ cell_size n
  pub square : (x : ℕ) → Marked cell x → walk t square_word x ≡ x
  pub corner : n ≡ 3 → (x : ℕ) → Marked cell x → walk t corner_word x ≡ x
  pub straight : (x : ℕ) → Marked cell x → Straight n t x

-- d is the least live slot of which P fails
pub record LeastFailing (t : List ℕ) (P : ℕ → Type 0) (d : ℕ) : Type 0 where
  pub lives : live t d ≡ true
  pub fails : P d → ⊥
  pub before : (x : ℕ) → x < d → live t x ≡ true → P x

-- d is the least slot that breaks a rule of a map, r the first rule that it breaks, and i the least link that breaks it
pub record BreaksFirst (n : ℕ) (t : List ℕ) (r : MapRule) (d i : ℕ) : Type 0 where
  pub slot : d < slots t
  pub least : LeastFailing t (Rule n t) d
  pub index : i < 4
  pub breaks : Breaks n t d r i
  pub lower : (k : ℕ) → k < i → Breaks n t d r k → ⊥
  pub earlier : (q : MapRule) → rule_number q < rule_number r → (k : ℕ) → k < 4 → Breaks n t d q k → ⊥

-- ---- what the passed checks of a call say of a table

-- 1, 2, 5 and 24 to 26: a table of a length that is allowed, and a map
pub record MapTable (n : ℕ) (t : List ℕ) : Type 0 where
  pub dim : Dim n
  pub whole : length t ≡ 4 * slots t
  pub few : slots t ≤ 65536
  pub map : Map n t

-- and 8: a block map
pub record BlockTable (n : ℕ) (t : List ℕ) : Type 0 where
  pub dim : Dim n
  pub whole : length t ≡ 4 * slots t
  pub few : slots t ≤ 65536
  pub map : Map n t
  pub good : (d : ℕ) → live t d ≡ true → good_cell n t (cell_of n t d) ≡ true

-- ---- what an operation keeps

-- u is a block map, by the tests
abbrev pub BlockMap : ℕ → List ℕ → Type 0
BlockMap n u = (is_map n u ≡ true) × (is_block n u ≡ true)

-- u is a map; and a block map, if t is
abbrev pub Keeps : ℕ → List ℕ → List ℕ → Type 0
Keeps n t u = (is_map n u ≡ true) × (is_block n t ≡ true → is_block n u ≡ true)

-- u is a map; and a block map, if t is and the links are n
abbrev pub KeepsAt : ℕ → ℕ → List ℕ → List ℕ → Type 0
KeepsAt i n t u = (is_map n u ≡ true) × (i ≡ n → is_block n t ≡ true → is_block n u ≡ true)
