-- Two links walked in turn, link a and then link b: `turned`. What a walk of two sides in step asks and gives.
use Rattle.std.specs.Prelude.{ℕ, zero, suc, ◌+◌, ◌*◌, ◌≤◌, ◌<◌, ◌≡◌, ◌⊎◌, ◌≢◌, Bool, true, false, List, length, get_or, Option, MatchOption}
use Rattle.model.specs.Lists.{count}
use Rattle.model.specs.Table.{slots, link, live}
use Rattle.model.specs.Sew.{side, is_paired}
use Rattle.model.specs.Meaning.Sets.{Marked}
use Rattle.model.specs.Meaning.Pairings.{Far, OnSide, Pairing}

-- where k turns lead from x; a turn is a and then b
unfoldable pub turned : {A : Type 0} → (A → A) → (A → A) → A → ℕ → A
turned a b x zero = x
turned a b x (suc k) = b (a (turned a b x k))

-- k turns from the slot x, by the links a and b
abbrev pub turns : List ℕ → ℕ → ℕ → ℕ → ℕ → ℕ
turns t a b x k = turned (link t a) (link t b) x k

-- ---- the links of a side

-- a far link; or link 3 where n is 2, which leads from each dart to itself
abbrev pub SideLink : ℕ → ℕ → ℕ → Type 0
SideLink n i a = (Far i a × (a ≤ n)) ⊎ ((n ≡ 2) × (a ≡ 3))

-- each far link is a or b
pub record SideLinks (n i a b : ℕ) : Type 0 where
  pub first : SideLink n i a
  pub second : SideLink n i b
  pub far : (j : ℕ) → Far i j → j ≤ n → (j ≡ a) ⊎ (j ≡ b)

-- ---- what is asked of a table

-- each link of a live slot is a live slot
pub record Linked (t : List ℕ) : Type 0 where
  pub fits : length t ≡ 4 * slots t
  pub few : slots t ≤ 65536
  pub goes : (x j : ℕ) → live t x ≡ true → j < 4 → live t (link t j x) ≡ true

-- .. and leads back
pub record Mapped (t : List ℕ) : Type 0 where
  pub linked : Linked t
  pub comes : (x j : ℕ) → live t x ≡ true → j < 4 → link t j (link t j x) ≡ x

-- a walk by the links a and b of it begins at a live slot
pub record Start (t : List ℕ) (a b d : ℕ) : Type 0 where
  pub mapped : Mapped t
  pub first_low : a < 4
  pub second_low : b < 4
  pub lives : live t d ≡ true

-- ---- two walks in step

-- p is x exactly if q is y
abbrev pub Same : ℕ → ℕ → ℕ → ℕ → Type 0
Same p x q y = (p ≡ x → q ≡ y) × (q ≡ y → p ≡ x)

-- the turn from x by p to u, and that from y by q to v: both have an end at the same place or none, and both are at d and e or none
pub record Alike (d e x p u y q v : ℕ) : Type 0 where
  pub first : Same p x q y
  pub second : Same u p v q
  pub round : Same u d v e

-- the turns from d and from e that come after k turns
abbrev pub AlikeAt : List ℕ → ℕ → ℕ → ℕ → ℕ → ℕ → Type 0
AlikeAt t a b d e k =
    Alike d e (turns t a b d k) (link t a (turns t a b d k)) (turns t a b d (suc k))
    (turns t a b e k) (link t a (turns t a b e k)) (turns t a b e (suc k))

-- the outcome of a test
pub record Tests (P : Type 0) (r : Bool) : Type 0 where
  pub holds : r ≡ true → P
  pub fails : r ≡ false → P → ⊥

-- the turn from x by p to u has an end
abbrev pub Ending : ℕ → ℕ → ℕ → Type 0
Ending x p u = (p ≡ x) ⊎ (u ≡ p)

-- .. or none
abbrev pub Passing : ℕ → ℕ → ℕ → Type 0
Passing x p u = (p ≢ x) × (u ≢ p)

abbrev pub EndingAt : List ℕ → ℕ → ℕ → ℕ → ℕ → Type 0
EndingAt t a b d k = Ending (turns t a b d k) (link t a (turns t a b d k)) (turns t a b d (suc k))

abbrev pub PassingAt : List ℕ → ℕ → ℕ → ℕ → ℕ → Type 0
PassingAt t a b d k = Passing (turns t a b d k) (link t a (turns t a b d k)) (turns t a b d (suc k))

-- the outcome of the test for an end
pub record EndTest (x p u : ℕ) (r : Bool) : Type 0 where
  pub ends : r ≡ true → Ending x p u
  pub passes : r ≡ false → Passing x p u

-- the walk from d, k turns on: it has not been at d again, and the list has its darts; if it has met no end, no turn has one
pub record Gone (t : List ℕ) (a b d k : ℕ) (ended : Bool) (xs : List ℕ) : Type 0 where
  pub new : (j : ℕ) → 0 < j → j < k → turns t a b d j ≢ d
  pub listed : (j : ℕ) → j < k → get_or xs j 0 ≡ turns t a b d j
  pub shut : ended ≡ false → (j : ℕ) → j < k → PassingAt t a b d j

-- an end that both walks have met
pub record BothEnd (t : List ℕ) (a b d e k : ℕ) : Type 0 where
  pub turn : ℕ
  pub low : turn < k
  pub ends : EndingAt t a b d turn
  pub like : AlikeAt t a b d e turn

-- both walks are at their starts again
pub record Together (t : List ℕ) (a b d e k : ℕ) (ended : Bool) (xs ys : List ℕ) : Type 0 where
  pub left : Gone t a b d k ended xs
  pub right : Gone t a b e k ended ys
  pub left_round : turns t a b d k ≡ d
  pub right_round : turns t a b e k ≡ e
  pub end : ended ≡ true → BothEnd t a b d e k

-- they are, after k turns
pub record Walked (t : List ℕ) (a b d e k : ℕ) (ended : Bool) (xs ys : List ℕ) : Type 0 where
  pub some : 0 < k
  pub round : Together t a b d e k ended xs ys

-- .. or they are not alike
abbrev pub Unlike : List ℕ → ℕ → ℕ → ℕ → ℕ → Type 0
Unlike t a b d e = (j : ℕ) × (AlikeAt t a b d e j → ⊥)

-- what the walk of both asks: they have no dart in common, and the lists have room for half of the slots
pub record Parted (t : List ℕ) (a b d e : ℕ) (xs ys : List ℕ) : Type 0 where
  pub left : Start t a b d
  pub right : Start t a b e
  pub apart : (p q : ℕ) → turns t a b d p ≢ turns t a b e q
  pub left_room : slots t ≤ 2 * length xs
  pub right_room : slots t ≤ 2 * length ys

-- ---- the darts on the way

-- the first k words are live slots, and there is room for as many more
pub record Mirrors (t : List ℕ) (a k : ℕ) (xs : List ℕ) : Type 0 where
  pub linked : Linked t
  pub low : a < 4
  pub lives : (j : ℕ) → j < k → live t (get_or xs j 0) ≡ true
  pub room : k + k ≤ length xs

-- behind the first k words stand their links a
pub record Mirrored (t : List ℕ) (a k : ℕ) (xs xs' : List ℕ) : Type 0 where
  pub stays : (j : ℕ) → j < k → get_or xs' j 0 ≡ get_or xs j 0
  pub added : (j : ℕ) → j < k → get_or xs' (k + j) 0 ≡ link t a (get_or xs j 0)

-- ---- two sides in step

pub record Apart (n : ℕ) (t : List ℕ) (i d e : ℕ) (xs ys : List ℕ) : Type 0 where
  pub left : OnSide n t i d
  pub right : OnSide n t i e
  pub apart : Marked (side n t i d) e → ⊥
  pub left_room : slots t ≤ 2 * length xs
  pub right_room : slots t ≤ 2 * length ys

-- the r darts of d's side and their partners
pub record Listing (n : ℕ) (t : List ℕ) (i d e r : ℕ) (xs ys : List ℕ) : Type 0 where
  pub paired : is_paired n t i d e ≡ true
  pub size : r ≡ count 1 (side n t i d)
  pub all : (x : ℕ) → Marked (side n t i d) x → (k : ℕ) × (k < r) × (get_or xs k 0 ≡ x)
  pub marked : (k : ℕ) → k < r → Marked (side n t i d) (get_or xs k 0)
  pub pairs : (f : Pairing n t i d e) (k : ℕ) → k < r → f.f (get_or xs k 0) ≡ get_or ys k 0

-- they are listed, and no more than half of the slots
pub record Listed (n : ℕ) (t : List ℕ) (i d e r : ℕ) (xs ys : List ℕ) : Type 0 where
  pub few : r + r ≤ slots t
  pub some : 0 < r
  pub lists : Listing n t i d e r xs ys

-- .. or there is no pairing
abbrev pub InStep : ℕ → List ℕ → ℕ → ℕ → ℕ → Option ℕ → List ℕ → List ℕ → Type 0
InStep n t i d e r xs ys = MatchOption r (is_paired n t i d e ≡ false) (λ size. Listed n t i d e size xs ys)
