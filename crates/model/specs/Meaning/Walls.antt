-- Walls (02, R-5), as properties and not as tests: the refusals 28 to 32 in words, and what the passed checks of insert say: `Drawn`,
-- `Wall` with `Clear` and `Joined`, `Inserts`; the links of its new darts (`InsertLinks`).
use Rattle.std.specs.Prelude.{ℕ, ◌+◌, ◌*◌, ◌-◌, ◌≤◌, ◌≡◌, ◌⊎◌, ◌≢◌, true, false, length, get_or}
use mathlib.Core.List.{List, Memᴰ as In}
use Rattle.model.specs.Lists.{ones, all_of}
use Rattle.model.specs.Table.{slots, link, live}
use Rattle.model.specs.NewDarts.{new_dart, slots_for}
use Rattle.model.specs.Wall.{next, drawn, enclosed, sewn_wall, turns_well, connected}
use Rattle.model.specs.Meaning.Sets.{Marked, ByLink}
use Rattle.model.specs.Meaning.Maps.{BlockTable}

-- ---- the refusals of insert

-- 28: "mark not 0 or 1 or a marked dead slot"
pub data BadMark (t m : List ℕ) (d : ℕ) : Type 0 where
  other : get_or m d 0 ≢ 0 → get_or m d 0 ≢ 1 → BadMark t m d
  dead : Marked m d → live t d ≡ false → BadMark t m d

-- 29: a link 0..n-2 or n leads off the wall
abbrev pub Leaves : ℕ → List ℕ → List ℕ → ℕ → Type 0
Leaves n t m h = (j : ℕ) × (j ≤ n) × (j ≢ n - 1) × (Marked m (link t j h) → ⊥)

-- the turn that is at x comes to z: "turning with link n-1, then n and n-1 by turns, until a wall dart is met, or a free side ends the
-- turn"
pub data Turns (n : ℕ) (t m : List ℕ) (z : ℕ) : ℕ → Type 0 where
  arrived : {x : ℕ} → x ≡ z → Turns n t m z x
  onward : {x : ℕ} → (Marked m x → ⊥) → link t n x ≢ x → Turns n t m z (link t (n - 1) (link t n x)) → Turns n t m z x

-- the turn from h ends at a free side
abbrev pub EndsFree : ℕ → List ℕ → List ℕ → ℕ → Type 0
EndsFree n t m h = (z : ℕ) × Turns n t m z (link t (n - 1) h) × (Marked m z → ⊥) × (link t n z ≡ z)

-- z is next(h): the turn from h meets the wall there
abbrev pub IsNext : ℕ → List ℕ → List ℕ → ℕ → ℕ → Type 0
IsNext n t m h z = Turns n t m z (link t (n - 1) h) × Marked m z

-- "next(h).n = next(h.n) and next(h) is not h.n, nor in 3D h.0 or h.0.n", where next(h) is z
pub record Joint (n : ℕ) (t m : List ℕ) (h z : ℕ) : Type 0 where
  pub here : IsNext n t m h z
  pub there : IsNext n t m (link t n h) (link t n z)
  pub over : z ≢ link t n h
  pub along : n ≡ 3 → (z ≢ link t 0 h) × (z ≢ link t n (link t 0 h))

-- 31: "Needed: h and h.n both end free, or" the above
abbrev pub Needed : ℕ → List ℕ → List ℕ → ℕ → Type 0
Needed n t m h = (EndsFree n t m h × EndsFree n t m (link t n h)) ⊎ ((z : ℕ) × Joint n t m h z)

-- 32: y is one step away from x, by a link 0..n-2 or n, or by next
abbrev pub WallStep : ℕ → List ℕ → List ℕ → ℕ → ℕ → Type 0
WallStep n t m x y = ByLink t (λ j. (j ≤ n) × (j ≢ n - 1)) x y ⊎ (y ≡ next n t m x)

-- ---- what the passed checks say

-- not 28 and not 29: the marks of a wall are on live darts of a block map, and closed under links 0..n-2 and n
pub record Drawn (n : ℕ) (t m : List ℕ) : Type 0 where
  pub table : BlockTable n t
  pub lives : (x : ℕ) → Marked m x → live t x ≡ true
  pub along : (x j : ℕ) → j + 2 ≤ n → Marked m x → Marked m (link t j x)
  pub over : (x : ℕ) → Marked m x → Marked m (link t n x)

-- the darts hs of a wall, and what takes each to the next: itself, where the turn from it ends free
pub record Wall (n : ℕ) (t hs : List ℕ) (nx : ℕ → ℕ) : Type 0 where
  pub lives : (x : ℕ) → In x hs → live t x ≡ true
  -- "closed under links 0..n-2 and n, with no n-free dart"
  pub along : (x j : ℕ) → j + 2 ≤ n → In x hs → In (link t j x) hs
  pub over : (x : ℕ) → In x hs → In (link t n x) hs
  pub sewn : (x : ℕ) → In x hs → link t n x ≢ x
  -- next stays on the wall, is mutual, and goes with link n and with the links 0..n-3
  pub on : (x : ℕ) → In x hs → In (nx x) hs
  pub back : (x : ℕ) → In x hs → nx (nx x) ≡ x
  pub level : (x : ℕ) → In x hs → nx (link t n x) ≡ link t n (nx x)
  pub far : (x : ℕ) → n ≡ 3 → In x hs → nx (link t 0 x) ≡ link t 0 (nx x)

-- "next(h) is not h.n, nor in 3D h.0 or h.0.n"
pub record Clear (n : ℕ) (t hs : List ℕ) (nx : ℕ → ℕ) : Type 0 where
  pub over : (x : ℕ) → In x hs → nx x ≢ link t n x
  pub along : (x : ℕ) → n ≡ 3 → In x hs → nx x ≢ link t 0 x
  pub across : (x : ℕ) → n ≡ 3 → In x hs → nx x ≢ link t n (link t 0 x)

-- "connected by those links and by next": what holds of one dart, and is kept by those, holds of each
abbrev pub Joined : ℕ → List ℕ → List ℕ → (ℕ → ℕ) → Type 1
Joined n t hs nx = (P : ℕ → Type 0)
    → ((x j : ℕ) → j + 2 ≤ n → In x hs → P x → P (link t j x))
    → ((x : ℕ) → In x hs → P x → P (link t n x))
    → ((x : ℕ) → In x hs → P x → P (nx x))
    → (h : ℕ) → In h hs → P h → (x : ℕ) → In x hs → P x

-- insert along the wall with the marks m passes its checks but 15: a block map, and not 3, 28 to 32, or 14
pub record Inserts (n : ℕ) (t m : List ℕ) : Type 0 where
  pub table : BlockTable n t
  pub long : length m ≡ slots t
  pub drawn : drawn t m ≡ true
  pub enclosed : enclosed n t m ≡ true
  pub sewn : sewn_wall n t m ≡ true
  pub turns : all_of (turns_well n t m) (ones m) ≡ true
  pub joined : connected n t m ≡ true
  pub room : length (slots_for n t (ones m)) ≡ n * length (ones m)

-- ---- the table

module _ (n : ℕ) (t m : List ℕ) where
  -- "Each wall dart h, rising"
  abbrev pub wall_darts : List ℕ
  wall_darts = ones m

  -- the slots of the new darts, and the new dart of h: p(h), q(h), r(h) where k is 0, 1, 2
  abbrev pub layer_slots : List ℕ
  layer_slots = slots_for n t wall_darts

  abbrev pub layer_dart : ℕ → ℕ → ℕ
  layer_dart k h = new_dart n wall_darts layer_slots k h

-- the links of h and of its new darts, next(h) being nx h; u is the table after
pub record InsertLinks (n : ℕ) (t u : List ℕ) (nx p q r : ℕ → ℕ) (h : ℕ) : Type 0 where
  -- "p(h) is sewn to h by link" n
  pub h_n : link u n h ≡ p h
  pub p_n : link u n (p h) ≡ h
  pub p_0 : link u 0 (p h) ≡ p (link t 0 h)
  -- "In 2D"
  pub plane_p_1 : n ≡ 2 → link u 1 (p h) ≡ q h
  pub plane_q_1 : n ≡ 2 → link u 1 (q h) ≡ p h
  pub plane_q_0 : n ≡ 2 → link u 0 (q h) ≡ q (link t 2 h)
  pub plane_q_2 : n ≡ 2 → link u 2 (q h) ≡ q (nx h)
  pub plane_p_3 : n ≡ 2 → link u 3 (p h) ≡ p h
  pub plane_q_3 : n ≡ 2 → link u 3 (q h) ≡ q h
  -- "In 3D"
  pub p_1 : n ≡ 3 → link u 1 (p h) ≡ p (link t 1 h)
  pub p_2 : n ≡ 3 → link u 2 (p h) ≡ q h
  pub q_2 : n ≡ 3 → link u 2 (q h) ≡ p h
  pub q_0 : n ≡ 3 → link u 0 (q h) ≡ q (link t 0 h)
  pub q_1 : n ≡ 3 → link u 1 (q h) ≡ r h
  pub r_1 : n ≡ 3 → link u 1 (r h) ≡ q h
  pub q_3 : n ≡ 3 → link u 3 (q h) ≡ q (nx h)
  pub r_0 : n ≡ 3 → link u 0 (r h) ≡ r (link t 3 h)
  pub r_2 : n ≡ 3 → link u 2 (r h) ≡ r (link t 1 h)
  pub r_3 : n ≡ 3 → link u 3 (r h) ≡ r (nx h)
