-- Sets of darts, as marks: the least set that holds some darts and is closed under some steps.
-- Main definitions: `Marked` and `LeastSet`; the steps of document 01's sets, `ByLink` and `SheetStep`.
use Rattle.std.specs.Prelude.{ℕ, ◌≤◌, ◌<◌, ◌≡◌, ◌⊎◌, length, get_or}
use mathlib.Core.List.{List, [], ◌∷◌, Memᴰ as In}
use Rattle.model.specs.Table.{link, walk}

-- x is in the set
abbrev pub Marked : List ℕ → ℕ → Type 0
Marked m x = get_or m x 0 ≡ 1

abbrev pub Bits : List ℕ → Type 0
Bits m = (i : ℕ) → (get_or m i 0 ≡ 0) ⊎ (get_or m i 0 ≡ 1)

-- the marks, one to a slot, are the least set that holds the seeds and is closed under the steps: it is within each such set
pub record LeastSet (slots : ℕ) (Seed : ℕ → Type 0) (Step : ℕ → ℕ → Type 0) (marks : List ℕ) : Type 1 where
  pub long : length marks ≡ slots
  pub bits : Bits marks
  pub holds : (x : ℕ) → Seed x → x < slots → Marked marks x
  pub closed : (x y : ℕ) → Marked marks x → Step x y → y < slots → Marked marks y
  pub within : (P : ℕ → Type 0) → ((x : ℕ) → Seed x → x < slots → P x)
      → ((x y : ℕ) → x < slots → P x → Step x y → y < slots → P y) → (x : ℕ) → Marked marks x → P x

-- the same, where the seeds are listed and f lists the darts one step away
abbrev pub Least : (ℕ → List ℕ) → ℕ → List ℕ → List ℕ → Type 1
Least f slots seeds marks = LeastSet slots (λ x. In x seeds) (λ x y. In y (f x)) marks

-- y is one link away from x, by a link that is allowed
pub record ByLink (t : List ℕ) (Allowed : ℕ → Type 0) (x y : ℕ) : Type 0 where
  pub by : ℕ
  pub allowed : Allowed by
  pub leads : y ≡ link t by x

-- y is one step of a sheet away from x: "link 0, the opposite edge 1.0.1, and links 2..n"
pub data SheetStep (n : ℕ) (t : List ℕ) (x y : ℕ) : Type 0 where
  along : y ≡ link t 0 x → SheetStep n t x y
  across : y ≡ walk t (1 ∷ 0 ∷ 1 ∷ []) x → SheetStep n t x y
  beside : ByLink t (λ j. (j ≤ n) × (2 ≤ j)) x y → SheetStep n t x y
