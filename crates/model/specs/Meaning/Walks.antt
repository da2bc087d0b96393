-- remove: the cells that it takes away, the walk across them, and the table that is left.
use Rattle.std.specs.Prelude.{ℕ, ◌<◌, ◌≡◌, ◌≢◌, Bool, true, false, not, ◌&&◌, List, length, get_or}
use Rattle.model.specs.Table.{unused, slots, link, walk, live}
use Rattle.model.specs.Remove.{opposite, marked}
use Rattle.model.specs.Meaning.Maps.{BlockTable}

-- whole cells of a block map have the mark 1 or 2, and what leads into them over link n has a mark
pub record Layer (n : ℕ) (t m : List ℕ) : Type 0 where
  pub table : BlockTable n t
  pub long : length m ≡ slots t
  pub lives : (x : ℕ) → marked m x ≡ true → live t x ≡ true
  pub closed : (x j : ℕ) → j < n → marked m x ≡ true → marked m (link t j x) ≡ true
  pub touched : (x : ℕ) → marked m (link t n x) ≡ true → get_or m x 0 ≢ 0

-- ---- the walk

-- one hop: to the opposite side, and over link n
unfoldable pub hop : ℕ → List ℕ → ℕ → ℕ
hop n t y = link t n (walk t (opposite n) y)

-- the walk that begins at y comes to z over darts with the mark 1 or 2
pub data Reaches (n : ℕ) (t m : List ℕ) (z : ℕ) : ℕ → Type 0 where
  arrived : {y : ℕ} → y ≡ z → Reaches n t m z y
  onward : {y : ℕ} → marked m y ≡ true → Reaches n t m z (hop n t y) → Reaches n t m z y

-- z is the first dart outside, with the mark 0 or 3, on the walk that begins at y
pub record FirstOutside (n : ℕ) (t m : List ℕ) (z y : ℕ) : Type 0 where
  pub reached : Reaches n t m z y
  pub outside : marked m z ≡ false

-- ---- the table that is left

-- u is what remove leaves of t, where m are the marks
pub record Removes (n : ℕ) (t m u : List ℕ) : Type 0 where
  pub long : length u ≡ length t
  -- "cells with marks 1 or 2 become unused"
  pub gone : (x j : ℕ) → j < 4 → marked m x ≡ true → link u j x ≡ unused
  -- "A remaining dart whose link n led into them gets the first dart outside on the walk"
  pub found : (x : ℕ) → marked m x ≡ false → marked m (link t n x) ≡ true → FirstOutside n t m (link u n x) (link t n x)
  -- "All else stays."
  pub stays : (x j : ℕ) → j < 4 → j ≢ n → marked m x ≡ false → link u j x ≡ link t j x
  pub keeps : (x : ℕ) → marked m x ≡ false → marked m (link t n x) ≡ false → link u n x ≡ link t n x

-- x remains, and its link n led into cells that are taken away
unfoldable pub borders : ℕ → List ℕ → List ℕ → ℕ → Bool
borders n t m x = not (marked m x) && marked m (link t n x)
