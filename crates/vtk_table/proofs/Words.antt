-- The words of a cell, by dart and link: `word_entry`, `word_old`, and as they are stored: `word_shifted`.
use Prim.Native.Nat.{ℕ, ◌+◌, ◌*◌, ◌/◌, ◌%◌, ◌≤◌, ◌<◌}
use mathlib.Core.Path.{◌≡◌, sym, ◌∙◌}
use mathlib.Core.Logic.{◌≢◌}
use native.Mathlib.Omega.{arith}
use lib.ListN.{get_or}
use borrow.Author.Tests.{ne_eqb}
use Rattle.model.specs.Table.{unused}
use Rattle.model.specs.Numbering.{cell_link}
use Rattle.theorems.proofs.Lists.Scan.{below_four}
use Rattle.theorems.proofs.Vtk.Sites.{link_low}
use Rattle.vtk_table.specs.Cells.{word_at, shifts, dart_links}

module _ (y : ℕ) where
  pub word_first : y % 3 ≡ 0 → y / 3 ≡ word_at y
  unfolding word_at
  word_first first = rw (first, word_at)

  pub word_second : y % 3 ≡ 1 → unused ≡ word_at y
  unfolding word_at
  word_second second = rw (second, word_at) (rw second)

  module _ (other : y % 3 ≢ 0) (last : y % 3 ≢ 1) where
    pub word_none : y / 3 % 4 ≡ 3 → 0 ≡ word_at y
    unfolding word_at
    word_none three = rw (ne_eqb (y % 3) 0 other, word_at) (rw (ne_eqb (y % 3) 1 last) (rw three))

    pub word_link : y / 3 % 4 ≢ 3 → cell_link 3 (y / 3 % 4) (y / 12) ≡ word_at y
    unfolding word_at
    word_link low = rw (ne_eqb (y % 3) 0 other, word_at) (rw (ne_eqb (y % 3) 1 last) (rw (ne_eqb (y / 3 % 4) 3 low)))

pub word_entry : (x : ℕ) → word_at (3 * x) ≡ x
word_entry x = sym (word_first (3 * x) (omega arith)) ∙ omega arith

pub word_old : (x : ℕ) → word_at (3 * x + 1) ≡ unused
word_old x = sym (word_second (3 * x + 1) (omega arith))

module _ (k : ℕ) (low : k < 48) where
  word_new : (i : ℕ) → i < 3 → word_at (3 * (4 * k + i) + 2) ≡ cell_link 3 i k
  word_new i index =
      let entry : (3 * (4 * k + i) + 2) / 3 ≡ 4 * k + i = omega arith in
      let axis : (3 * (4 * k + i) + 2) / 3 % 4 ≡ i = rw entry (omega arith) in
      let dart : (3 * (4 * k + i) + 2) / 12 ≡ k = omega arith in
      sym (word_link (3 * (4 * k + i) + 2) (omega arith) (omega arith) (omega arith)) ∙ rw (axis, dart)

  word_third : word_at (3 * (4 * k + 3) + 2) ≡ 0
  word_third =
      let entry : (3 * (4 * k + 3) + 2) / 3 ≡ 4 * k + 3 = omega arith in
      sym (word_none (3 * (4 * k + 3) + 2) (omega arith) (omega arith) (rw entry (omega arith)))

  module _ (cell third : ℕ) where
    -- what is added gives the dart's links
    pub word_shifted : (i : ℕ) → i < 4 → word_at (3 * (4 * k + i) + 2) + get_or (shifts cell third) i 0 ≡ get_or (dart_links cell third k) i 0
    word_shifted = below_four (λ i. word_at (3 * (4 * k + i) + 2) + get_or (shifts cell third) i 0 ≡ get_or (dart_links cell third k) i 0)
        (rw (word_new 0 (omega arith))) (rw (word_new 1 (omega arith))) (rw (word_new 2 (omega arith)))
        (omega (arith, word_third))

    pub links_few : cell ≤ 65536 → third < 4294967296 → (i : ℕ) → i < 4 → get_or (dart_links cell third k) i 0 < 4294967296
    links_few few small = below_four (λ i. get_or (dart_links cell third k) i 0 < 4294967296)
        (omega (arith, link_low 0 k (omega arith) low)) (omega (arith, link_low 1 k (omega arith) low)) (omega (arith, link_low 2 k (omega arith) low))
        small
