-- What add, split and insert leave: every entry but those named (`add_frame`, `split_frame`, `insert_frame`); the walk across removed
-- cells stops at once outside of them (`outside_stops`); a cell whose darts keep the links below n stays (`cell_kept`).
use Prim.Native.Nat.{ℕ, zero, suc, ◌*◌, ◌<◌}
use mathlib.Core.Path.{◌≡◌, refl, ◌∙◌}
use mathlib.Core.Bool.{false}
use mathlib.Core.List.{List, Memᴰ as In}
use lib.ListN.{length}
use borrow.Author.Tests.{eq-eqb, ne_eqb, le-ltb}
use Rattle.model.specs.Lists.{index_of}
use Rattle.model.specs.Table.{slots, link}
use Rattle.model.specs.Cell.{cell_of}
use Rattle.model.specs.Add.{added_link, added}
use Rattle.model.specs.Remove.{marked, outside}
use Rattle.model.specs.Split.{split_link, split_by}
use Rattle.model.specs.Insert.{laid_link, laid}
use Rattle.model.specs.Meaning.Sets.{Marked, LeastSet, ByLink}
use Rattle.theorems.proofs.Lists.Scan.{if_eq}
use Rattle.theorems.proofs.Maps.Rules.{link_retable}
use Rattle.theorems.proofs.Lists.Ones.{index_out}
use Rattle.theorems.proofs.Sets.Least.{least_set_unique, least_kept, by_link_same, cell_is}

-- the walk across removed cells stops at once outside of them
pub outside_stops : (n : ℕ) (t m : List ℕ) (fuel y : ℕ) → marked m y ≡ false → outside n t m fuel y ≡ y
unfolding outside
outside_stops n t m zero y out = refl
outside_stops n t m (suc fuel) y out = rw (out, outside)

module _ (t : List ℕ) (fits : length t ≡ 4 * slots t) (x : ℕ) (low : x < slots t) where
  -- add changes the slots fs
  pub add_frame : (n : ℕ) (fs : List ℕ) → (In x fs → ⊥) → (j : ℕ) → j < 4 → link (added n t fs) j x ≡ link t j x
  unfolding added added_link
  add_frame n fs k j b =
      link_retable t (added_link n t fs) fits x j low b ∙ rw (le-ltb (index_of x fs) (length fs) (index_out fs x k), added_link)

  -- split changes link 0 of the darts gs, and the slots fs
  pub split_frame : (n : ℕ) (gs fs : List ℕ) → (In x fs → ⊥) → (j : ℕ) → j < 4 → (j ≡ 0 → In x gs → ⊥)
      → link (split_by n t gs fs) j x ≡ link t j x
  unfolding split_by split_link
  split_frame n gs fs k j b i =
      link_retable t (split_link n t gs fs) fits x j low b
      ∙ rw (le-ltb (index_of x fs) (length fs) (index_out fs x k), split_link) (if_eq j 0
      (λ e. rw (eq-eqb j 0 e, le-ltb (index_of x gs) (length gs) (index_out gs x (i e))))
      (λ e. rw (ne_eqb j 0 e)))

  -- insert changes link n of the wall's darts hs, and the slots fs
  pub insert_frame : (n : ℕ) (hs fs : List ℕ) (nx : ℕ → ℕ) → (In x fs → ⊥) → (j : ℕ) → j < 4 → (j ≡ n → In x hs → ⊥)
      → link (laid n t hs fs nx) j x ≡ link t j x
  unfolding laid laid_link
  insert_frame n hs fs nx k j b i =
      link_retable t (laid_link n t hs fs nx) fits x j low b
      ∙ rw (le-ltb (index_of x fs) (length fs) (index_out fs x k), laid_link) (if_eq j n
      (λ e. rw (eq-eqb j n e, le-ltb (index_of x hs) (length hs) (index_out hs x (i e))))
      (λ e. rw (ne_eqb j n e)))

-- ---- cells

-- a cell whose darts keep the links below n stays
pub cell_kept : (n : ℕ) (t u : List ℕ) (x : ℕ) → slots u ≡ slots t
    → ((y j : ℕ) → Marked (cell_of n t x) y → j < n → link u j y ≡ link t j y) → cell_of n u x ≡ cell_of n t x
cell_kept n t u x same kept =
    let after : LeastSet (slots t) (λ y. y ≡ x) (ByLink u (λ j. j < n)) (cell_of n u x) = rw same at (cell_is n u x) in
    let before = cell_is n t x in
    least_set_unique after (least_kept before (λ y z m. by_link_same t u (λ j. j < n) y (λ j. kept y j m) z))
