-- What insert is given (`Laying`, `laying_of`), and its links as the model has them: link n of the wall's darts (`laid_wall`), the
-- links of the new darts (`new_link_lem`), and what stays (`laid_kept`).
use Prim.Native.Nat.{ℕ, ◌*◌, ◌<◌}
use mathlib.Core.Path.{◌≡◌, refl, sym, ap, ap₂, ◌∙◌}
use mathlib.Core.Bool.{true}
use mathlib.Core.List.{List, Memᴰ as In}
use native.Mathlib.Omega.{arith}
use lib.ListN.{length}
use borrow.Author.Tests.{lt-ltb, le-ltb, eq-eqb}
use Rattle.model.specs.Lists.{ones, index_of}
use Rattle.model.specs.Table.{slots, link, live}
use Rattle.model.specs.NewDarts.{new_dart, slots_for}
use Rattle.model.specs.Wall.{next}
use Rattle.model.specs.Insert.{layer_link, laid_link, laid}
use Rattle.model.specs.Meaning.Lists.{Distinct}
use Rattle.model.specs.Meaning.Slots.{Vacant}
use Rattle.model.specs.Meaning.Maps.{BlockTable}
use Rattle.model.specs.Meaning.Walls.{Wall, Inserts}
use Rattle.theorems.proofs.Lists.Ones.{vacant_frees, ones_distinct, index_out, index_in}
use Rattle.theorems.proofs.Maps.Rules.{link_retable, slots_retable, length_retable}
use Rattle.theorems.proofs.Maps.Tables.{map_table, live_below}
use Rattle.theorems.proofs.Operations.Frame.{insert_frame}
use Rattle.theorems.proofs.Layers.NewDarts.{Spread, new_in, new_dart_lem, new_role, not_new}
use Rattle.theorems.proofs.Insert.Wall.{wall_of}

-- a block map, the darts hs of a wall, what takes each to the next, and n unused slots fs for each
pub record Laying (n : ℕ) (t hs fs : List ℕ) (nx : ℕ → ℕ) : Type 0 where
  pub table : BlockTable n t
  pub wall : Wall n t hs nx
  pub once : Distinct hs
  pub vacant : Vacant t fs
  pub enough : length fs ≡ n * length hs

pub laying_of : {n : ℕ} {t m : List ℕ} → Inserts n t m → Laying n t (ones m) (slots_for n t (ones m)) (next n t m)
unfolding slots_for
laying_of {n} {t} {m} I = record {
  table = I.table;
  wall = wall_of I;
  once = ones_distinct m 0;
  vacant = vacant_frees t (n * length (ones m));
  enough = I.room;
}

module _ {n : ℕ} {t hs fs : List ℕ} {nx : ℕ → ℕ} (C : Laying n t hs fs nx) where
  pub spread : Spread n t hs fs
  spread = record { dim = C.table.dim; once = C.once; vacant = C.vacant; enough = C.enough }

  abbrev after : List ℕ
  after = laid n t hs fs nx

  pub laid_slots : slots after ≡ slots t
  unfolding laid
  laid_slots = slots_retable t (laid_link n t hs fs nx) C.table.whole

  pub laid_length : length after ≡ length t
  unfolding laid
  laid_length = length_retable t (laid_link n t hs fs nx) C.table.whole

  pub laid_whole : length after ≡ 4 * slots after
  laid_whole = laid_length ∙ C.table.whole ∙ ap (λ (k : ℕ). 4 * k) (sym laid_slots)

  after_link : (x j : ℕ) → x < slots t → j < 4 → link after j x ≡ laid_link n t hs fs nx x j
  unfolding laid
  after_link = link_retable t (laid_link n t hs fs nx) C.table.whole

  wall_below : (x : ℕ) → In x hs → x < slots t
  wall_below x i = live_below (map_table C.table) x (C.wall.lives x i)

  -- link n of a wall dart leads to its p
  pub laid_wall : (h : ℕ) → In h hs → link after n h ≡ new_dart n hs fs 0 h
  unfolding laid_link
  laid_wall h i =
      let top = C.table.dim.1 in
      let not_slot = le-ltb (index_of h fs) (length fs) (index_out fs h (not_new spread h (C.wall.lives h i))) in
      let dart = lt-ltb (index_of h hs) (length hs) (index_in hs h i) in
      after_link h n (wall_below h i) (omega arith) ∙ rw (not_slot, eq-eqb n n refl, dart, laid_link)

  pub new_link_lem : (r h j : ℕ) → r < n → In h hs → j < 4
      → link after j (new_dart n hs fs r h) ≡ layer_link n t hs fs nx (new_dart n hs fs r h) h r j
  unfolding laid_link
  new_link_lem r h j b i low =
      let x = new_dart n hs fs r h in
      let there = new_in spread r h b i in
      after_link x j (C.vacant.inside x there) low
      ∙ rw (lt-ltb (index_of x fs) (length fs) (index_in fs x there), laid_link)
      (ap₂ (λ (y s : ℕ). layer_link n t hs fs nx x y s j) (new_dart_lem spread r h b i) (new_role spread r h b i))

  -- all else stays
  pub laid_kept : (x j : ℕ) → live t x ≡ true → j < 4 → (j ≡ n → In x hs → ⊥) → link after j x ≡ link t j x
  laid_kept x j l b k =
      insert_frame t C.table.whole x (live_below (map_table C.table) x l) n hs fs nx (not_new spread x l) j b k
