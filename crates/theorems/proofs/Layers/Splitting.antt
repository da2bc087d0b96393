-- What split is given (`Splitting`), and its links as the model has them:
-- link 0 of the darts of the sheet (`split_dart_link`), the links of the new darts (`new_link_lem`), and what stays (`split_kept`).
use Prim.Native.Nat.{ℕ, ◌*◌, ◌<◌}
use mathlib.Core.Path.{◌≡◌, sym, ap, ap₂, ◌∙◌}
use mathlib.Core.Bool.{true}
use mathlib.Core.List.{List, Memᴰ as In}
use native.Mathlib.Omega.{arith}
use lib.ListN.{length}
use borrow.Author.Tests.{lt-ltb, le-ltb}
use Rattle.model.specs.Lists.{ones, index_of}
use Rattle.model.specs.Table.{slots, link, live}
use Rattle.model.specs.Sheet.{sheet}
use Rattle.model.specs.NewDarts.{new_dart, slots_for}
use Rattle.model.specs.Split.{new_dart_link, split_link, split_by}
use Rattle.model.specs.Meaning.Splits.{Splits, Splitting}
use Rattle.theorems.proofs.Lists.Ones.{vacant_frees, index_out, index_in}
use Rattle.theorems.proofs.Maps.Rules.{link_retable, slots_retable, length_retable}
use Rattle.theorems.proofs.Maps.Tables.{map_table, live_below}
use Rattle.theorems.proofs.Operations.Frame.{split_frame}
pub use Rattle.theorems.proofs.Layers.NewDarts.{slot_low}
use Rattle.theorems.proofs.Layers.NewDarts.{Spread, new_in, new_dart_lem, new_role, not_new}
use Rattle.theorems.proofs.Layers.Sheet.{sheet_of, crosses_none}

pub splits_splitting : {n : ℕ} {t : List ℕ} {d : ℕ} → Splits n t d → Splitting n t (ones (sheet n t d)) (slots_for n t (ones (sheet n t d)))
unfolding slots_for
splits_splitting {n} {t} {d} s = record {
  table = s.dart.table;
  sheet = sheet_of s.dart;
  uncrossed = crosses_none t (sheet n t d) s.uncrossed;
  vacant = vacant_frees t (n * length (ones (sheet n t d)));
  enough = s.room;
}

module _ {n : ℕ} {t gs fs : List ℕ} (C : Splitting n t gs fs) where
  pub spread : Spread n t gs fs
  spread = record { dim = C.table.dim; once = C.sheet.once; vacant = C.vacant; enough = C.enough }

  -- ---- the links

  abbrev after : List ℕ
  after = split_by n t gs fs

  pub split_slots : slots after ≡ slots t
  unfolding split_by
  split_slots = slots_retable t (split_link n t gs fs) C.table.whole

  pub split_whole : length after ≡ 4 * slots after
  unfolding split_by
  split_whole =
      length_retable t (split_link n t gs fs) C.table.whole ∙ C.table.whole ∙ ap (λ (k : ℕ). 4 * k) (sym split_slots)

  after_link : (x j : ℕ) → x < slots t → j < 4 → link after j x ≡ split_link n t gs fs x j
  unfolding split_by
  after_link = link_retable t (split_link n t gs fs) C.table.whole

  sheet_below : (x : ℕ) → In x gs → x < slots t
  sheet_below x i = live_below (map_table C.table) x (C.sheet.lives x i)

  -- "g.0 = a(g)"
  pub split_dart_link : (g : ℕ) → In g gs → link after 0 g ≡ new_dart n gs fs 0 g
  unfolding split_link
  split_dart_link g i =
      let not_slot = le-ltb (index_of g fs) (length fs) (index_out fs g (not_new spread g (C.sheet.lives g i))) in
      let dart = lt-ltb (index_of g gs) (length gs) (index_in gs g i) in
      after_link g 0 (sheet_below g i) (omega arith) ∙ rw (not_slot, dart, split_link)

  pub new_link_lem : (r g j : ℕ) → r < n → In g gs → j < 4
      → link after j (new_dart n gs fs r g) ≡ new_dart_link n t gs fs (new_dart n gs fs r g) g r j
  unfolding split_link
  new_link_lem r g j b i h =
      let x = new_dart n gs fs r g in
      after_link x j (C.vacant.inside x (new_in spread r g b i)) h
      ∙ rw (lt-ltb (index_of x fs) (length fs) (index_in fs x (new_in spread r g b i)), split_link)
      (ap₂ (λ (y s : ℕ). new_dart_link n t gs fs x y s j) (new_dart_lem spread r g b i) (new_role spread r g b i))

  -- "All else stays."
  pub split_kept : (x j : ℕ) → live t x ≡ true → j < 4 → (j ≡ 0 → In x gs → ⊥) → link after j x ≡ link t j x
  split_kept x j l b k = split_frame t C.table.whole x (live_below (map_table C.table) x l) n gs fs (not_new spread x l) j b k
