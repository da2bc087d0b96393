-- The new darts of split, seen from a dart g of S: what `new_dart` asks (`dart_asked`) and finds (`dart_found`) for the dart that a word of
-- the links leads to, their links (`links`), and the links 3 of a(g) and b(g) in both dimensions (`a_over`, `b_over`).
use Prim.Native.Nat.{ℕ, ◌+◌, ◌*◌, ◌<◌}
use mathlib.Core.Path.{◌≡◌}
use mathlib.Core.Bool.{true}
use mathlib.Core.List.{List, [], ◌∷◌, Memᴰ as In}
use native.Mathlib.Omega.{arith}
use lib.ListN.{length, get_or}
use Rattle.model.specs.Table.{slots, link, walk}
use Rattle.model.specs.Sheet.{sheet}
use Rattle.model.specs.Split.{split_table}
use Rattle.model.specs.Meaning.Sets.{Marked}
use Rattle.model.specs.Meaning.Splits.{sheet_darts, new_of, SplitLinks}
use Rattle.theorems.proofs.Lists.Ones.{ones_of, ones_in}
use Rattle.theorems.proofs.Maps.Tables.{map_table, live_below}
use Rattle.theorems.proofs.Layers.Sheet.{sheet_live, sheet_of}
use Rattle.theorems.proofs.Layers.Splitting.{splits_splitting}
use Rattle.theorems.proofs.Layers.Roles.{role_dart}
use Rattle.theorems.proofs.Layers.SplitRole.{role_to, role_word, keeps_sheet, sheet_walk, role_link}
use Rattle.theorems.proofs.Layers.Split.{split_links}
use Rattle.new_darts.specs.Roles.{SplitRole, SomeSplitRole}
use Rattle.new_darts.proofs.News.{new_asked, new_found}

pub some_role : {n : ℕ} {t fresh places : List ℕ} {role r g : ℕ} → role ≡ r → SomeSplitRole n t fresh places role g
    → SomeSplitRole n t fresh places r g
some_role e R = rw e at R

module _ {n : ℕ} {t : List ℕ} {d : ℕ} {fresh places : List ℕ} {role g : ℕ} (R : SplitRole n t d fresh places role g) where
  abbrev S : List ℕ
  S = sheet n t d

  dart_inside : (y : ℕ) → Marked S y → y < slots t
  dart_inside y m = let D = R.splits.dart in live_below (map_table D.table) y (sheet_live D y m)

  -- what `link_in` asks
  pub link_asked : (i : ℕ) → i < 4 → 4 * g + i < length t
  link_asked i h =
      let inside = dart_inside g R.dart in
      let whole = R.splits.dart.table.whole in
      omega arith

  -- a word that keeps to the sheet
  module _ (w : List ℕ) (kept : keeps_sheet w ≡ true) {y : ℕ} (at : y ≡ walk t w g) where
    dart_at : In y (sheet_darts n t d)
    dart_at =
        let D = R.splits.dart in
        rw at (sheet_walk D.table (sheet_of D) w g kept (ones_in S g R.dart))

    pub dart_asked : (r : ℕ) → r < n → (y < length places) × (r < 3) × (get_or places y 0 + r < length fresh)
    dart_asked = new_asked R.news dart_at R.splits.dart.table.dim.1 (dart_inside y (ones_of S y dart_at))

    pub dart_found : (r : ℕ) → r < n → {x : ℕ} → x ≡ get_or fresh (get_or places y 0 + r) 0 → x ≡ new_of n t d r (walk t w g)
    dart_found r low is = new_found R.news dart_at r low is at

  pub links : SplitLinks n t (split_table n t d) (new_of n t d 0) (new_of n t d 1) (new_of n t d 2) g
  links = split_links R.splits g R.dart

  -- link 3 leads to the new dart of g.3, for n = 2 too
  pub a_over : link (split_table n t d) 3 (new_of n t d 0 g) ≡ new_of n t d 0 (walk t (3 ∷ []) g)
  unfolding split_table role_to role_word role_dart walk
  a_over =
      let two = R.splits.dart.table.dim.0 in
      role_link (splits_splitting R.splits) 1 g 3 (omega arith) (ones_in S g R.dart) (omega arith)

  pub b_over : link (split_table n t d) 3 (new_of n t d 1 g) ≡ new_of n t d 1 (walk t (3 ∷ []) g)
  unfolding split_table role_to role_word role_dart walk
  b_over =
      let two = R.splits.dart.table.dim.0 in
      role_link (splits_splitting R.splits) 2 g 3 two (ones_in S g R.dart) (omega arith)
