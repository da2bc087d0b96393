-- The new darts of insert, seen from a dart h of the wall: what `new_dart` asks (`wall_asked`) and finds (`wall_found`) for a dart of the
-- wall, which links of h (`own`, `along`, `over`) and next(h) (`after`) are such, and the links of the new darts (`links`, `p_back`).
use Prim.Native.Nat.{ℕ, ◌+◌, ◌*◌, ◌≤◌, ◌<◌}
use mathlib.Core.Path.{◌≡◌, sym, ap, ◌∙◌}
use mathlib.Core.List.{List}
use native.Mathlib.Omega.{arith}
use lib.ListN.{length, get_or}
use Rattle.model.specs.Table.{slots, link}
use Rattle.model.specs.Wall.{next}
use Rattle.model.specs.Insert.{insert_table}
use Rattle.model.specs.Meaning.Sets.{Marked}
use Rattle.model.specs.Meaning.Walls.{layer_dart, InsertLinks}
use Rattle.theorems.proofs.Lists.Ones.{ones_in}
use Rattle.theorems.proofs.Maps.Tables.{map_table, live_below}
use Rattle.theorems.proofs.Insert.Turn.{next_on}
use Rattle.theorems.proofs.Insert.Wall.{drawn_of}
use Rattle.theorems.proofs.Insert.Inserted.{insert_links}
use Rattle.new_darts.specs.Roles.{LayerRole, SomeLayerRole}
use Rattle.new_darts.proofs.News.{new_asked, new_found}

pub some_role : {n : ℕ} {t fresh places nexts : List ℕ} {role r h : ℕ} → role ≡ r → SomeLayerRole n t fresh places nexts role h
    → SomeLayerRole n t fresh places nexts r h
some_role e R = rw e at R

module _ {n : ℕ} {t m fresh places nexts : List ℕ} {role h : ℕ} (R : LayerRole n t m fresh places nexts role h) where
  inside : (y : ℕ) → Marked m y → y < slots t
  inside y i = live_below (map_table R.inserts.table) y ((drawn_of R.inserts).lives y i)

  -- what `link_in` asks
  pub link_asked : (i : ℕ) → i < 4 → 4 * h + i < length t
  link_asked i low =
      let inside = inside h R.dart in
      let whole = R.inserts.table.whole in
      omega arith

  -- what reading nexts asks
  pub next_asked : h < length nexts
  next_asked =
      let inside = inside h R.dart in
      let wide = R.next.wide in
      omega arith

  -- ---- darts of the wall

  pub along : (j : ℕ) → j + 2 ≤ n → Marked m (link t j h)
  along j low = (drawn_of R.inserts).along h j low R.dart

  pub over : (i : ℕ) → n ≡ i → Marked m (link t i h)
  over i e = rw e at ((drawn_of R.inserts).over h R.dart)

  pub after : Marked m (next n t m h)
  after = next_on (drawn_of R.inserts) h R.dart

  pub next_is : get_or nexts h 0 ≡ next n t m h
  next_is = R.next.next h R.dart

  -- y is such a dart z
  module _ {y z : ℕ} (at : y ≡ z) (on : Marked m z) where
    there : Marked m y
    there = rw at on

    pub wall_asked : (r : ℕ) → r < n → (y < length places) × (r < 3) × (get_or places y 0 + r < length fresh)
    wall_asked = new_asked R.news (ones_in m y there) R.inserts.table.dim.1 (inside y there)

    pub wall_found : (r : ℕ) → r < n → {x : ℕ} → x ≡ get_or fresh (get_or places y 0 + r) 0 → x ≡ layer_dart n t m r z
    wall_found r low is = new_found R.news (ones_in m y there) r low is at

  pub links : InsertLinks n t (insert_table n t m) (next n t m) (layer_dart n t m 0) (layer_dart n t m 1) (layer_dart n t m 2) h
  links = insert_links R.inserts h R.dart

  -- "p(h) is sewn to h by link" n
  pub p_back : (i : ℕ) → n ≡ i → h ≡ link (insert_table n t m) i (layer_dart n t m 0 h)
  p_back i e = sym (ap (λ (j : ℕ). link (insert_table n t m) j (layer_dart n t m 0 h)) (sym e) ∙ links.p_n)
