-- Whose new darts they are: a role of either is one of insert or of split (`layer_role`, `split_role`), and so are the links of the new dart
-- (`layer_links`, `split_links`).
use Prim.Native.Nat.{ℕ, ◌<◌}
use mathlib.Core.Path.{◌≡◌, refl}
use mathlib.Core.Bool.{Bool, true, false}
use mathlib.Core.List.{List, Memᴰ as In}
use Rattle.model.specs.NewDarts.{new_dart}
use Rattle.model.specs.Split.{split_table}
use Rattle.model.specs.Insert.{insert_table}
use Rattle.model.specs.Sheet.{sheet}
use Rattle.model.specs.Meaning.Splits.{new_of}
use Rattle.model.specs.Meaning.Walls.{layer_dart}
use Rattle.theorems.proofs.Lists.Scan.{clash}
use Rattle.theorems.proofs.Lists.Ones.{ones_of}
use Rattle.new_darts.specs.News.{Made, Makes, by_split, by_insert, News, NewLinks}
use Rattle.new_darts.specs.Roles.{SplitRole, SomeSplitRole, LayerRole, SomeLayerRole, Role, SomeRole}

module _ {n : ℕ} {t fresh places nexts : List ℕ} {r g : ℕ} where
  -- what holds of a role of insert, or of split, with the table and the new dart that it has there, holds of a role of either
  of_layer : (P : List ℕ → ℕ → Type 0) {insert : Bool} {M : Made} → insert ≡ true → Makes n t nexts insert M
      → News n t M.olds M.news fresh places → r < n → In g M.olds
      → ((m : List ℕ) → LayerRole n t m fresh places nexts r g → P (insert_table n t m) (layer_dart n t m r g))
      → P M.table (new_dart n M.olds M.news r g)
  of_layer P e (by_split s) N low i f = absurd (clash e refl)
  of_layer P e (by_insert {m} I X) N low i f = f m (record { inserts = I; next = X; news = N; low = low; dart = ones_of m g i })

  of_split : (P : List ℕ → ℕ → Type 0) {insert : Bool} {M : Made} → insert ≡ false → Makes n t nexts insert M
      → News n t M.olds M.news fresh places → r < n → In g M.olds
      → ((d : ℕ) → SplitRole n t d fresh places r g → P (split_table n t d) (new_of n t d r g))
      → P M.table (new_dart n M.olds M.news r g)
  of_split P e (by_split {d} s) N low i f = f d (record { splits = s; news = N; low = low; dart = ones_of (sheet n t d) g i })
  of_split P e (by_insert I X) N low i f = absurd (clash refl e)

  module _ {insert : Bool} where
    pub layer_role : insert ≡ true → SomeRole n insert t fresh places nexts r g → SomeLayerRole n t fresh places nexts r g
    layer_role e R = of_layer (λ _ _. SomeLayerRole n t fresh places nexts r g) e R.is.makes R.is.news R.is.low R.is.dart
        (λ m L. record { m = m; is = L })

    pub split_role : insert ≡ false → SomeRole n insert t fresh places nexts r g → SomeSplitRole n t fresh places r g
    split_role e R = of_split (λ _ _. SomeSplitRole n t fresh places r g) e R.is.makes R.is.news R.is.low R.is.dart
        (λ d S. record { d = d; is = S })

    module _ {M : Made} (R : Role n insert t M fresh places nexts r g) (links : List ℕ) where
      pub layer_links : insert ≡ true
          → ((m : List ℕ) → LayerRole n t m fresh places nexts r g → NewLinks (insert_table n t m) (layer_dart n t m r g) links)
          → NewLinks M.table (new_dart n M.olds M.news r g) links
      layer_links e = of_layer (λ u x. NewLinks u x links) e R.makes R.news R.low R.dart

      pub split_links : insert ≡ false
          → ((d : ℕ) → SplitRole n t d fresh places r g → NewLinks (split_table n t d) (new_of n t d r g) links)
          → NewLinks M.table (new_dart n M.olds M.news r g) links
      split_links e = of_split (λ u x. NewLinks u x links) e R.makes R.news R.low R.dart
