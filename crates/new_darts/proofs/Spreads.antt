-- What the new table says, of split and of insert alike: `Spread`, for what either makes (`spread`).
use Prim.Native.Nat.{ℕ, ◌*◌, ◌<◌}
use mathlib.Core.Path.{◌≡◌}
use mathlib.Core.Bool.{Bool, true}
use mathlib.Core.List.{List, Memᴰ as In}
use native.Mathlib.Omega.{arith}
use lib.ListN.{length}
use Rattle.model.specs.Table.{link, live}
use Rattle.model.specs.NewDarts.{new_dart}
use Rattle.model.specs.Sheet.{sheet}
use Rattle.model.specs.Meaning.Lists.{Rising}
use Rattle.model.specs.Meaning.Slots.{Lowest}
use Rattle.model.specs.Meaning.Maps.{BlockTable}
use Rattle.model.specs.Meaning.Splits.{Splits}
use Rattle.model.specs.Meaning.Walls.{Inserts}
use Rattle.theorems.proofs.Lists.Ones.{ones_of, ones_in}
use Rattle.theorems.proofs.Operations.Slots.{ones_rising}
use Rattle.theorems.proofs.Layers.Sheet.{sheet_live}
use Rattle.theorems.proofs.Layers.Split.{darts_rising, split_lowest, split_links, split_stays, split_filled, split_keeps, split_length}
use Rattle.theorems.proofs.Insert.Wall.{drawn_of}
use Rattle.theorems.proofs.Insert.Inserted.{insert_lowest, insert_links, insert_stays, insert_filled, insert_keeps, insert_length}
use Rattle.new_darts.specs.News.{Made, split_made, insert_made, Makes, by_split, by_insert, changed_link}

-- each old dart has n new ones; its link i leads to the first; and but for that and the new slots all stays
pub record Spread (n : ℕ) (t : List ℕ) (i : ℕ) (M : Made) : Type 0 where
  pub table : BlockTable n t
  pub after : BlockTable n M.table
  pub long : length M.table ≡ length t
  pub index : i < 4
  pub rising : Rising M.olds
  pub lives : (g : ℕ) → In g M.olds → live t g ≡ true
  pub lowest : Lowest t M.news
  pub enough : length M.news ≡ n * length M.olds
  pub filled : (x : ℕ) → In x M.news → live M.table x ≡ true
  pub first : (g : ℕ) → In g M.olds → link M.table i g ≡ new_dart n M.olds M.news 0 g
  pub stays : (x j : ℕ) → j < 4 → (In x M.news → ⊥) → (j ≡ i → In x M.olds → ⊥) → link M.table j x ≡ link t j x

split_spread : {n : ℕ} {t : List ℕ} {d : ℕ} → Splits n t d → Spread n t 0 (split_made n t d)
split_spread {n} {t} {d} s = record {
  table = s.dart.table;
  after = split_keeps s;
  long = split_length s;
  index = omega arith;
  rising = darts_rising n t d;
  lives = λ g i. sheet_live s.dart g (ones_of (sheet n t d) g i);
  lowest = split_lowest s;
  enough = s.room;
  filled = (split_filled s).made;
  first = λ g i. (split_links s g (ones_of (sheet n t d) g i)).g_0;
  stays = λ x j h out other. split_stays s x j h out (λ e m. other e (ones_in (sheet n t d) x m));
}

insert_spread : {n : ℕ} {t m : List ℕ} → Inserts n t m → Spread n t n (insert_made n t m)
insert_spread {n} {t} {m} I = record {
  table = I.table;
  after = insert_keeps I;
  long = insert_length I;
  index = let three = I.table.dim.1 in omega arith;
  rising = ones_rising m 0;
  lives = λ h i. (drawn_of I).lives h (ones_of m h i);
  lowest = insert_lowest I;
  enough = I.room;
  filled = (insert_filled I).made;
  first = λ h i. (insert_links I h (ones_of m h i)).h_n;
  stays = λ x j h out other. insert_stays I x j h out (λ e k. other e (ones_in m x k));
}

pub spread : {n : ℕ} {t nexts : List ℕ} {insert : Bool} {M : Made} → Makes n t nexts insert M → Spread n t (changed_link n insert) M
unfolding changed_link
spread (by_split s) = split_spread s
spread (by_insert I N) = insert_spread I
