-- The darts on the way, behind those of the turns: `mirror_begins` and `mirror_more` for the loop of `mirror`.
use Prim.Native.Nat.{ℕ, suc, ◌+◌, ◌*◌, ◌≤◌, ◌<◌}
use mathlib.Core.Path.{◌≡◌, refl, ap, ◌∙◌}
use mathlib.Core.Bool.{true}
use mathlib.Core.List.{List}
use native.Mathlib.Omega.{arith}
use lib.ListN.{length, get_or, set, length-set}
use lib.Seq.{get_or-set_same, get_or-set_other}
use Rattle.model.specs.Table.{slots, link, live}
use Rattle.theorems.proofs.Lists.Scan.{if_eq}
use Rattle.sides.specs.Turns.{Mirrors}
use Rattle.sides.proofs.Entries.{live_entry, link_low}

-- k of the words have been added
pub record Mirroring (t : List ℕ) (a size : ℕ) (xs₀ xs : List ℕ) (k : ℕ) : Type 0 where
  pub long : length xs ≡ length xs₀
  pub high : k ≤ size
  pub stays : (j : ℕ) → j < size → get_or xs j 0 ≡ get_or xs₀ j 0
  pub added : (j : ℕ) → j < k → get_or xs (size + j) 0 ≡ link t a (get_or xs₀ j 0)

pub mirror_begins : (t : List ℕ) (a size : ℕ) (xs : List ℕ) → Mirroring t a size xs xs 0
mirror_begins t a size xs = record {
  long = refl;
  high = omega arith;
  stays = λ j l. refl;
  added = λ j l. absurd (omega arith);
}

module _ {t : List ℕ} {a size : ℕ} {xs₀ xs : List ℕ} {k : ℕ} (M : Mirrors t a size xs₀) (g : Mirroring t a size xs₀ xs k)
    (l : k < size) where
  word_lives : live t (get_or xs k 0) ≡ true
  word_lives = rw (g.stays k l) (M.lives k l)

  pub word_entry : 4 * get_or xs k 0 + a < length t
  word_entry = live_entry M.linked _ a word_lives M.low

  pub word_low : link t a (get_or xs k 0) < slots t
  word_low = link_low M.linked _ a word_lives M.low

  pub word_room : size + k < length xs
  word_room = let r = M.room in let e = g.long in omega arith

  pub mirror_more : {y : ℕ} → y ≡ link t a (get_or xs k 0) → Mirroring t a size xs₀ (set xs (size + k) y) (suc k)
  mirror_more {y} e = record {
    long = length-set xs (size + k) y ∙ g.long;
    high = l;
    stays = λ j low. get_or-set_other xs (size + k) j y 0 (λ z. omega arith) ∙ g.stays j low;
    added = λ j low. if_eq j k
        (λ z. rw z (get_or-set_same xs (size + k) y 0 word_room ∙ e ∙ ap (link t a) (g.stays k l)))
        (λ z. get_or-set_other xs (size + k) (size + j) y 0 (λ w. z (omega arith)) ∙ g.added j (omega arith));
  }
