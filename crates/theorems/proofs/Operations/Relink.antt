-- A table with the links of one index made anew: the links that it has, and that all other entries stay.
-- `Relinked`: what sew and unsew make of a table; it is a map again. `relinked_back`: when it is the old table.
use Prim.Native.Nat.{ℕ, ◌+◌, ◌*◌, ◌/◌, ◌%◌, ◌≤◌, ◌<◌}
use mathlib.Core.Path.{◌≡◌, sym, ap, ◌∙◌}
use mathlib.Core.Logic.{◌≢◌}
use mathlib.Core.Bool.{true}
use mathlib.Core.List.{List}
use native.Mathlib.Omega.{arith}
use lib.ListN.{length, get_or}
use lib.Seq.{ext_get_or}
use Rattle.model.specs.Table.{unused, slots, link, live, relink, relink_at}
use Rattle.model.specs.Meaning.Maps.{MapTable}
use Rattle.theorems.proofs.Lists.Scan.{if_eq, if_lt}
use Rattle.theorems.proofs.Maps.Rules.{Relinking, relink_table, relink_live}
use Rattle.theorems.proofs.Maps.Rules.{link_out, link_retable, length_retable, at_same, at_other}
use Rattle.theorems.proofs.Maps.Tables.{live_below}

-- ---- tables as long as each other

module _ (t : List ℕ) (whole : length t ≡ 4 * slots t) (u : List ℕ) (long : length u ≡ length t) where
  pub long_slots : slots u ≡ slots t
  unfolding slots
  long_slots = ap (λ (k : ℕ). k / 4) long

  out_same : (x j : ℕ) → slots t ≤ x → link u j x ≡ link t j x
  out_same x j h = link_out u x (long ∙ whole ∙ ap (λ (k : ℕ). 4 * k) (sym long_slots)) (let s = long_slots in omega arith) j
      ∙ sym (link_out t x whole h j)

  -- with the same links, they are one
  pub table_same : ((x j : ℕ) → x < slots t → j < 4 → link u j x ≡ link t j x) → u ≡ t
  unfolding link
  table_same h = ext_get_or unused u t long (λ e l. entry e (let w = whole in omega arith))
    where
      entry : (e : ℕ) → e < 4 * slots t → get_or u e unused ≡ get_or t e unused
      entry e l =
          let split : 4 * (e / 4) + e % 4 ≡ e = omega arith in
          rw split at (h (e / 4) (e % 4) (omega arith) (omega arith))

-- ---- links of one index made anew

module _ (t : List ℕ) (whole : length t ≡ 4 * slots t) (i : ℕ) (g : ℕ → ℕ) where
  relink_long : length (relink t i g) ≡ length t
  unfolding relink
  relink_long = length_retable t (relink_at t i g) whole

  pub relink_own : (x : ℕ) → x < slots t → i < 4 → link (relink t i g) i x ≡ g x
  unfolding relink
  relink_own x h l = link_retable t (relink_at t i g) whole x i h l ∙ at_same t i g x

  relink_other : (x j : ℕ) → j < 4 → j ≢ i → link (relink t i g) j x ≡ link t j x
  unfolding relink
  relink_other x j l e = if_lt x (slots t)
      (λ h. link_retable t (relink_at t i g) whole x j h l ∙ at_other t i g x j e)
      (λ h. out_same t whole (relink t i g) relink_long x j h)

  -- a dart for which g is the old link keeps all
  pub relink_rest : (x : ℕ) → g x ≡ link t i x → (j : ℕ) → j < 4 → link (relink t i g) j x ≡ link t j x
  relink_rest x e j l = if_eq j i (λ q. rw q (own (omega arith))) (λ q. relink_other x j l q)
    where
      own : i < 4 → link (relink t i g) i x ≡ link t i x
      own b = if_lt x (slots t) (λ h. relink_own x h b ∙ e) (λ h. out_same t whole (relink t i g) relink_long x i h)

-- ---- and a map again

-- u is t with the links i made anew by an involution that goes with the far links
pub record Relinked (n : ℕ) (t : List ℕ) (i : ℕ) (u : List ℕ) : Type 0 where
  pub by : ℕ → ℕ
  pub is : u ≡ relink t i by
  pub change : Relinking n t i by

module _ {n : ℕ} {t u : List ℕ} {i : ℕ} (T : MapTable n t) (low : i ≤ n) (r : Relinked n t i u) where
  pub relinked_long : length u ≡ length t
  relinked_long = rw r.is (relink_long t T.whole i r.by)

  pub relinked_slots : slots u ≡ slots t
  relinked_slots = long_slots t T.whole u relinked_long

  pub relinked_table : MapTable n u
  relinked_table = rw r.is (relink_table T low r.change)

  pub relinked_live : (x : ℕ) → live t x ≡ true → live u x ≡ true
  relinked_live x h = rw r.is (relink_live T low r.change x (live_below T x h) ∙ h)

  pub relinked_other : (x j : ℕ) → j < 4 → j ≢ i → link u j x ≡ link t j x
  relinked_other x j l e = rw r.is (relink_other t T.whole i r.by x j l e)

-- made anew twice, and the links i are as they were: the table is as it was
pub relinked_back : {n : ℕ} {t u v : List ℕ} {i : ℕ} → MapTable n t → i ≤ n → Relinked n t i u → Relinked n u i v
    → ((x : ℕ) → link v i x ≡ link t i x) → v ≡ t
relinked_back {t = t} {v = v} {i = i} T low first second h =
    let U = relinked_table T low first in
    table_same t T.whole v (relinked_long U low second ∙ relinked_long T low first)
    (λ x j _ b. if_eq j i (λ q. rw q (h x)) (λ q. relinked_other U low second x j b q ∙ relinked_other T low first x j b q))
