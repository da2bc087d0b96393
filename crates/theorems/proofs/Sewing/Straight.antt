-- sew and unsew by link n fold no side: `sew_straight`, `unsew_straight`.
use Prim.Native.Nat.{ℕ, ◌+◌, ◌≤◌}
use mathlib.Core.Path.{◌≡◌, sym, ap, ◌∙◌, subst}
use mathlib.Core.Bool.{true}
use mathlib.Core.List.{List}
use native.Mathlib.Nat.{le_refl}
use native.Mathlib.Omega.{arith}
use lib.ListN.{get_or}
use Rattle.model.specs.Table.{link, live}
use Rattle.model.specs.Sew.{side, sew_table, unsew_table}
use Rattle.model.specs.Meaning.Maps.{MapTable, Straight}
use Rattle.model.specs.Meaning.Sets.{Marked}
use Rattle.model.specs.Meaning.Pairings.{OnSide, Pairing, Sewable}
use Rattle.theorems.proofs.Lists.Scan.{if_eq}
use Rattle.theorems.proofs.Maps.Tables.{rule_at}
use Rattle.theorems.proofs.Operations.Relink.{Relinked, relinked_other}
use Rattle.theorems.proofs.Sewing.Side.{on_side, side_shrinks, side_part, straight_kept, sides_parted, Place, own, other, outside, place}
use Rattle.theorems.proofs.Sewing.Pairing.{paired_exactly}
use Rattle.theorems.proofs.Sewing.Sew.{sew_relinked, sew_there, sew_back, sew_rest}
use Rattle.theorems.proofs.Sewing.Unsew.{unsew_relinked, unsew_free, unsew_partner, unsew_rest}

-- where only the links n are made anew
module _ {n : ℕ} {t u : List ℕ} (T : MapTable n t) (made : Relinked n t n u) (x : ℕ) (l : live t x ≡ true) where
  stays : (y j : ℕ) → j + 2 ≤ n → Marked (side n t n x) y → link u j y ≡ link t j y
  stays y j near _ = let top = T.dim.1 in relinked_other T (le_refl n) made y j (omega arith) (omega arith)

  side_was : (y : ℕ) → Marked (side n u n x) y → Marked (side n t n x) y
  side_was = side_shrinks (on_side T x l) u stays

  as_straight : link u n x ≡ link t n x → Straight n t x → Straight n u x
  as_straight = straight_kept (on_side T x l) u stays

-- ---- sew

module _ {n : ℕ} {t : List ℕ} {d e : ℕ} (able : Sewable n t n d e) where
  abbrev sewn : List ℕ
  sewn = sew_table n t n d e

  abbrev T : MapTable n t
  T = able.left.table

  made : Relinked n t n sewn
  made = sew_relinked able

  f : Pairing n t n d e
  f = (paired_exactly able.left able.right).0 able.paired

  apart : (x : ℕ) → Marked (side n t n d) x → Marked (side n t n e) x → ⊥
  apart = sides_parted able.left able.right able.apart

  -- a dart of the one side leads to the other side, which is another one
  pub sew_straight : (x : ℕ) → live t x ≡ true → Straight n t x → Straight n (sew_table n t n d e) x
  sew_straight x l straight m = go (place (side n t n d) (side n t n e) x)
    where
      was : Marked (side n t n x) (link sewn n x)
      was = side_was T made x l (link sewn n x) m

      go : Place (side n t n d) (side n t n e) x → link sewn n x ≡ x
      go (own h) =
          let there = subst (Marked (side n t n e)) (sym (sew_there able f x h)) (f.into x h) in
          absurd (apart (link sewn n x) (side_part able.left x h (link sewn n x) was) there)
      go (other h) =
          let (y, k, q) = f.onto x h in
          let back = ap (link sewn n) (sym q) ∙ sew_back able f y k in
          absurd (apart (link sewn n x) (subst (Marked (side n t n d)) (sym back) k) (side_part able.right x h (link sewn n x) was))
      go (outside a b) =
          let top = T.dim.1 in
          as_straight T made x l (sew_rest able x a b n (omega arith)) straight m

-- ---- unsew

module _ {n : ℕ} {t : List ℕ} {d : ℕ} (on : OnSide n t n d) where
  abbrev cut : List ℕ
  cut = unsew_table n t n d

  -- a dart whose link n is made anew becomes n-free
  pub unsew_straight : (x : ℕ) → live t x ≡ true → Straight n t x → Straight n (unsew_table n t n d) x
  unsew_straight x l straight m =
      let top = on.table.dim.1 in
      let comes = (rule_at on.table x l).comes n (omega arith) in
      if_eq (get_or (side n t n d) x 0) 1 (unsew_free on x) (λ a. if_eq (get_or (side n t n d) (link t n x) 0) 1
      (λ h. ap (link cut n) (sym comes) ∙ unsew_partner on (link t n x) h ∙ comes)
      (λ b. as_straight on.table (unsew_relinked on) x l (unsew_rest on x a b n (omega arith)) straight m))
