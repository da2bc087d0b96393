-- To sew e to d is to sew d to e. `sewable_turned`: one can be sewn if the other can; `sew_turned`: the tables are equal.
use Prim.Native.Nat.{ℕ}
use mathlib.Core.Path.{◌≡◌, refl, sym, ap, ◌∙◌, fun_ext}
use mathlib.Core.Option.{Option, none, some}
use mathlib.Core.List.{List}
use Rattle.model.specs.Table.{relink}
use Rattle.model.specs.Sew.{partners, is_paired, sewn_link, sewn, sew_table, side}
use Rattle.model.specs.Meaning.Pairings.{Sewable}
use Rattle.theorems.proofs.Sewing.Side.{side_own, sides_parted, Place, own, other, outside, place}
use Rattle.theorems.proofs.Sewing.Walked.{Both, both_flip}
use Rattle.theorems.proofs.Sewing.Pairing.{both_some}
use Rattle.theorems.proofs.Sewing.Sew.{own_link_lem, other_link, outside_link, found}

either : (a b : Option (List ℕ)) → both_some a b ≡ both_some b a
unfolding both_some
either none none = refl
either none (some q) = refl
either (some p) none = refl
either (some p) (some q) = refl

pub paired_turned : (n : ℕ) (t : List ℕ) (i d e : ℕ) → is_paired n t i d e ≡ is_paired n t i e d
unfolding is_paired both_some
paired_turned n t i d e = either (partners n t i d e) (partners n t i e d)

both_table : {n : ℕ} {t : List ℕ} {i d e : ℕ} {p q : List ℕ} → Both n t i d e p q → sew_table n t i d e ≡ relink t i (sewn_link t i p q)
unfolding sew_table sewn
both_table both = rw (both.there.found, sew_table, both.back.found)

module _ {n : ℕ} {t : List ℕ} {i d e : ℕ} (able : Sewable n t i d e) where
  pub sewable_turned : Sewable n t i e d
  sewable_turned = record {
    left = able.right;
    right = able.left;
    apart = sides_parted able.left able.right able.apart d (side_own able.left);
    free_left = able.free_right;
    free_right = able.free_left;
    paired = sym (paired_turned n t i d e) ∙ able.paired;
  }

  links_turned : {p q : List ℕ} → Both n t i d e p q → (x : ℕ) → sewn_link t i p q x ≡ sewn_link t i q p x
  links_turned {p} {q} both x = at (place (side n t i d) (side n t i e) x)
    where
      at : Place (side n t i d) (side n t i e) x → sewn_link t i p q x ≡ sewn_link t i q p x
      at (own h) = own_link_lem able both x h ∙ sym (other_link sewable_turned (both_flip both) x h)
      at (other h) = other_link able both x h ∙ sym (own_link_lem sewable_turned (both_flip both) x h)
      at (outside a b) = outside_link able both x a b ∙ sym (outside_link sewable_turned (both_flip both) x b a)

  pub sew_turned : sew_table n t i d e ≡ sew_table n t i e d
  sew_turned =
      let both = (found able).both in
      both_table both ∙ ap (relink t i) (fun_ext (links_turned both)) ∙ sym (both_table (both_flip both))
