-- sew and unsew take each other back.
-- `unsew_sew`: unsew after sew gives the old table. `sew_unsew`: so does sew after unsew, where d's partner is not in d's own
-- side, and sew accepts it (`resewable`).
use Prim.Native.Nat.{ℕ, ◌≤◌}
use mathlib.Core.Path.{◌≡◌, sym, ◌∙◌, subst}
use mathlib.Core.Logic.{◌≢◌, ⊎_elim}
use mathlib.Core.List.{List}
use native.Mathlib.Omega.{arith}
use Rattle.model.specs.Table.{link}
use Rattle.model.specs.Sew.{side, sew_table, unsew_table}
use Rattle.model.specs.Meaning.Pairings.{Far, OnSide, Pairing, Sewable}
use Rattle.model.specs.Meaning.Sets.{Marked}
use Rattle.theorems.proofs.Operations.Relink.{Relinked, relinked_slots, relinked_table, relinked_live}
use Rattle.theorems.proofs.Operations.Relink.{relinked_other, relinked_back}
use Rattle.theorems.proofs.Sewing.Side.{side_own, side_free, side_over, side_comes, side_same}
use Rattle.theorems.proofs.Sewing.Side.{Place, own, other, outside, place}
use Rattle.theorems.proofs.Sewing.Pairing.{paired_exactly, pairing_paired, pairing_same}
use Rattle.theorems.proofs.Sewing.Pairing.{partner_on, partner_over, partner_from, partner_pairing}
use Rattle.theorems.proofs.Sewing.Sew.{sew_relinked, sew_there, sew_back, sew_rest}
use Rattle.theorems.proofs.Sewing.Unsew.{unsew_relinked, unsew_free, unsew_partner, unsew_rest}

-- ---- sides are as they were, where only the links i are made anew

module _ {n : ℕ} {t u : List ℕ} {i d : ℕ} (on : OnSide n t i d) (made : Relinked n t i u) where
  far_same : (x j : ℕ) → Far i j → j ≤ n → link u j x ≡ link t j x
  far_same x j f l =
      let other : j ≢ i = ⊎_elim (λ h. λ q. omega arith) (λ h. λ q. omega arith) f in
      relinked_other on.table on.index made x j (omega arith) other

  pub relinked_side : side n u i d ≡ side n t i d
  relinked_side = side_same n t u i d (relinked_slots on.table on.index made) far_same

  relinked_on : OnSide n u i d
  relinked_on = record {
    table = relinked_table on.table on.index made;
    index = on.index;
    lives = relinked_live on.table on.index made d on.lives;
  }

-- ---- unsew after sew

module _ {n : ℕ} {t : List ℕ} {i d e : ℕ} (able : Sewable n t i d e) where
  abbrev sewn : List ℕ
  sewn = sew_table n t i d e

  abbrev back : List ℕ
  back = unsew_table n sewn i d

  still : side n sewn i d ≡ side n t i d
  still = relinked_side able.left (sew_relinked able)

  on_sewn : OnSide n sewn i d
  on_sewn = relinked_on able.left (sew_relinked able)

  own_back : (x : ℕ) → Place (side n t i d) (side n t i e) x → link back i x ≡ link t i x
  own_back x (own h) = unsew_free on_sewn x (rw still h) ∙ sym (side_free able.left able.free_left x h)
  own_back x (other h) =
      let f = (paired_exactly able.left able.right).0 able.paired in
      let r = f.onto x h in
      let there = sew_there able f r.0 r.1 ∙ r.2 in
      subst (λ (z : ℕ). link back i z ≡ z) there (unsew_partner on_sewn r.0 (rw still r.1))
      ∙ sym (side_free able.right able.free_right x h)
  own_back x (outside a b) =
      let kept = sew_rest able x a b i (omega arith) in
      unsew_rest on_sewn x (λ h. a (rw still at h))
      (λ h. a (side_over able.left able.free_left x (rw (still, kept) at h))) i (omega arith) ∙ kept

  pub unsew_sew : unsew_table n (sew_table n t i d e) i d ≡ t
  unsew_sew = relinked_back able.left.table able.left.index (sew_relinked able) (unsew_relinked on_sewn)
      (λ x. own_back x (place (side n t i d) (side n t i e) x))

-- ---- sew after unsew

module _ {n : ℕ} {t : List ℕ} {i d : ℕ} (on : OnSide n t i d) (apart : Marked (side n t i d) (link t i d) → ⊥) where
  abbrev cut : List ℕ
  cut = unsew_table n t i d

  own_same : side n cut i d ≡ side n t i d
  own_same = relinked_side on (unsew_relinked on)

  other_same : side n cut i (link t i d) ≡ side n t i (link t i d)
  other_same = relinked_side (partner_on on) (unsew_relinked on)

  -- the links that were cut pair the sides
  cut_pairing : Pairing n cut i d (link t i d)
  cut_pairing = pairing_same n t cut i d (link t i d) (relinked_slots on.table on.index (unsew_relinked on))
      (far_same on (unsew_relinked on)) (partner_pairing on)

  pub resewable : Sewable n (unsew_table n t i d) i d (link t i d)
  resewable = record {
    left = left;
    right = right;
    apart = λ h. apart (rw own_same at h);
    free_left = unsew_free on d (side_own on);
    free_right = unsew_partner on d (side_own on);
    paired = pairing_paired left right cut_pairing;
  }
    where
      left : OnSide n cut i d
      left = relinked_on on (unsew_relinked on)

      right : OnSide n cut i (link t i d)
      right = relinked_on (partner_on on) (unsew_relinked on)

  abbrev again : List ℕ
  again = sew_table n cut i d (link t i d)

  own_again : (x : ℕ) → Place (side n t i d) (side n t i (link t i d)) x → link again i x ≡ link t i x
  unfolding cut_pairing pairing_same partner_pairing
  own_again x (own h) = sew_there resewable cut_pairing x (rw own_same h)
  own_again x (other h) =
      subst (λ (z : ℕ). link again i z ≡ link t i x) (side_comes (partner_on on) x h i on.index)
      (sew_back resewable cut_pairing (link t i x) (rw own_same (partner_from on x h)))
  own_again x (outside a b) =
      sew_rest resewable x (λ h. a (rw own_same at h)) (λ h. b (rw other_same at h)) i (omega arith)
      ∙ unsew_rest on x a (λ h. b (partner_over on x h)) i (omega arith)

  pub sew_unsew : sew_table n (unsew_table n t i d) i d (link t i d) ≡ t
  sew_unsew = relinked_back on.table on.index (unsew_relinked on) (sew_relinked resewable)
      (λ x. own_again x (place (side n t i d) (side n t i (link t i d)) x))
