-- sew: the table that it makes.
-- `sew_there`, `sew_back`: with any pairing f, x.i is f x and (f x).i is x for each x of d's side.
-- `sew_rest`, `sew_other`: all other entries stay. `sew_relinked`: it is a map again.
use Prim.Native.Nat.{ℕ, ◌≤◌, ◌<◌}
use mathlib.Core.Path.{◌≡◌, sym, ap, ◌∙◌}
use mathlib.Core.Logic.{◌≢◌}
use mathlib.Core.Bool.{true}
use mathlib.Core.List.{List}
use native.Mathlib.Omega.{arith}
use lib.ListN.{get_or}
use borrow.Author.Tests.{eq-eqb, ne_eqb}
use Rattle.model.specs.Table.{unused, link, live, relink}
use Rattle.model.specs.Sew.{sewn_link, sewn, sew_table, side}
use Rattle.model.specs.Meaning.Pairings.{Far, Pairing, Sewable}
use Rattle.model.specs.Meaning.Sets.{Marked}
use Rattle.theorems.proofs.Lists.Scan.{clash}
use Rattle.theorems.proofs.Maps.Rules.{Relinking, dead_link}
use Rattle.theorems.proofs.Maps.Tables.{live_below, rule_at}
use Rattle.theorems.proofs.Operations.Relink.{relink_own, relink_rest, Relinked, relinked_other}
use Rattle.theorems.proofs.Sewing.Side.{past, side_live, side_far, side_from_lem, side_over, sides_parted}
use Rattle.theorems.proofs.Sewing.Side.{Place, own, other, outside, place}
use Rattle.theorems.proofs.Sewing.Walked.{partners_real, partners_goes, partners_into, partners_none}
use Rattle.theorems.proofs.Sewing.Walked.{Both, both_flip, both_back}
use Rattle.theorems.proofs.Sewing.Pairing.{Found, paired_found, pairing_is}

-- ---- the links that are made

module _ {n : ℕ} {t : List ℕ} {i d e : ℕ} {p q : List ℕ} (able : Sewable n t i d e) (both : Both n t i d e p q) where
  pub own_link_lem : (x : ℕ) → Marked (side n t i d) x → sewn_link t i p q x ≡ get_or p x unused
  unfolding sewn_link
  own_link_lem x h = rw (ne_eqb (get_or p x unused) unused (partners_real both.there x h), sewn_link)

  pub other_link : (x : ℕ) → Marked (side n t i e) x → sewn_link t i p q x ≡ get_or q x unused
  unfolding sewn_link
  other_link x h =
      let lone = partners_none both.there x (λ m. sides_parted able.left able.right able.apart x m h) in
      rw (eq-eqb (get_or p x unused) unused lone, ne_eqb (get_or q x unused) unused (partners_real both.back x h), sewn_link)

  pub outside_link : (x : ℕ) → (Marked (side n t i d) x → ⊥) → (Marked (side n t i e) x → ⊥) → sewn_link t i p q x ≡ link t i x
  unfolding sewn_link
  outside_link x a b =
      let no_p = partners_none both.there x a in
      let no_q = partners_none both.back x b in
      rw (eq-eqb (get_or p x unused) unused no_p, eq-eqb (get_or q x unused) unused no_q, sewn_link)

  sew_change : Relinking n t i (sewn_link t i p q)
  sew_change = record {
    goes = λ x l. goes x l (at x);
    comes = λ x l. comes x l (at x);
    far = λ x j l f b. far x j l f b (at x);
    dead = λ x e. outside_link x (λ h. clash (side_live able.left x h) e) (λ h. clash (side_live able.right x h) e)
        ∙ dead_link t x e i (omega arith);
  }
    where
      new : ℕ → ℕ
      new = sewn_link t i p q

      At : ℕ → Type 0
      At = Place (side n t i d) (side n t i e)

      at : (x : ℕ) → At x
      at = place (side n t i d) (side n t i e)

      goes : (x : ℕ) → live t x ≡ true → At x → live t (new x) ≡ true
      goes x l (own h) = rw (own_link_lem x h) (side_live able.right _ (partners_into both.there x h))
      goes x l (other h) = rw (other_link x h) (side_live able.left _ (partners_into both.back x h))
      goes x l (outside a b) = rw (outside_link x a b) ((rule_at able.left.table x l).goes i (omega arith))

      comes : (x : ℕ) → live t x ≡ true → At x → new (new x) ≡ x
      comes x l (own h) = ap new (own_link_lem x h) ∙ other_link _ (partners_into both.there x h) ∙ both_back both x h
      comes x l (other h) = ap new (other_link x h) ∙ own_link_lem _ (partners_into both.back x h) ∙ both_back (both_flip both) x h
      comes x l (outside a b) = ap new (outside_link x a b)
          ∙ outside_link (link t i x) (λ m. a (side_over able.left able.free_left x m))
          (λ m. b (side_over able.right able.free_right x m))
          ∙ (rule_at able.left.table x l).comes i (omega arith)

      far : (x j : ℕ) → live t x ≡ true → Far i j → j ≤ n → At x → new (link t j x) ≡ link t j (new x)
      far x j l f b (own h) = own_link_lem (link t j x) (side_far able.left x j h f b)
          ∙ partners_goes both.there x j h f b ∙ ap (link t j) (sym (own_link_lem x h))
      far x j l f b (other h) = other_link (link t j x) (side_far able.right x j h f b)
          ∙ partners_goes both.back x j h f b ∙ ap (link t j) (sym (other_link x h))
      far x j l f b (outside u v) =
          outside_link (link t j x) (λ m. u (side_from_lem able.left x j l f b m)) (λ m. v (side_from_lem able.right x j l f b m))
          ∙ past able.left.table x l i j able.left.index b f ∙ ap (link t j) (sym (outside_link x u v))

-- ---- the table

module _ {n : ℕ} {t : List ℕ} {i d e : ℕ} (able : Sewable n t i d e) where
  pub found : Found n t i d e
  found = paired_found able.left able.right able.paired

  new : ℕ → ℕ
  new = sewn_link t i found.p found.q

  table_is : sew_table n t i d e ≡ relink t i new
  unfolding sew_table sewn new
  table_is = rw (found.both.there.found, sew_table, found.both.back.found)

  pub sew_relinked : Relinked n t i (sew_table n t i d e)
  unfolding new
  sew_relinked = record { by = new; is = table_is; change = sew_change able found.both }

  at_new : (x : ℕ) → live t x ≡ true → link (sew_table n t i d e) i x ≡ new x
  at_new x h = rw table_is (relink_own t able.left.table.whole i new x (live_below able.left.table x h) (omega arith))

  module _ (f : Pairing n t i d e) (x : ℕ) (h : Marked (side n t i d) x) where
    pub sew_there : link (sew_table n t i d e) i x ≡ f.f x
    unfolding new
    sew_there = at_new x (side_live able.left x h) ∙ own_link_lem able found.both x h ∙ pairing_is found.both f x h

    pub sew_back : link (sew_table n t i d e) i (f.f x) ≡ x
    unfolding new
    sew_back =
        let y_in = f.into x h in
        at_new (f.f x) (side_live able.right (f.f x) y_in) ∙ other_link able found.both (f.f x) y_in
        ∙ ap (λ (z : ℕ). get_or found.q z unused) (sym (pairing_is found.both f x h)) ∙ both_back found.both x h

  -- a dart outside of both sides keeps its links ..
  pub sew_rest : (x : ℕ) → (Marked (side n t i d) x → ⊥) → (Marked (side n t i e) x → ⊥)
      → (j : ℕ) → j < 4 → link (sew_table n t i d e) j x ≡ link t j x
  unfolding new
  sew_rest x a b j l = rw table_is (relink_rest t able.left.table.whole i new x (outside_link able found.both x a b) j l)

  -- .. and each dart its links of other indices
  pub sew_other : (x j : ℕ) → j < 4 → j ≢ i → link (sew_table n t i d e) j x ≡ link t j x
  sew_other = relinked_other able.left.table able.left.index sew_relinked
