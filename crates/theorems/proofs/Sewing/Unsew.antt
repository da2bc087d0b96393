-- unsew: the table that it makes.
-- `unsew_free`, `unsew_partner`: each dart of d's side and its partner become i-free.
-- `unsew_rest`, `unsew_other`: all other entries stay. `unsew_relinked`: it is a map again.
use Prim.Native.Nat.{ℕ, ◌≤◌, ◌<◌}
use mathlib.Core.Path.{◌≡◌, refl, sym, ap, ◌∙◌}
use mathlib.Core.Logic.{◌⊎◌, inl, inr, ◌≢◌, ⊎_elim}
use mathlib.Core.Bool.{true, or-true}
use mathlib.Core.List.{List}
use native.Mathlib.Omega.{arith}
use lib.ListN.{get_or}
use lib.Dec.{eqb}
use borrow.Author.Tests.{eq-eqb, ne_eqb}
use Rattle.model.specs.Table.{link, live, relink}
use Rattle.model.specs.Reach.{in_set}
use Rattle.model.specs.Sew.{side, unsews, unsewn_link, unsewn, unsew_table}
use Rattle.model.specs.Meaning.Pairings.{Far, OnSide}
use Rattle.model.specs.Meaning.Sets.{Marked}
use Rattle.theorems.proofs.Lists.Scan.{clash, if_eq}
use Rattle.theorems.proofs.Maps.Rules.{Relinking, dead_link}
use Rattle.theorems.proofs.Maps.Tables.{live_below, rule_at}
use Rattle.theorems.proofs.Operations.Relink.{relink_own, relink_rest, Relinked, relinked_other}
use Rattle.theorems.proofs.Sewing.Side.{past, live_before, side_live, side_far, side_comes}

module _ {n : ℕ} {t : List ℕ} {i d : ℕ} (on : OnSide n t i d) where
  abbrev new : ℕ → ℕ
  new = unsewn_link t i (side n t i d)

  -- ---- the darts that become free

  -- x or its partner is in the side
  abbrev Unsewn : ℕ → Type 0
  Unsewn x = Marked (side n t i d) x ⊎ Marked (side n t i d) (link t i x)

  if_unsewn : {P : Type 0} (x : ℕ) → (Unsewn x → P) → ((Unsewn x → ⊥) → P) → P
  if_unsewn x f g = if_eq (get_or (side n t i d) x 0) 1 (λ h. f (inl h))
      (λ a. if_eq (get_or (side n t i d) (link t i x) 0) 1 (λ h. f (inr h)) (λ b. g (⊎_elim a b)))

  unsewn_far : (x j : ℕ) → live t x ≡ true → Far i j → j ≤ n → Unsewn x → Unsewn (link t j x)
  unsewn_far x j lives f l (inl h) = inl (side_far on x j h f l)
  unsewn_far x j lives f l (inr h) = inr (rw (past on.table x lives i j on.index l f) (side_far on (link t i x) j h f l))

  unsewn_from : (x j : ℕ) → live t x ≡ true → Far i j → j ≤ n → Unsewn (link t j x) → Unsewn x
  unsewn_from x j lives f l c =
      let r = rule_at on.table x lives in
      rw (r.comes j (omega arith)) at (unsewn_far (link t j x) j (r.goes j (omega arith)) f l c)

  unsewn_over : (x : ℕ) → live t x ≡ true → Unsewn (link t i x) → Unsewn x
  unsewn_over x lives (inl h) = inr h
  unsewn_over x lives (inr h) = inl (rw ((rule_at on.table x lives).comes i (omega arith)) at h)

  unsewn_live : (x : ℕ) → Unsewn x → live t x ≡ true
  unsewn_live x (inl h) = side_live on x h
  unsewn_live x (inr h) = live_before on.table x i (omega arith) (side_live on (link t i x) h)

  -- ---- the links that are made

  unsewn_link_lem : (x : ℕ) → Unsewn x → new x ≡ x
  unfolding unsewn_link unsews in_set
  unsewn_link_lem x (inl h) = rw (eq-eqb (get_or (side n t i d) x 0) 1 h, unsewn_link)
  unsewn_link_lem x (inr h) = rw (eq-eqb (get_or (side n t i d) (link t i x) 0) 1 h, or-true (eqb (get_or (side n t i d) x 0) 1), unsewn_link)

  kept_link : (x : ℕ) → (Unsewn x → ⊥) → new x ≡ link t i x
  unfolding unsewn_link unsews in_set
  kept_link x c =
      let no_x = ne_eqb (get_or (side n t i d) x 0) 1 (λ h. c (inl h)) in
      let no_partner = ne_eqb (get_or (side n t i d) (link t i x) 0) 1 (λ h. c (inr h)) in
      rw (no_x, no_partner, unsewn_link)

  unsew_change : Relinking n t i new
  unsew_change = record {
    goes = λ x l. if_unsewn x (λ c. rw (unsewn_link_lem x c) l) (λ c. rw (kept_link x c) ((rule_at on.table x l).goes i (omega arith)));
    comes = λ x l. if_unsewn x
        (λ c. ap new (unsewn_link_lem x c) ∙ unsewn_link_lem x c)
        (λ c. ap new (kept_link x c) ∙ kept_link (link t i x) (λ k. c (unsewn_over x l k))
        ∙ (rule_at on.table x l).comes i (omega arith));
    far = λ x j l f b. if_unsewn x
        (λ c. unsewn_link_lem (link t j x) (unsewn_far x j l f b c) ∙ ap (link t j) (sym (unsewn_link_lem x c)))
        (λ c. kept_link (link t j x) (λ k. c (unsewn_from x j l f b k)) ∙ past on.table x l i j on.index b f
        ∙ ap (link t j) (sym (kept_link x c)));
    dead = λ x e. kept_link x (λ c. clash (unsewn_live x c) e) ∙ dead_link t x e i (omega arith);
  }

  -- ---- the table

  table_is : unsew_table n t i d ≡ relink t i new
  unfolding unsew_table unsewn
  table_is = refl

  pub unsew_relinked : Relinked n t i (unsew_table n t i d)
  unsew_relinked = record { by = new; is = table_is; change = unsew_change }

  at_unsewn : (x : ℕ) → Unsewn x → link (unsew_table n t i d) i x ≡ x
  at_unsewn x c =
      let low = live_below on.table x (unsewn_live x c) in
      rw table_is (relink_own t on.table.whole i new x low (omega arith) ∙ unsewn_link_lem x c)

  pub unsew_free : (x : ℕ) → Marked (side n t i d) x → link (unsew_table n t i d) i x ≡ x
  unsew_free x h = at_unsewn x (inl h)

  pub unsew_partner : (x : ℕ) → Marked (side n t i d) x → link (unsew_table n t i d) i (link t i x) ≡ link t i x
  unsew_partner x h = at_unsewn (link t i x) (inr (rw (side_comes on x h i on.index) h))

  -- a dart keeps its links where neither it nor its partner is in the side ..
  pub unsew_rest : (x : ℕ) → (Marked (side n t i d) x → ⊥) → (Marked (side n t i d) (link t i x) → ⊥)
      → (j : ℕ) → j < 4 → link (unsew_table n t i d) j x ≡ link t j x
  unsew_rest x a b j l = rw table_is (relink_rest t on.table.whole i new x (kept_link x (⊎_elim a b)) j l)

  -- .. and each dart its links of other indices
  pub unsew_other : (x j : ℕ) → j < 4 → j ≢ i → link (unsew_table n t i d) j x ≡ link t j x
  unsew_other = relinked_other on.table on.index unsew_relinked
