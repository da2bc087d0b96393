-- The counts of sew and unsew are sizes.
-- `sew_changes`: sew changes two entries for each dart of d's side; link i of each dart of the two sides (`own_moved`, `other_moved`).
-- `unsew_changes`: so does unsew, where d's partner is not in d's own side; else, one for each: `unsew_changes_folded`.
use Prim.Native.Nat.{ℕ, ◌+◌, ◌*◌}
use mathlib.Core.Path.{◌≡◌, sym, ap, ◌∙◌, subst}
use mathlib.Core.Logic.{◌≢◌, ⊎_elim}
use mathlib.Core.List.{List}
use native.Mathlib.Omega.{arith}
use lib.ListN.{length, get_or}
use Rattle.model.specs.Lists.{count}
use Rattle.model.specs.Table.{link}
use Rattle.model.specs.Journal.{changes_from}
use Rattle.model.specs.Sew.{side, sew_table, unsew_table}
use Rattle.model.specs.Meaning.Pairings.{OnSide, Pairing, Sewable}
use Rattle.model.specs.Meaning.Sets.{Marked}
use Rattle.theorems.proofs.Lists.Scan.{if_eq}
use Rattle.theorems.proofs.Sets.Sizes.{size_into, size_onto}
use Rattle.theorems.proofs.Operations.Relink.{relinked_long}
use Rattle.theorems.proofs.Operations.Changes.{changed_links, changes_size, changed_one, changed_none, changes_turn}
use Rattle.theorems.proofs.Sewing.Side.{side_least, side_far, side_all, side_free, side_free_back, sides_parted}
use Rattle.theorems.proofs.Sewing.Side.{Place, own, other, outside, place}
use Rattle.theorems.proofs.Sewing.Pairing.{paired_exactly, partner_on, partner_over}
use Rattle.theorems.proofs.Sewing.Sew.{sew_relinked, sew_there, sew_back, sew_rest, sew_other}
use Rattle.theorems.proofs.Sewing.Unsew.{unsew_relinked, unsew_free, unsew_rest, unsew_other}
use Rattle.theorems.proofs.Sewing.Inverse.{relinked_side, resewable, sew_unsew}

-- sides with a pairing are of one size
pub pairing_size : {n : ℕ} {t : List ℕ} {i d e : ℕ} → Pairing n t i d e → count 1 (side n t i e) ≡ count 1 (side n t i d)
pairing_size {n} {t} {i} {d} {e} f =
    let less = size_onto f.f (side n t i d) (side n t i e) f.onto in
    let more = size_into f.f (side n t i d) (side n t i e) f.one f.into in
    omega arith

unmarked : (n : ℕ) (t : List ℕ) (i d x : ℕ) → (Marked (side n t i d) x → ⊥) → get_or (side n t i d) x 0 ≡ 0
unmarked n t i d x out = ⊎_elim (λ e. e) (λ e. absurd (out e)) ((side_least n t i d).bits x)

-- ---- sew

module _ {n : ℕ} {t : List ℕ} {i d e : ℕ} (able : Sewable n t i d e) where
  abbrev made : List ℕ
  made = sew_table n t i d e

  pairing : Pairing n t i d e
  pairing = (paired_exactly able.left able.right).0 able.paired

  parted : (x : ℕ) → Marked (side n t i d) x → Marked (side n t i e) x → ⊥
  parted = sides_parted able.left able.right able.apart

  -- each dart of the two sides changes, since it was free and is linked to the other side
  pub own_moved : (x : ℕ) → Marked (side n t i d) x → link t i x ≢ link made i x
  own_moved x h q =
      let free = side_free able.left able.free_left x h in
      parted x h (rw (sym (sew_there able pairing x h) ∙ sym q ∙ free) at (pairing.into x h))

  pub other_moved : (x : ℕ) → Marked (side n t i e) x → link t i x ≢ link made i x
  other_moved x h q =
      let r = pairing.onto x h in
      let free = side_free able.right able.free_right x h in
      let back = subst (λ (z : ℕ). link made i z ≡ r.0) r.2 (sew_back able pairing r.0 r.1) in
      parted x (rw (sym back ∙ sym q ∙ free) at r.1) h

  sew_slot : (x : ℕ) → Place (side n t i d) (side n t i e) x
      → changed_links t made x ≡ 1 * get_or (side n t i d) x 0 + 1 * get_or (side n t i e) x 0
  sew_slot x (own h) =
      let one = changed_one t made x i (omega arith) (own_moved x h) (sew_other able x) in
      let no_e = unmarked n t i e x (parted x h) in
      omega arith
  sew_slot x (other h) =
      let one = changed_one t made x i (omega arith) (other_moved x h) (sew_other able x) in
      let no_d = unmarked n t i d x (λ m. parted x m h) in
      omega arith
  sew_slot x (outside a b) =
      let none = changed_none t made x (sew_rest able x a b) in
      let no_d = unmarked n t i d x a in
      let no_e = unmarked n t i e x b in
      omega arith

  pub sew_changes : length (changes_from 0 t (sew_table n t i d e)) ≡ 2 * count 1 (side n t i d)
  sew_changes =
      let T = able.left.table in
      let left = side_least n t i d in
      let right = side_least n t i e in
      let long = relinked_long T able.left.index (sew_relinked able) in
      let size = changes_size t made T.whole long 1 1 (side n t i d) (side n t i e) left.long right.long
      left.bits right.bits (λ x _. sew_slot x (place (side n t i d) (side n t i e) x)) in
      let same = pairing_size pairing in
      omega arith

-- ---- unsew

module _ {n : ℕ} {t : List ℕ} {i d : ℕ} (on : OnSide n t i d) where
  abbrev cut : List ℕ
  cut = unsew_table n t i d

  -- sew would change back as many
  pub unsew_changes : (Marked (side n t i d) (link t i d) → ⊥)
      → length (changes_from 0 t (unsew_table n t i d)) ≡ 2 * count 1 (side n t i d)
  unsew_changes apart = changes_turn 0 t cut ∙ ap (λ (u : List ℕ). length (changes_from 0 cut u)) (sym (sew_unsew on apart))
      ∙ sew_changes (resewable on apart) ∙ ap (λ (s : List ℕ). 2 * count 1 s) (relinked_side on (unsew_relinked on))

  module _ (sewn : link t i d ≢ d) (folded : Marked (side n t i d) (link t i d)) where
    -- the partner's side is d's own
    fold : (x : ℕ) → Marked (side n t i (link t i d)) x → Marked (side n t i d) x
    fold = side_all (partner_on on) (Marked (side n t i d)) (λ x j _ f l h. side_far on x j h f l) folded

    folded_slot : (x : ℕ) → changed_links t cut x ≡ 1 * get_or (side n t i d) x 0 + 0 * get_or (side n t i d) x 0
    folded_slot x = if_eq (get_or (side n t i d) x 0) 1
        (λ h.
        let moved : link t i x ≢ link cut i x = λ q. sewn (side_free_back on x h (q ∙ unsew_free on x h)) in
        let one = changed_one t cut x i (omega arith) moved (unsew_other on x) in
        omega arith)
        (λ h.
        let none = changed_none t cut x (unsew_rest on x h (λ m. h (fold x (partner_over on x m)))) in
        let off = unmarked n t i d x h in
        omega arith)

    pub unsew_changes_folded : length (changes_from 0 t (unsew_table n t i d)) ≡ count 1 (side n t i d)
    unsew_changes_folded =
        let T = on.table in
        let least = side_least n t i d in
        let long = relinked_long T on.index (unsew_relinked on) in
        let size = changes_size t cut T.whole long 1 0 (side n t i d) (side n t i d) least.long least.long
        least.bits least.bits (λ x _. folded_slot x) in
        omega arith
