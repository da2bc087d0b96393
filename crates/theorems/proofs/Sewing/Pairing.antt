-- Pairings.
-- `paired_exactly`: both walks succeed exactly if a pairing exists. `pairing_one`: there is one at most.
-- `partner_pairing`: the links i pair each side with the side of its partners.
use Prim.Native.Nat.{ℕ, ◌≤◌}
use mathlib.Core.Path.{◌≡◌, refl, sym, ap, ◌∙◌, subst}
use mathlib.Core.Logic.{◌↔◌}
use mathlib.Core.Bool.{Bool, true, false}
use mathlib.Core.Option.{Option, none, some}
use mathlib.Core.List.{List}
use native.Mathlib.Omega.{arith}
use lib.ListN.{get_or}
use Rattle.model.specs.Table.{unused, slots, link}
use Rattle.model.specs.Sew.{partners, is_paired, side}
use Rattle.model.specs.Meaning.Pairings.{Far, OnSide, Pairing}
use Rattle.model.specs.Meaning.Sets.{Marked}
use Rattle.theorems.proofs.Lists.Scan.{clash}
use Rattle.theorems.proofs.Maps.Tables.{rule_at}
use Rattle.theorems.proofs.Sewing.Side.{live_before, side_live, side_own, side_far, side_comes, side_past}
use Rattle.theorems.proofs.Sewing.Side.{side_all, side_same}
use Rattle.theorems.proofs.Sewing.Walked.{partners_some, partners_start, partners_goes, partners_into}
use Rattle.theorems.proofs.Sewing.Walked.{Both, both_flip, both_back}

module _ {n : ℕ} {t : List ℕ} {i d e : ℕ} (left : OnSide n t i d) where
  -- two pairings agree on d's side
  pub pairing_one : (f g : Pairing n t i d e) (x : ℕ) → Marked (side n t i d) x → f.f x ≡ g.f x
  pairing_one f g = side_all left (λ x. f.f x ≡ g.f x)
      (λ x j h far l same. f.goes x j h far l ∙ ap (link t j) same ∙ sym (g.goes x j h far l)) (f.start ∙ sym g.start)

-- ---- both walks succeed exactly if a pairing exists

-- the partners that both walks find
pub record Found (n : ℕ) (t : List ℕ) (i d e : ℕ) : Type 0 where
  pub p : List ℕ
  pub q : List ℕ
  pub both : Both n t i d e p q

both_pairing : {n : ℕ} {t : List ℕ} {i d e : ℕ} {p q : List ℕ} → Both n t i d e p q → Pairing n t i d e
both_pairing {p = p} {q = q} both = record {
  f = λ x. get_or p x unused;
  start = partners_start both.there;
  goes = partners_goes both.there;
  one = λ x y h k same. sym (both_back both x h) ∙ ap (λ (z : ℕ). get_or q z unused) same ∙ both_back both y k;
  into = partners_into both.there;
  onto = λ y h. (get_or q y unused, partners_into both.back y h, both_back (both_flip both) y h);
}

-- any pairing is that of the walks
pub pairing_is : {n : ℕ} {t : List ℕ} {i d e : ℕ} {p q : List ℕ} → Both n t i d e p q → (f : Pairing n t i d e)
    → (x : ℕ) → Marked (side n t i d) x → get_or p x unused ≡ f.f x
unfolding both_pairing
pairing_is both f = pairing_one both.there.left (both_pairing both) f

-- the test, of what the two walks give
unfoldable pub both_some : Option (List ℕ) → Option (List ℕ) → Bool
both_some a b = elim a [ none ↦ false | some p ↦ (elim b [ none ↦ false | some q ↦ true ]) ]

module _ {n : ℕ} {t : List ℕ} {i d e : ℕ} (left : OnSide n t i d) (right : OnSide n t i e) where
  pub paired_found : is_paired n t i d e ≡ true → Found n t i d e
  unfolding is_paired both_some
  paired_found = go (partners n t i d e) (partners n t i e d) refl refl
    where
      go : (a b : Option (List ℕ)) → partners n t i d e ≡ a → partners n t i e d ≡ b → both_some a b ≡ true → Found n t i d e
      go none b x y h = absurd (clash h refl)
      go (some p) none x y h = absurd (clash h refl)
      go (some p) (some q) x y h = record {
        p = p;
        q = q;
        both = record {
          there = record { left = left; right = right; found = x };
          back = record { left = right; right = left; found = y };
        };
      }

  pub pairing_paired : Pairing n t i d e → is_paired n t i d e ≡ true
  unfolding is_paired both_some
  pairing_paired f = go (partners n t i d e) (partners n t i e d)
      (partners_some n t i d e (λ x y. Is x y) goes (side_own left, sym f.start) (λ x y z h k. h.1 ∙ sym k.1))
      (partners_some n t i e d (λ y x. Is x y) (λ y x. goes x y) (side_own left, sym f.start)
      (λ y x z h k. f.one x z h.0 k.0 (sym h.1 ∙ k.1)))
    where
      Is : ℕ → ℕ → Type 0
      Is x y = Marked (side n t i d) x × (y ≡ f.f x)

      goes : (x y j : ℕ) → Is x y → Far i j → j ≤ n → Is (link t j x) (link t j y)
      goes x y j h far l = (side_far left x j h.0 far l, ap (link t j) h.1 ∙ sym (f.goes x j h.0 far l))

      go : (a b : Option (List ℕ)) → (a ≡ none → ⊥) → (b ≡ none → ⊥) → both_some a b ≡ true
      go none b x y = absurd (x refl)
      go (some p) none x y = absurd (y refl)
      go (some p) (some q) x y = refl

  pub paired_exactly : (is_paired n t i d e ≡ true) ↔ Pairing n t i d e
  paired_exactly = (λ h. both_pairing (paired_found h).both, pairing_paired)

-- ---- a side and the side of its partners

module _ {n : ℕ} {t : List ℕ} {i d : ℕ} (on : OnSide n t i d) where
  pub partner_on : OnSide n t i (link t i d)
  partner_on = record { table = on.table; index = on.index; lives = (rule_at on.table d on.lives).goes i (omega arith) }

  pub partner_into : (x : ℕ) → Marked (side n t i d) x → Marked (side n t i (link t i d)) (link t i x)
  partner_into = side_all on (λ x. Marked (side n t i (link t i d)) (link t i x))
      (λ x j h f l m. rw (side_past on x h j f l) (side_far partner_on (link t i x) j m f l)) (side_own partner_on)

  -- a dart is in the partner's side if its partner is in d's side ..
  pub partner_over : (x : ℕ) → Marked (side n t i d) (link t i x) → Marked (side n t i (link t i d)) x
  partner_over x h =
      let lives = live_before on.table x i (omega arith) (side_live on (link t i x) h) in
      subst (Marked (side n t i (link t i d))) ((rule_at on.table x lives).comes i (omega arith)) (partner_into (link t i x) h)

module _ {n : ℕ} {t : List ℕ} {i d : ℕ} (on : OnSide n t i d) where
  -- .. and only then
  pub partner_from : (x : ℕ) → Marked (side n t i (link t i d)) x → Marked (side n t i d) (link t i x)
  partner_from x h = subst (λ (z : ℕ). Marked (side n t i z) (link t i x)) (side_comes on d (side_own on) i on.index)
      (partner_into (partner_on on) x h)

  unfoldable pub partner_pairing : Pairing n t i d (link t i d)
  partner_pairing = record {
    f = link t i;
    start = refl;
    goes = λ x j h f l. side_past on x h j f l;
    one = λ x y h k same. sym (side_comes on x h i on.index) ∙ ap (link t i) same ∙ side_comes on y k i on.index;
    into = partner_into on;
    onto = λ y h. (link t i y, partner_from y h, side_comes (partner_on on) y h i on.index);
  }

-- ---- where the far links are the same, the pairings are

unfoldable pub pairing_same : (n : ℕ) (t u : List ℕ) (i d e : ℕ) → slots u ≡ slots t
    → ((x j : ℕ) → Far i j → j ≤ n → link u j x ≡ link t j x) → Pairing n t i d e → Pairing n u i d e
pairing_same n t u i d e size same old = record {
  f = old.f;
  start = old.start;
  goes = λ x j h f l. rw (same x j f l, same (old.f x) j f l) (old.goes x j (rw left at h) f l);
  one = λ x y h k. old.one x y (rw left at h) (rw left at k);
  into = λ x h. rw right (old.into x (rw left at h));
  onto = λ y h. let r = old.onto y (rw right at h) in (r.0, rw left r.1, r.2);
}
  where
    left : side n u i d ≡ side n t i d
    left = side_same n t u i d size same

    right : side n u i e ≡ side n t i e
    right = side_same n t u i e size same
