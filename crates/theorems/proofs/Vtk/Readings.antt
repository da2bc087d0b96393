-- The eight readings of a face, from each of its darts, by links 0, 1, 0, .. from the first (`read_from`): those by which orders are compared.
-- Main theorems: `order_none` and `none_order` (another order: it is none of them), `order_back` (the order may be read from either).
use Prim.Native.Nat.{ℕ, zero, suc, ◌%◌, ◌<◌}
use mathlib.Core.Path.{◌≡◌, refl, sym, ap, ◌∙◌}
use mathlib.Core.Bool.{false, ◌||◌}
use mathlib.Core.List.{List, [], ◌∷◌}
use native.Mathlib.Omega.{arith}
use lib.ListN.{length}
use Rattle.model.specs.Lists.{equal}
use Rattle.model.specs.Faces.{turned, reads, same_order}
use Rattle.theorems.proofs.Lists.Scan.{test, clash, or_false, below_eight}
use Rattle.theorems.proofs.Vtk.Sites.{equal_is, equal_same, flipped}

-- from the dart to which j steps lead
unfoldable pub read_from : ℕ → List ℕ → List ℕ
read_from zero s = s
read_from (suc j) s = flipped (j % 2) (read_from j s)

reads_none : (r s : List ℕ) → reads r s ≡ false
    → (equal r s ≡ false) × (equal (turned r) s ≡ false) × (equal (turned (turned r)) s ≡ false)
    × (equal (turned (turned (turned r))) s ≡ false)
unfolding reads
reads_none r s h =
    let (h₂, e₃) = or_false (equal r s || equal (turned r) s || equal (turned (turned r)) s) _ h in
    let (h₁, e₂) = or_false (equal r s || equal (turned r) s) _ h₂ in
    let (e₀, e₁) = or_false (equal r s) _ h₁ in
    (e₀, e₁, e₂, e₃)

none_reads : (r s : List ℕ) → equal r s ≡ false → equal (turned r) s ≡ false → equal (turned (turned r)) s ≡ false
    → equal (turned (turned (turned r))) s ≡ false → reads r s ≡ false
unfolding reads
none_reads r s e₀ e₁ e₂ e₃ = rw (e₀, e₁, e₂, e₃)

module _ (a b c d : ℕ) where
  abbrev given : List ℕ
  given = a ∷ b ∷ c ∷ d ∷ []

  module _ (w : List ℕ) where
    pub order_none : same_order given w ≡ false → (i : ℕ) → i < 8 → equal (read_from i given) w ≡ false
    unfolding same_order turned read_from flipped
    order_none h =
        let (on, back) = or_false (reads given w) _ h in
        let (e₀, e₂, e₄, e₆) = reads_none given w on in
        let (e₅, e₃, e₁, e₇) = reads_none (d ∷ c ∷ b ∷ a ∷ []) w back in
        below_eight (λ i. equal (read_from i given) w ≡ false) e₀ e₁ e₂ e₃ e₄ e₅ e₆ e₇

    pub none_order : ((i : ℕ) → i < 8 → equal (read_from i given) w ≡ false) → same_order given w ≡ false
    unfolding same_order turned read_from flipped
    none_order none =
        let on = none_reads given w (none 0 (omega arith)) (none 2 (omega arith)) (none 4 (omega arith)) (none 6 (omega arith)) in
        let back = none_reads (d ∷ c ∷ b ∷ a ∷ []) w
        (none 5 (omega arith)) (none 3 (omega arith)) (none 1 (omega arith)) (none 7 (omega arith)) in
        rw (on, back)

  -- each is read back from some dart
  Back : ℕ → Type 0
  Back i = (j : ℕ) × (j < 8) × (read_from j (read_from i given) ≡ given)

  read_back : (i : ℕ) → i < 8 → Back i
  unfolding read_from flipped Back
  read_back = below_eight Back (0, omega arith, refl) (1, omega arith, refl) (6, omega arith, refl) (3, omega arith, refl)
      (4, omega arith, refl) (5, omega arith, refl) (2, omega arith, refl) (7, omega arith, refl)

-- another order is another from either
other_back : (a b c d e f g h : ℕ)
    → let r = a ∷ b ∷ c ∷ d ∷ [] in let s = e ∷ f ∷ g ∷ h ∷ [] in same_order s r ≡ false → same_order r s ≡ false
unfolding Back
other_back a b c d e f g h other =
    let r = a ∷ b ∷ c ∷ d ∷ [] in
    let s = e ∷ f ∷ g ∷ h ∷ [] in
    none_order a b c d s (λ i low. test (equal (read_from i r) s)
    (λ q.
    let (j, few, back) = read_back a b c d i low in
    let is : read_from j s ≡ r = ap (read_from j) (sym (equal_is _ _ q)) ∙ back in
    absurd (clash (rw is (equal_same r)) (order_none e f g h r other j few))) (λ q. q))

-- a list of four
pub four_list : (l : List ℕ) → length l ≡ 4 → (a : ℕ) × (b : ℕ) × (c : ℕ) × (d : ℕ) × (l ≡ a ∷ b ∷ c ∷ d ∷ [])
four_list [] h = absurd (omega arith)
four_list (a ∷ []) h = absurd (omega arith)
four_list (a ∷ b ∷ []) h = absurd (omega arith)
four_list (a ∷ b ∷ c ∷ []) h = absurd (omega arith)
four_list (a ∷ b ∷ c ∷ d ∷ []) h = (a, b, c, d, refl)
four_list (a ∷ b ∷ c ∷ d ∷ e ∷ l) h = absurd (omega arith)

pub order_back : (r s : List ℕ) → length r ≡ 4 → length s ≡ 4 → same_order r s ≡ same_order s r
order_back r s long_r long_s =
    let (a, b, c, d, is_r) = four_list r long_r in
    let (e, f, g, h, is_s) = four_list s long_s in
    rw (is_r, is_s) (test (same_order (a ∷ b ∷ c ∷ d ∷ []) (e ∷ f ∷ g ∷ h ∷ []))
    (λ q. test (same_order (e ∷ f ∷ g ∷ h ∷ []) (a ∷ b ∷ c ∷ d ∷ [])) (λ p. q ∙ sym p) (λ p. absurd (clash q (other_back a b c d e f g h p))))
    (λ q. test (same_order (e ∷ f ∷ g ∷ h ∷ []) (a ∷ b ∷ c ∷ d ∷ [])) (λ p. absurd (clash p (other_back e f g h a b c d q))) (λ p. q ∙ sym p)))
