-- The darts of a wall and their new darts, by roles: 0 is the dart itself, 1, 2 and 3 are its p, q and r. A link leads from a
-- role to a role, of the dart that a word leads to over the wall: `role_link`. The letters of such words are the links before,
-- and 4 for next.
use Prim.Native.Nat.{ℕ, zero, suc, ◌≤◌, ◌<◌}
use mathlib.Core.Path.{◌≡◌, refl, ap, ◌∙◌}
use mathlib.Core.Logic.{◌≢◌, ⊎_elim}
use mathlib.Core.Bool.{Bool, true, false, ◌&&◌, ◌||◌}
use mathlib.Core.List.Memᴰ.{cast as in-cast}
use mathlib.Core.List.{List, [], ◌∷◌, ◌++◌, Memᴰ as In}
use native.Mathlib.Omega.{arith}
use lib.ListN.{get_or}
use lib.Dec.{eqb, ltb}
use borrow.Author.Tests.{eqb-true, ne_eqb, ltb-true}
use Rattle.model.specs.Table.{link}
use Rattle.model.specs.NewDarts.{new_dart}
use Rattle.model.specs.Insert.{layer_link, laid}
use Rattle.model.specs.Meaning.Maps.{Dim}
use Rattle.model.specs.Meaning.Walls.{Wall}
use Rattle.theorems.proofs.Lists.Scan.{and_l, and_r, or_cases, if_eq, below_two, below_three, below_four}
use Rattle.theorems.proofs.Maps.Dim.{two_cases}
use Rattle.theorems.proofs.Layers.Roles.{role_dart}
use Rattle.theorems.proofs.Insert.Laid.{Laying, laid_wall, new_link_lem, laid_kept}

-- ---- words over the wall

module _ (t : List ℕ) (nx : ℕ → ℕ) where
  unfoldable pub letter : ℕ → ℕ → ℕ
  letter j x = elim (eqb j 4) [ true ↦ nx x | false ↦ link t j x ]

  unfoldable pub spell : List ℕ → ℕ → ℕ
  spell [] x = x
  spell (j ∷ w) x = spell w (letter j x)

  pub letter_next : (x : ℕ) → letter 4 x ≡ nx x
  unfolding letter
  letter_next x = refl

  pub letter_link : (j x : ℕ) → j < 4 → letter j x ≡ link t j x
  unfolding letter
  letter_link j x b = rw (ne_eqb j 4 (omega arith), letter)

  pub spell_append : (v w : List ℕ) (x : ℕ) → spell (v ++ w) x ≡ spell w (spell v x)
  unfolding spell
  spell_append [] w x = refl
  spell_append (j ∷ v) w x = spell_append v w (letter j x)

-- the letter keeps to the wall: a link below n-1, link n, or next
unfoldable pub keeps : ℕ → ℕ → Bool
keeps n j = eqb j 4 || (eqb j n || ltb (suc j) n)

unfoldable pub keeps_wall : ℕ → List ℕ → Bool
keeps_wall n [] = true
keeps_wall n (j ∷ w) = keeps n j && keeps_wall n w

module _ {n : ℕ} {t hs : List ℕ} {nx : ℕ → ℕ} (dim : Dim n) (W : Wall n t hs nx) where
  pub letter_keeps : (j x : ℕ) → keeps n j ≡ true → In x hs → In (letter t nx j x) hs
  unfolding keeps
  letter_keeps j x h i = ⊎_elim
      (λ e. in-cast (ap (λ (k : ℕ). letter t nx k x) (eqb-true j 4 e) ∙ letter_next t nx x) (W.on x i))
      (λ r. ⊎_elim
      (λ e.
      let q = eqb-true j n e in
      in-cast (letter_link t nx j x (omega arith) ∙ ap (λ (k : ℕ). link t k x) q) (W.over x i))
      (λ e.
      let b = ltb-true (suc j) n e in
      in-cast (letter_link t nx j x (omega arith)) (W.along x j (omega arith) i))
      (or_cases (eqb j n) _ r)) (or_cases (eqb j 4) _ h)

  pub spell_keeps : (w : List ℕ) (x : ℕ) → keeps_wall n w ≡ true → In x hs → In (spell t nx w x) hs
  unfolding keeps_wall spell
  spell_keeps [] x h i = i
  spell_keeps (j ∷ w) x h i =
      spell_keeps w (letter t nx j x) (and_r (keeps n j) _ h) (letter_keeps j x (and_l (keeps n j) _ h) i)

-- ---- the links by roles

-- the role that link j leads to from the role r; the rows are those of the dart itself, of p, q and r
unfoldable pub role_to : ℕ → ℕ → ℕ → ℕ
role_to n r j =
    get_or
    (get_or
    (elim (eqb n 3) [
      | true ↦ (0 ∷ 0 ∷ 0 ∷ 1 ∷ []) ∷ (1 ∷ 1 ∷ 2 ∷ 0 ∷ []) ∷ (2 ∷ 3 ∷ 1 ∷ 2 ∷ []) ∷ (3 ∷ 2 ∷ 3 ∷ 3 ∷ []) ∷ []
      | false ↦ (0 ∷ 0 ∷ 1 ∷ 0 ∷ []) ∷ (1 ∷ 2 ∷ 0 ∷ 1 ∷ []) ∷ (2 ∷ 1 ∷ 2 ∷ 2 ∷ []) ∷ []
    ]) r []) j 0

-- and the word that leads to its dart
unfoldable pub role_word : ℕ → ℕ → ℕ → List ℕ
role_word n r j =
    get_or
    (get_or
    (elim (eqb n 3) [
      | true ↦
          ((0 ∷ []) ∷ (1 ∷ []) ∷ (2 ∷ []) ∷ [] ∷ []) ∷ ((0 ∷ []) ∷ (1 ∷ []) ∷ [] ∷ [] ∷ [])
          ∷ ((0 ∷ []) ∷ [] ∷ [] ∷ (4 ∷ []) ∷ []) ∷ ((3 ∷ []) ∷ [] ∷ (1 ∷ []) ∷ (4 ∷ []) ∷ []) ∷ []
      | false ↦
          ((0 ∷ []) ∷ (1 ∷ []) ∷ [] ∷ (3 ∷ []) ∷ []) ∷ ((0 ∷ []) ∷ [] ∷ [] ∷ [] ∷ []) ∷ ((2 ∷ []) ∷ [] ∷ (4 ∷ []) ∷ [] ∷ []) ∷ []
    ]) r []) j []

module _ (t hs fs : List ℕ) (nx : ℕ → ℕ) (h : ℕ) where
  abbrev Leads : ℕ → ℕ → ℕ → Type 0
  Leads n r j =
      layer_link n t hs fs nx (new_dart n hs fs r h) h r j ≡ role_dart n hs fs (role_to n (suc r) j) (spell t nx (role_word n (suc r) j) h)

  new_leads : (n : ℕ) → Dim n → (r j : ℕ) → r < n → j < 4 → Leads n r j
  unfolding layer_link role_to role_word role_dart spell letter
  new_leads n dim = two_cases n dim (λ n. (r j : ℕ) → r < n → j < 4 → Leads n r j)
      (λ r j b l. below_two (λ r. (j : ℕ) → j < 4 → Leads 2 r j) (below_four (Leads 2 0) refl refl refl refl)
      (below_four (Leads 2 1) refl refl refl refl) r b j l)
      (λ r j b l. below_three (λ r. (j : ℕ) → j < 4 → Leads 3 r j) (below_four (Leads 3 0) refl refl refl refl)
      (below_four (Leads 3 1) refl refl refl refl) (below_four (Leads 3 2) refl refl refl refl) r b j l)

  -- the dart itself: link n leads to its p, the others stay
  Self : ℕ → ℕ → ℕ → Type 0
  Self n x j = x ≡ role_dart n hs fs (role_to n 0 j) (spell t nx (role_word n 0 j) h)

  self_leads : (n : ℕ) → Dim n → (Self n (new_dart n hs fs 0 h) n) × ((j : ℕ) → j < 4 → j ≢ n → Self n (link t j h) j)
  unfolding Self role_to role_word role_dart spell letter
  self_leads n dim = two_cases n dim (λ n. (Self n (new_dart n hs fs 0 h) n) × ((j : ℕ) → j < 4 → j ≢ n → Self n (link t j h) j))
      (refl, below_four (λ j. j ≢ 2 → Self 2 (link t j h) j) (λ _. refl) (λ _. refl) (λ q. absurd (q refl)) (λ _. refl))
      (refl, below_four (λ j. j ≢ 3 → Self 3 (link t j h) j) (λ _. refl) (λ _. refl) (λ _. refl) (λ q. absurd (q refl)))

module _ {n : ℕ} {t hs fs : List ℕ} {nx : ℕ → ℕ} (C : Laying n t hs fs nx) where
  abbrev after : List ℕ
  after = laid n t hs fs nx

  abbrev role : ℕ → ℕ → ℕ
  role = role_dart n hs fs

  pub role_link : (r h j : ℕ) → r ≤ n → In h hs → j < 4
      → link after j (role r h) ≡ role (role_to n r j) (spell t nx (role_word n r j) h)
  unfolding role_dart Self
  role_link zero h j b i low = if_eq j n
      (λ e. rw e (laid_wall C h i ∙ (self_leads t hs fs nx h n C.table.dim).0))
      (λ e. laid_kept C h j (C.wall.lives h i) low (λ q. absurd (e q)) ∙ (self_leads t hs fs nx h n C.table.dim).1 j low e)
  role_link (suc r) h j b i low = new_link_lem C r h j b i low ∙ new_leads t hs fs nx h n C.table.dim r j b low
