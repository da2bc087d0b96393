-- The darts of a sheet and their new darts, by roles: 0 is the dart itself, 1, 2 and 3 are its a, b and c. A link leads
-- from a role to a role, of the dart that a word of the links before leads to: `role_link`.
use Prim.Native.Nat.{ℕ, zero, suc, ◌≤◌, ◌<◌}
use mathlib.Core.Path.{◌≡◌, refl, sym, ap, ◌∙◌}
use mathlib.Core.Logic.{◌≢◌, ⊎_elim}
use mathlib.Core.Bool.{Bool, true, false, not, ◌&&◌, ◌||◌}
use mathlib.Core.List.Memᴰ.{cast as in-cast}
use mathlib.Core.List.{List, [], ◌∷◌, Memᴰ as In}
use native.Mathlib.Omega.{arith}
use lib.ListN.{get_or}
use lib.Dec.{eqb, ltb}
use borrow.Author.Tests.{eqb-false, eq-eqb, ne_eqb, ltb-true, not-true}
use Rattle.model.specs.Table.{link, walk}
use Rattle.model.specs.NewDarts.{new_dart}
use Rattle.model.specs.Split.{new_dart_link, split_by}
use Rattle.model.specs.Meaning.Maps.{BlockTable, Rule}
use Rattle.model.specs.Meaning.Sheets.{Sheet}
use Rattle.model.specs.Meaning.Splits.{Splitting}
use Rattle.theorems.proofs.Lists.Scan.{and_l, and_r, or_cases, if_eq, below_three, below_four}
use Rattle.theorems.proofs.Maps.Tables.{map_table, rule_at}
use Rattle.theorems.proofs.Cells.Places.{same, same_eq}
use Rattle.theorems.proofs.Layers.Roles.{role_dart}
use Rattle.theorems.proofs.Layers.Splitting.{split_dart_link, new_link_lem, split_kept}

-- the opposite edge
abbrev pub opposed : List ℕ
opposed = 1 ∷ 0 ∷ 1 ∷ []

-- the role that link j leads to from the role r; the rows are those of the dart itself, of a, b and c
unfoldable pub role_to : ℕ → ℕ → ℕ → ℕ
role_to n r j =
    get_or
    (get_or
    ((1 ∷ 0 ∷ 0 ∷ 0 ∷ [])
    ∷ (0 ∷ 2 ∷ 1 ∷ 1 ∷ [])
    ∷ (2 ∷ 1 ∷ elim (eqb n 3) [ true ↦ 3 | false ↦ 2 ] ∷ 2 ∷ [])
    ∷ (3 ∷ 3 ∷ 2 ∷ 3 ∷ [])
    ∷ []) r []) j 0

-- and the word that leads to its dart
unfoldable pub role_word : ℕ → ℕ → ℕ → List ℕ
role_word n r j =
    get_or
    (get_or
    (([] ∷ (1 ∷ []) ∷ (2 ∷ []) ∷ (3 ∷ []) ∷ [])
    ∷ ([] ∷ [] ∷ (2 ∷ []) ∷ (3 ∷ []) ∷ [])
    ∷ (opposed ∷ [] ∷ elim (eqb n 3) [ true ↦ [] | false ↦ 0 ∷ [] ] ∷ (3 ∷ []) ∷ [])
    ∷ (opposed ∷ (2 ∷ []) ∷ [] ∷ (0 ∷ []) ∷ [])
    ∷ []) r []) j []

-- ---- words that keep to a sheet: of 1.0.1, and of links other than 1

onward : ℕ → Bool
onward i = ltb i 4 && not (eqb i 1)

unfoldable pub keeps_sheet : List ℕ → Bool
unfolding onward
keeps_sheet [] = true
keeps_sheet (i ∷ []) = onward i
keeps_sheet (i ∷ j ∷ []) = onward i && onward j
keeps_sheet (i ∷ j ∷ k ∷ w) = (same (i ∷ j ∷ k ∷ []) opposed && keeps_sheet w) || (onward i && keeps_sheet (j ∷ k ∷ w))

module _ {n : ℕ} {t gs : List ℕ} (B : BlockTable n t) (S : Sheet n t gs) where
  pub sheet_rule : (x : ℕ) → In x gs → Rule n t x
  sheet_rule x i = rule_at (map_table B) x (S.lives x i)

  sheet_link : (x j : ℕ) → j < 4 → j ≢ 1 → In x gs → In (link t j x) gs
  sheet_link x j b e i =
      let two = B.dim.0 in
      below_four (λ j. j ≢ 1 → In (link t j x) gs)
      (λ _. S.along x i) (λ q. absurd (q refl)) (λ _. S.far x 2 (omega arith) two i)
      (λ _. if_eq n 2 (λ p. in-cast ((sheet_rule x i).plane p) i) (λ p. S.far x 3 (omega arith) (omega arith) i)) j b e

  sheet_onward : (x j : ℕ) → onward j ≡ true → In x gs → In (link t j x) gs
  unfolding onward
  sheet_onward x j h = sheet_link x j (ltb-true j 4 (and_l (ltb j 4) _ h)) (eqb-false j 1 (not-true _ (and_r (ltb j 4) _ h)))

  pub sheet_walk : (w : List ℕ) (x : ℕ) → keeps_sheet w ≡ true → In x gs → In (walk t w x) gs
  unfolding keeps_sheet walk
  sheet_walk [] x h m = m
  sheet_walk (i ∷ []) x h m = sheet_onward x i h m
  sheet_walk (i ∷ j ∷ []) x h m = sheet_onward (link t i x) j (and_r (onward i) _ h) (sheet_onward x i (and_l (onward i) _ h) m)
  sheet_walk (i ∷ j ∷ k ∷ w) x h m =
      let turned = sheet_walk w (walk t (i ∷ j ∷ k ∷ []) x) in
      let straight = sheet_walk (j ∷ k ∷ w) (link t i x) in
      let turns = same (i ∷ j ∷ k ∷ []) opposed in
      let turn : turns ≡ true → walk t (i ∷ j ∷ k ∷ []) x ≡ walk t opposed x
      = λ q. ap (λ (v : List ℕ). walk t v x) (same_eq (i ∷ j ∷ k ∷ []) opposed q) in
      ⊎_elim
      (λ p. turned (and_r turns _ p) (in-cast (turn (and_l turns _ p)) (S.over x m)))
      (λ p. straight (and_r (onward i) _ p) (sheet_onward x i (and_l (onward i) _ p) m)) (or_cases (turns && keeps_sheet w) _ h)

-- ---- the links by roles

module _ (n : ℕ) (t gs fs : List ℕ) (g : ℕ) where
  abbrev Leads : ℕ → ℕ → Type 0
  Leads r j =
      new_dart_link n t gs fs (new_dart n gs fs r g) g r j ≡ role_dart n gs fs (role_to n (suc r) j) (walk t (role_word n (suc r) j) g)

  new_leads : n ≤ 3 → (n ≢ 3 → link t 3 g ≡ g) → (r j : ℕ) → r < n → j < 4 → Leads r j
  unfolding new_dart_link role_to role_word role_dart walk
  new_leads top flat r j b h = below_three (λ r. (j : ℕ) → j < 4 → Leads r j)
      (below_four (Leads 0) refl refl refl (self 0)) (below_four (Leads 1) refl refl across (self 1))
      (below_four (Leads 2) refl refl refl refl) r (omega arith) j h
    where
      -- for n = 2 the dart itself, which is the new dart of g.3
      self : (r : ℕ) → (elim (eqb n 3) [ true ↦ new_dart n gs fs r (link t 3 g) | false ↦ new_dart n gs fs r g ])
          ≡ new_dart n gs fs r (link t 3 g)
      self r = if_eq n 3 (λ e. rw (eq-eqb n 3 e)) (λ e. rw (ne_eqb n 3 e) (ap (new_dart n gs fs r) (sym (flat e))))

      across : Leads 1 2
      across = if_eq n 3 (λ e. rw (eq-eqb n 3 e)) (λ e. rw (ne_eqb n 3 e))

module _ {n : ℕ} {t gs fs : List ℕ} (C : Splitting n t gs fs) where
  abbrev after : List ℕ
  after = split_by n t gs fs

  abbrev role : ℕ → ℕ → ℕ
  role = role_dart n gs fs

  pub role_link : (r g j : ℕ) → r ≤ n → In g gs → j < 4
      → link after j (role r g) ≡ role (role_to n r j) (walk t (role_word n r j) g)
  unfolding role_dart role_to role_word walk
  role_link zero g j b i h = below_four (λ j. link after j g ≡ role (role_to n 0 j) (walk t (role_word n 0 j) g))
      (split_dart_link C g i) (kept 1 (omega arith) (omega arith)) (kept 2 (omega arith) (omega arith))
      (kept 3 (omega arith) (omega arith)) j h
    where
      kept : (j : ℕ) → j < 4 → j ≢ 0 → link after j g ≡ link t j g
      kept j h e = split_kept C g j (C.sheet.lives g i) h (λ z. absurd (e z))
  role_link (suc r) g j b i h = new_link_lem C r g j b i h ∙ new_leads n t gs fs g C.table.dim.1 plane r j b h
    where
      plane : n ≢ 3 → link t 3 g ≡ g
      plane e = let dim = C.table.dim in (sheet_rule C.table C.sheet g i).plane (omega arith)

  -- for n = 2 link 3 is the dart itself
  pub role_plane : (r g : ℕ) → n ≡ 2 → r ≤ n → In g gs → link after 3 (role r g) ≡ role r g
  unfolding role_dart role_to role_word walk
  role_plane r g p b i =
      role_link r g 3 b i (omega arith) ∙ below_three Self flat (ap (role 1) flat) (ap (role 2) flat) r (omega arith)
    where
      Self : ℕ → Type 0
      Self r = role (role_to n r 3) (walk t (role_word n r 3) g) ≡ role r g

      flat : link t 3 g ≡ g
      flat = (sheet_rule C.table C.sheet g i).plane p
