-- Split keeps a map (`split_table_lem`), by the laws of roles (`roles`): words of links that lead back to where they began (`back_walk`), and
-- the words of a map's rules, computed over the roles (`rules_true`). The live slots after are the live ones before and the new darts
-- (`split_live`, `live_split`).
use Prim.Native.Nat.{ℕ, suc}
use mathlib.Core.Path.{◌≡◌, refl, ap, ◌∙◌}
use mathlib.Core.Logic.{inl, ⊎_elim}
use mathlib.Core.Bool.{Bool, true, ◌&&◌, ◌||◌}
use mathlib.Core.List.{List, [], ◌∷◌, ◌++◌}
use native.Mathlib.Omega.{arith}
use lib.ListN.{get_or}
use lib.Dec.{eqb, ltb}
use borrow.Author.Tests.{eqb-true, ltb-true}
use Rattle.model.specs.Table.{link, walk, live}
use Rattle.model.specs.Split.{split_by}
use Rattle.model.specs.Everything.{everything}
use Rattle.model.specs.Meaning.Maps.{BlockTable, MapTable, Dim, Rule}
use Rattle.model.specs.Meaning.Splits.{Splitting}
use Rattle.theorems.proofs.Lists.Scan.{test, clash, and_l, and_r, or_cases}
use Rattle.theorems.proofs.Maps.Dim.{two_cases}
use Rattle.theorems.proofs.Maps.Tables.{map_table, rule_at}
use Rattle.theorems.proofs.Sewing.Side.{past}
use Rattle.theorems.proofs.Cells.Rows.{row_walk, small}
use Rattle.theorems.proofs.Cells.Cell.{cell_words_lem}
use Rattle.theorems.proofs.Cells.Places.{same, same_eq}
use Rattle.theorems.proofs.Cells.Chart.{word_keeps}
use Rattle.theorems.proofs.Operations.Frame.{split_frame}
use Rattle.theorems.proofs.Layers.Walk.{walk_append}
use Rattle.theorems.proofs.Layers.NewDarts.{Live}
use Rattle.theorems.proofs.Layers.Splitting.{spread, split_slots, split_whole}
use Rattle.theorems.proofs.Layers.Roles.{RoleRows, Roles, rules_hold, rules, roles_table, roles_live, live_roles}
use Rattle.theorems.proofs.Layers.SplitRole.{role_to, role_word, opposed, keeps_sheet, sheet_walk, role_link, role_plane}

-- ---- words that lead back

-- twice a link
twice : List ℕ → Bool
twice w = same w (get_or w 0 0 ∷ get_or w 0 0 ∷ []) && ltb (get_or w 0 0) 4

-- twice 1.0.1.3
abbrev around : List ℕ
around = opposed ++ (3 ∷ opposed ++ (3 ∷ []))

-- a word of the links before leads back to where it began, by the rows of a cell or as one of the two above
leads_back : ℕ → List ℕ → Bool
leads_back n w = (small n w && eqb (row_walk n w 0) 0) || (twice w || (eqb n 3 && same w around))

opposed_rows : (n : ℕ) → Dim n → (small n (opposed ++ opposed) ≡ true) × (row_walk n (opposed ++ opposed) 0 ≡ 0)
unfolding everything small row_walk
opposed_rows n dim = two_cases n dim (λ n. (small n (opposed ++ opposed) ≡ true) × (row_walk n (opposed ++ opposed) 0 ≡ 0))
    (refl, refl) (refl, refl)

module _ {n : ℕ} {t : List ℕ} (B : BlockTable n t) where
  rule : (x : ℕ) → live t x ≡ true → Rule n t x
  rule = rule_at (map_table B)

  -- for n = 3 link 3 goes past a word of the links 0 and 1
  walk_past : n ≡ 3 → (w : List ℕ) (x : ℕ) → small 2 w ≡ true → live t x ≡ true → walk t w (link t 3 x) ≡ link t 3 (walk t w x)
  unfolding walk small
  walk_past e [] x h l = refl
  walk_past e (i ∷ w) x h l =
      let rest = walk_past e w (link t i x) in
      test (ltb i 2)
      (λ q. let b = ltb-true i 2 q in
      ap (walk t w) (past (map_table B) x l i 3 (omega arith) (omega arith) (inl (omega arith)))
      ∙ rest (rw (q, small) at h) ((rule x l).goes i (omega arith)))
      (λ q. absurd (clash h (rw (q, small))))

  around_back : n ≡ 3 → (g : ℕ) → live t g ≡ true → walk t around g ≡ g
  unfolding walk small row_walk
  around_back e g l =
      let y = walk t opposed g in
      let ly = (word_keeps B (λ _. Unit {0}) (λ _ _ _ _ _. tt) opposed (rw e) g l tt).0 in
      let lz = (word_keeps B (λ _. Unit {0}) (λ _ _ _ _ _. tt) opposed (rw e) y ly tt).0 in
      let rows = opposed_rows n B.dim in
      ap (link t 3) (walk_past e opposed y refl ly) ∙ (rule (walk t opposed y) lz).comes 3 (omega arith)
      ∙ cell_words_lem (map_table B) g l (B.good g l) (opposed ++ opposed) [] rows.0 refl rows.1

  back_walk : (w : List ℕ) (g : ℕ) → leads_back n w ≡ true → live t g ≡ true → walk t w g ≡ g
  unfolding leads_back twice walk small row_walk
  back_walk w g h l =
      ⊎_elim by_rows (λ r. ⊎_elim by_link by_around (or_cases (twice w) _ r)) (or_cases (small n w && eqb (row_walk n w 0) 0) _ h)
    where
      by_rows : (small n w && eqb (row_walk n w 0) 0) ≡ true → walk t w g ≡ g
      by_rows p =
          cell_words_lem (map_table B) g l (B.good g l) w [] (and_l (small n w) _ p) refl (eqb-true _ _ (and_r (small n w) _ p))

      by_link : twice w ≡ true → walk t w g ≡ g
      by_link p =
          let i = get_or w 0 0 in
          let pair = same w (i ∷ i ∷ []) in
          ap (λ (v : List ℕ). walk t v g) (same_eq w (i ∷ i ∷ []) (and_l pair _ p))
          ∙ (rule g l).comes i (ltb-true i 4 (and_r pair (ltb i 4) p))

      by_around : (eqb n 3 && same w around) ≡ true → walk t w g ≡ g
      by_around p =
          ap (λ (v : List ℕ). walk t v g) (same_eq w around (and_r (eqb n 3) (same w around) p))
          ∙ around_back (eqb-true n 3 (and_l (eqb n 3) _ p)) g l

-- ---- the rows

abbrev split_rows : ℕ → RoleRows
split_rows n = record { changed = 0; to = role_to n; word = role_word n; keeps = keeps_sheet; back = leads_back n }

rules_true : (n : ℕ) → Dim n → rules_hold n (split_rows n) ≡ true
unfolding everything rules leads_back twice role_to role_word keeps_sheet row_walk small
rules_true n dim = two_cases n dim (λ n. rules_hold n (split_rows n) ≡ true) refl refl

module _ {n : ℕ} {t gs fs : List ℕ} (C : Splitting n t gs fs) where
  roles : Roles n (split_rows n) t (split_by n t gs fs) gs fs (walk t)
  unfolding walk
  roles = record {
    table = map_table C.table;
    spread = spread C;
    top = omega arith;
    lives = C.sheet.lives;
    over = C.sheet.along;
    far = λ x j top two m. C.sheet.far x j (⊎_elim (λ b. absurd (omega arith)) (λ b. b) two) top m;
    none = λ g. refl;
    both = walk_append t;
    within = λ w g h i. sheet_walk C.table C.sheet w g h i;
    home = λ w g h i. back_walk C.table w g h (C.sheet.lives g i);
    rules = rules_true n C.table.dim;
    same = split_slots C;
    whole = split_whole C;
    rows = role_link C;
    rest = λ x j low b k off. split_frame t C.table.whole x low n gs fs k j b off;
    plane = λ r g p b i. role_plane C (suc r) g p b i;
  }

  pub split_table_lem : MapTable n (split_by n t gs fs)
  split_table_lem = roles_table roles

  pub split_live : (x : ℕ) → Live n t gs fs x → live (split_by n t gs fs) x ≡ true
  split_live = roles_live roles

  pub live_split : (x : ℕ) → live (split_by n t gs fs) x ≡ true → Live n t gs fs x
  live_split = live_roles roles
