-- split folds no side (`split_straight`). An old dart, an a, and in 3D a b, has in its side only such darts, each of a dart of the
-- old side (`Low`), and its link n follows that of its dart. The last new dart, b in 2D and c in 3D, has in its side only
-- the last new darts of even places (`Even`), and its link n leads to that of g.0, which is at an odd one.
use Prim.Native.Nat.{ℕ, zero, suc, ◌+◌, ◌-◌, ◌%◌, ◌≤◌, ◌<◌}
use mathlib.Core.Path.{◌≡◌, refl, sym, ap, ap₂, ◌∙◌, subst}
use mathlib.Core.Logic.{inr, ◌≢◌, ⊎_elim}
use mathlib.Core.Bool.{Bool, true, false, not, ◌&&◌, ◌||◌}
use mathlib.Core.List.Memᴰ.{cast as in-cast}
use mathlib.Core.List.{List, [], ◌∷◌, Memᴰ as In}
use native.Mathlib.Nat.{le_refl}
use native.Mathlib.Omega.{arith}
use lib.Dec.{eqb, ltb}
use borrow.Author.Tests.{eqb-true, eq-eqb, ltb-true, not-true}
use Rattle.model.specs.Lists.{all_below}
use Rattle.model.specs.Table.{link, walk, live}
use Rattle.model.specs.Cell.{cell_size}
use Rattle.model.specs.Numbering.{cell_link}
use Rattle.model.specs.Sew.{side}
use Rattle.model.specs.NewDarts.{new_dart}
use Rattle.model.specs.Split.{split_by}
use Rattle.model.specs.Everything.{everything}
use Rattle.model.specs.Meaning.Maps.{BlockTable, Dim, Rule, Straight}
use Rattle.model.specs.Meaning.Sets.{Marked}
use Rattle.model.specs.Meaning.Pairings.{OnSide}
use Rattle.model.specs.Meaning.Places.{place}
use Rattle.model.specs.Meaning.Sheets.{half}
use Rattle.model.specs.Meaning.Splits.{Splitting}
use Rattle.theorems.proofs.Lists.Scan.{if_eq, clash, and_l, and_r, or_cases, below_at, below_both}
use Rattle.theorems.proofs.Lists.Ones.{in_or}
use Rattle.theorems.proofs.Maps.Dim.{two_cases, size_some}
use Rattle.theorems.proofs.Maps.Tables.{map_table, rule_at}
use Rattle.theorems.proofs.Sewing.Side.{on_side, side_own, side_far, side_within}
use Rattle.theorems.proofs.Cells.Places.{same, same_eq}
use Rattle.theorems.proofs.Cells.Rows.{row_walk, small, walk_keeps, walk_rows, rows_in}
use Rattle.theorems.proofs.Cells.Chart.{block_straight, place_chart, place_zero, place_one}
use Rattle.theorems.proofs.Layers.NewDarts.{Live, old, new, new_in, new_one, not_new}
use Rattle.theorems.proofs.Layers.Splitting.{spread, split_kept}
use Rattle.theorems.proofs.Layers.Roles.{role_dart, last_role}
use Rattle.theorems.proofs.Layers.SplitRole.{role_to, role_word, opposed, keeps_sheet, sheet_walk, role_link}
use Rattle.theorems.proofs.Layers.SplitMap.{live_split}
use Rattle.theorems.proofs.Layers.Half.{half_size, in_half_lem}

-- ---- the rows of the roles, computed

-- a link 0..n-2 leads from a role below n to one, by links 0..n-2; to a new dart by a word that keeps to the sheet
low_row : ℕ → ℕ → ℕ → Bool
low_row n r j = (ltb (role_to n r j) n && small (n - 1) (role_word n r j)) && (eqb (role_to n r j) 0 || keeps_sheet (role_word n r j))

-- link n leads over link n, to the same role
over_row : ℕ → ℕ → Bool
over_row n r = eqb (role_to n r n) r && same (role_word n r n) (n ∷ [])

-- a link 0..n-2 leads from the last role to it, by 1.0.1 or, for n = 3, by link 2
last_row : ℕ → ℕ → Bool
last_row n j = eqb (role_to n n j) n && (same (role_word n n j) opposed || (eqb n 3 && same (role_word n n j) (2 ∷ [])))

-- the places that those lead to
even : ℕ → ℕ → Bool
even n p = ltb p (half n) && eqb (p % 2) 0

even_row : ℕ → ℕ → Bool
even_row n p = not (even n p) || (even n (row_walk n opposed p) && (not (eqb n 3) || even n (cell_link n 2 p)))

record Rows (n : ℕ) : Type 0 where
  low : all_below n (λ r. all_below (n - 1) (low_row n r)) ≡ true
  over : all_below n (over_row n) ≡ true
  last : all_below (n - 1) (last_row n) ≡ true
  last_over : (role_to n n n ≡ n) × (role_word n n n ≡ 0 ∷ [])
  evens : all_below (half n) (even_row n) ≡ true
  first : even n 0 ≡ true
  odd : even n (cell_link n 0 0) ≡ false
  word : small n opposed ≡ true

rows : (n : ℕ) → Dim n → Rows n
unfolding everything low_row over_row last_row even even_row role_to role_word keeps_sheet row_walk small half
rows n dim = two_cases n dim Rows
    (record { low = refl; over = refl; last = refl; last_over = (refl, refl); evens = refl; first = refl; odd = refl; word = refl })
    (record { low = refl; over = refl; last = refl; last_over = (refl, refl); evens = refl; first = refl; odd = refl; word = refl })

module _ {n : ℕ} {t gs fs : List ℕ} (C : Splitting n t gs fs) where
  abbrev after : List ℕ
  after = split_by n t gs fs

  abbrev role : ℕ → ℕ → ℕ
  role = role_dart n gs fs

  abbrev B : BlockTable n t
  B = C.table

  abbrev dim : Dim n
  dim = C.table.dim

  rule : (x : ℕ) → live t x ≡ true → Rule n t x
  rule = rule_at (map_table B)

  -- ---- the roles below n

  module _ (h : ℕ) (l : live t h ≡ true) where
    on : OnSide n t n h
    on = on_side (map_table B) h l

    abbrev D : List ℕ
    D = side n t n h

    -- y is a dart of the old side, or a new dart, not the last, of one
    data Low (y : ℕ) : Type 0 where
      own : live t y ≡ true → Marked D y → Low y
      made : (r g : ℕ) → suc r < n → In g gs → Marked D g → y ≡ new_dart n gs fs r g → Low y

    low_role : (r g : ℕ) → r < n → (r ≢ 0 → In g gs) → live t g ≡ true → Marked D g → Low (role r g)
    unfolding role_dart
    low_role zero g b i lg m = own lg m
    low_role (suc r) g b i lg m = made r g b (i (omega arith)) m refl

    -- a link 0..n-2 before
    side_step : (y j : ℕ) → j + 2 ≤ n → (live t y ≡ true) × Marked D y → (live t (link t j y) ≡ true) × Marked D (link t j y)
    side_step y j near (ly, m) =
        let top = dim.1 in
        ((rule y ly).goes j (omega arith), side_far on y j m (inr near) (omega arith))

    -- from a dart of the sheet, or a new one
    low_step : (r g j : ℕ) → r < n → j + 2 ≤ n → In g gs → Marked D g → Low (link after j (role r g))
    unfolding low_row
    low_step r g j b c i m =
        let top = dim.1 in
        let to = role_to n r j in
        let word = role_word n r j in
        let row = below_both (low_row n) n (n - 1) (rows n dim).low r j b (omega arith) in
        let near = and_l (ltb to n && small (n - 1) word) _ row in
        let kept = and_r (ltb to n && small (n - 1) word) _ row in
        let there = walk_keeps (n - 1) t (λ y. (live t y ≡ true) × Marked D y) (λ y j b. side_step y j (omega arith)) word
        (and_r (ltb to n) _ near) g (C.sheet.lives g i, m) in
        let in_sheet_lem : to ≢ 0 → In (walk t word g) gs
        = λ e. sheet_walk B C.sheet word g (⊎_elim (λ q. absurd (e (eqb-true _ _ q))) (λ q. q) (or_cases (eqb to 0) _ kept)) i in
        subst Low (sym (role_link C r g j (omega arith) i (omega arith)))
        (low_role to (walk t word g) (ltb-true _ _ (and_l (ltb to n) _ near)) in_sheet_lem there.0 there.1)

    low_link : (y j : ℕ) → j + 2 ≤ n → Low y → Low (link after j y)
    unfolding role_dart
    low_link y j c (own ly m) = ⊎_elim (λ i. low_step 0 y j (omega arith) c i m)
        (λ out.
        let top = dim.1 in
        let (lives, there) = side_step y j c (ly, m) in
        subst Low (sym (split_kept C y j ly (omega arith) (λ _. out))) (own lives there)) (in_or gs y)
    low_link y j c (made r g b i m e) = subst (λ (z : ℕ). Low (link after j z)) (sym e) (low_step (suc r) g j b c i m)

    low_side : (x : ℕ) → Low x → (y : ℕ) → Marked (side n after n x) y → Low y
    low_side x p = side_within n after x Low p low_link

  -- link n of a role below n
  over_role : (r g : ℕ) → r < n → In g gs → link after n (role r g) ≡ role r (link t n g)
  unfolding over_row walk
  over_role r g b i =
      let top = dim.1 in
      let row = below_at (over_row n) n (rows n dim).over r b in
      let ends = eqb (role_to n r n) r in
      role_link C r g n (omega arith) i (omega arith)
      ∙ ap₂ role (eqb-true _ _ (and_l ends _ row))
      (ap (λ (w : List ℕ). walk t w g) (same_eq (role_word n r n) (n ∷ []) (and_r ends _ row)))

  old_straight : (x : ℕ) → live t x ≡ true → Straight n after x
  old_straight x l m =
      same ∙ block_straight B x l (found (low_side x l x (own l (side_own (on x l))) (link after n x) m))
    where
      same : link after n x ≡ link t n x
      same = let top = dim.1 in let two = dim.0 in split_kept C x n l (omega arith) (λ e. absurd (omega arith))

      goes : live t (link t n x) ≡ true
      goes = let top = dim.1 in (rule x l).goes n (omega arith)

      found : Low x l (link after n x) → Marked (side n t n x) (link t n x)
      found (own _ k) = subst (Marked (side n t n x)) same k
      found (made r g b i _ q) = absurd (not_new (spread C) (link t n x) goes (in-cast (sym same ∙ q) (new_in (spread C) r g (omega arith) i)))

  new_straight : (r h : ℕ) → suc r < n → In h gs → Straight n after (new_dart n gs fs r h)
  unfolding role_dart
  new_straight r h b i m =
      over ∙ ap (new_dart n gs fs r) (block_straight B h l (found (low_side h l _ (made r h b i (side_own (on h l)) refl) _ m)))
    where
      l : live t h ≡ true
      l = C.sheet.lives h i

      i' : In (link t n h) gs
      i' = C.sheet.far h n dim.0 (le_refl n) i

      over : link after n (new_dart n gs fs r h) ≡ new_dart n gs fs r (link t n h)
      over = over_role (suc r) h b i

      found : Low h l (link after n (new_dart n gs fs r h)) → Marked (side n t n h) (link t n h)
      found (own k _) = absurd (not_new (spread C) _ k (in-cast over (new_in (spread C) r (link t n h) (omega arith) i')))
      found (made q g c k m e) =
          let one = new_one (spread C) r q (link t n h) g (omega arith) (omega arith) i' k (sym over ∙ e) in
          subst (Marked (side n t n h)) (sym one.1) m

  -- ---- the last role

  module _ (h : ℕ) (i : In h gs) where
    lives : live t h ≡ true
    lives = C.sheet.lives h i

    -- y is the last new dart of an even place of h
    abbrev Even : ℕ → Type 0
    Even y = (p : ℕ) × (even n p ≡ true) × (y ≡ role n (place n t h p))

    even_low : (p : ℕ) → even n p ≡ true → p < half n
    unfolding even
    even_low p e = ltb-true _ _ (and_l (ltb p (half n)) _ e)

    even_in : (p : ℕ) → even n p ≡ true → In (place n t h p) gs
    even_in p e = in_half_lem B C.sheet h p i (even_low p e)

    even_size : (p : ℕ) → even n p ≡ true → p < cell_size n
    even_size p e = half_size n dim p (even_low p e)

    follow : (j k : ℕ) → j < n → k < cell_size n → link t j (place n t h k) ≡ place n t h (cell_link n j k)
    follow = (place_chart B h lives).follow

    even_row_lem : (p : ℕ) → even n p ≡ true → (even n (row_walk n opposed p) ≡ true) × (n ≡ 3 → even n (cell_link n 2 p) ≡ true)
    unfolding even_row
    even_row_lem p e =
        let next = even n (row_walk n opposed p) in
        let row = if_not (even n p) _ (below_at (even_row n) (half n) (rows n dim).evens p (even_low p e)) e in
        (and_l next _ row, λ three. if_not (eqb n 3) _ (and_r next _ row) (eq-eqb n 3 three))
      where
        if_not : (a b : Bool) → (not a || b) ≡ true → a ≡ true → b ≡ true
        if_not a b either h = ⊎_elim (λ q. absurd (clash h (not-true a q))) (λ q. q) (or_cases (not a) b either)

    even_step : (y j : ℕ) → j + 2 ≤ n → Even y → Even (link after j y)
    unfolding last_row walk
    even_step y j c (p, f, e) = ⊎_elim by_edge by_link (or_cases (same word opposed) _ (and_r (eqb (role_to n n j) n) _ row))
      where
        word : List ℕ
        word = role_word n n j

        row : last_row n j ≡ true
        row = below_at (last_row n) (n - 1) (rows n dim).last j (omega arith)

        at : link after j y ≡ role n (walk t word (place n t h p))
        at = ap (link after j) e ∙ role_link C n (place n t h p) j (le_refl n) (even_in p f) (let top = dim.1 in omega arith)
            ∙ ap (λ (r : ℕ). role r (walk t word (place n t h p))) (eqb-true _ _ (and_l (eqb (role_to n n j) n) _ row))

        by_word : (w : List ℕ) → same word w ≡ true → walk t word (place n t h p) ≡ walk t w (place n t h p)
        by_word w q = ap (λ (w : List ℕ). walk t w (place n t h p)) (same_eq word w q)

        by_edge : same word opposed ≡ true → Even (link after j y)
        by_edge q = (
          row_walk n opposed p,
          (even_row_lem p f).0,
          at ∙ ap (role n) (by_word opposed q ∙ walk_rows n t (place n t h) dim follow opposed p (rows n dim).word (even_size p f)),
        )

        by_link : (eqb n 3 && same word (2 ∷ [])) ≡ true → Even (link after j y)
        by_link q =
            let three = eqb-true n 3 (and_l (eqb n 3) _ q) in (
              cell_link n 2 p,
              (even_row_lem p f).1 three,
              at ∙ ap (role n) (by_word (2 ∷ []) (and_r (eqb n 3) _ q) ∙ follow 2 p (omega arith) (even_size p f)),
            )

    even_side : (y : ℕ) → Marked (side n after n (role n h)) y → Even y
    even_side = side_within n after (role n h) Even (0, (rows n dim).first, ap (role n) (place_zero B h lives)) even_step

    last_new : (x : ℕ) → role n x ≡ new_dart n gs fs (n - 1) x
    last_new = last_role n dim gs fs

    last_straight : Straight n after (role n h)
    unfolding walk
    last_straight m =
        let top = dim.1 in
        let two = dim.0 in
        let (to, word) = (rows n dim).last_over in
        let some = size_some n dim in
        let q = cell_link n 0 0 in
        let over : link after n (role n h) ≡ role n (link t 0 h)
        = role_link C n h n (le_refl n) i (omega arith) ∙ ap₂ role to (ap (λ (w : List ℕ). walk t w h) word) in
        let seen : link t 0 h ≡ place n t h q = ap (link t 0) (place_zero B h lives) ∙ follow 0 0 (omega arith) some in
        let (p, f, e) = even_side _ m in
        let same_new = sym (last_new (link t 0 h)) ∙ sym over ∙ e ∙ last_new (place n t h p) in
        let one = new_one (spread C) (n - 1) (n - 1) (link t 0 h) (place n t h p) (omega arith) (omega arith) (C.sheet.along h i) (even_in p f)
        same_new in
        let same_place = place_one B h q p lives (rows_in n 0 0 dim (omega arith) some) (even_size p f) (sym seen ∙ one.1) in
        absurd (clash f (ap (even n) (sym same_place) ∙ (rows n dim).odd))

  -- ---- all sides

  pub split_straight : (x : ℕ) → live (split_by n t gs fs) x ≡ true → Straight n (split_by n t gs fs) x
  unfolding role_dart
  split_straight x l = go x (live_split C x l)
    where
      by_role : (r h : ℕ) → r < n → In h gs → Straight n after (new_dart n gs fs r h)
      by_role r h b i = if_eq (suc r) n
          (λ e.
          let last : new_dart n gs fs r h ≡ role n h = ap (λ (k : ℕ). role k h) e in
          subst (Straight n after) (sym last) (last_straight h i))
          (λ e. new_straight r h (omega arith) i)

      go : (x : ℕ) → Live n t gs fs x → Straight n after x
      go x (old l) = old_straight x l
      go x (new w) = subst (Straight n after) (sym w.is) (by_role w.role w.of w.low w.member)
